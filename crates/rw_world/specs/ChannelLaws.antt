-- A channel of either kind obeys the laws, if the machines of both kinds do.
use Rattle.std.proofs.Common.{◌≡◌, ◌+◌, ◌≤◌, true, refl, ap, arith}
use Rattle.rw_law.specs.Journal.{LawsOf}
use Rattle.rw_law.specs.Laws.{Laws}
use Rattle.rw_world.specs.Kinds.{Shown, broadcast_shown, watch_shown, channel_kind}
use Rattle.rw_world.specs.Channel.{OfBroadcast, OfWatch, strays_at, IsAllowed, weigh, next, reply_of, patch_of, back, Fits, refuses, waits, strays}
use Rattle.rw_world.specs.declared.channels.ChanCall.{ChanCall}
use Rattle.rw_world.specs.declared.channels.ChanCall.TheVariants as call
use Rattle.rw_world.specs.declared.channels.ChanReply.{ChanReply}
use Rattle.rw_world.specs.declared.channels.ChanReply.TheVariants as reply

module _ {V : Type 0} (b : OfBroadcast V) (w : OfWatch V) where
  -- a call doesn't change the kind
  pub kind_stays : (x : Shown b.View w.View) (c : ChanCall V) → channel_kind (next b w x c) ≡ channel_kind x
  kind_stays (broadcast_shown x) (call.B c) = refl
  kind_stays (broadcast_shown x) (call.W d) = refl
  kind_stays (watch_shown y) (call.B c) = refl
  kind_stays (watch_shown y) (call.W d) = refl

  -- a call strays exactly where it is of the other kind
  pub strays_by_kind : (x : Shown b.View w.View) (c : ChanCall V) → strays b w (reply_of b w x c) ≡ strays_at (channel_kind x) c
  strays_by_kind (broadcast_shown x) (call.B c) = refl
  strays_by_kind (broadcast_shown x) (call.W d) = refl
  strays_by_kind (watch_shown y) (call.B c) = refl
  strays_by_kind (watch_shown y) (call.W d) = refl

  module _ (of_b : LawsOf b) (of_w : LawsOf w) where
    undone_at : (x : Shown b.View w.View) (c : ChanCall V) → IsAllowed b w x → back b w (next b w x c) c (patch_of b w x c) ≡ x
    undone_at (broadcast_shown x) (call.B c) allowed = ap broadcast_shown (of_b.undone x c allowed)
    undone_at (broadcast_shown x) (call.W d) allowed = refl
    undone_at (watch_shown y) (call.B c) allowed = refl
    undone_at (watch_shown y) (call.W d) allowed = ap watch_shown (of_w.undone y d allowed)

    allowed_at : (x : Shown b.View w.View) (c : ChanCall V) → IsAllowed b w x → IsAllowed b w (next b w x c)
    allowed_at (broadcast_shown x) (call.B c) allowed = of_b.next_allowed x c allowed
    allowed_at (broadcast_shown x) (call.W d) allowed = allowed
    allowed_at (watch_shown y) (call.B c) allowed = allowed
    allowed_at (watch_shown y) (call.W d) allowed = of_w.next_allowed y d allowed

    fits_at : (x : Shown b.View w.View) (c : ChanCall V) → IsAllowed b w x → Fits b w (next b w x c) c (patch_of b w x c)
    fits_at (broadcast_shown x) (call.B c) allowed = of_b.patch_fits x c allowed
    fits_at (broadcast_shown x) (call.W d) allowed = tt
    fits_at (watch_shown y) (call.B c) allowed = tt
    fits_at (watch_shown y) (call.W d) allowed = of_w.patch_fits y d allowed

    refused_at : (x : Shown b.View w.View) (c : ChanCall V) → IsAllowed b w x → refuses b w (reply_of b w x c) ≡ true → next b w x c ≡ x
    refused_at (broadcast_shown x) (call.B c) allowed refuses = ap broadcast_shown (of_b.refused x c allowed refuses)
    refused_at (broadcast_shown x) (call.W d) allowed refuses = refl
    refused_at (watch_shown y) (call.B c) allowed refuses = refl
    refused_at (watch_shown y) (call.W d) allowed refuses = ap watch_shown (of_w.refused y d allowed refuses)

    waiting_at : (r : ChanReply V) → waits b w r ≡ true → refuses b w r ≡ true
    waiting_at (reply.B r) waits = of_b.waiting_refuses r waits
    waiting_at (reply.W s) waits = of_w.waiting_refuses s waits
    waiting_at reply.NoChannel waits = refl

    straying_at : (r : ChanReply V) → strays b w r ≡ true → refuses b w r ≡ true
    straying_at (reply.B r) strays = cc
    straying_at (reply.W s) strays = cc
    straying_at reply.NoChannel strays = refl

    rises_at : (x : Shown b.View w.View) (c : ChanCall V) → IsAllowed b w x → weigh b w (next b w x c) ≤ weigh b w x + 1
    rises_at (broadcast_shown x) (call.B c) allowed = of_b.weight_rises x c allowed
    rises_at (broadcast_shown x) (call.W d) allowed = omega arith
    rises_at (watch_shown y) (call.B c) allowed = omega arith
    rises_at (watch_shown y) (call.W d) allowed = of_w.weight_rises y d allowed

    pub channel_laws : Laws (IsAllowed b w) (weigh b w) (next b w) (reply_of b w) (patch_of b w) (back b w) (Fits b w) (refuses b w) (waits b w) (strays b w)
    channel_laws = record {
      undone = undone_at;
      next_allowed = allowed_at;
      patch_fits = fits_at;
      refused = refused_at;
      waiting_refuses = waiting_at;
      straying_refuses = straying_at;
      weight_rises = rises_at;
    }
