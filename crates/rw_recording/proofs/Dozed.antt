-- Several receivers that lag and aren't asked.
use Rattle.std.proofs.Common.{◌≡◌, ℕ, zero, suc, List, [], ◌∷◌, ◌++◌, refl, ap, sym, ◌∙◌}
use Rattle.std.specs.Prelude.{All}
use Rattle.std.proofs.lemmas.List.Elements.{All-nil, All-head, All-tail}
use Rattle.rw_broadcast.specs.declared.calls.BCall.{BCall}
use Rattle.rw_broadcast.specs.Arithmetic.{oldest}
use Rattle.rw_broadcast.specs.Dozing.{changed, dozing_slot, dozing, LeavesAlone}
use Rattle.rw_broadcast.specs.Shown.{Shown, next, reply_of}
use Rattle.rw_broadcast.proofs.Dozing.{replies_dozing, replies_dozing_throughout}
use Rattle.rw_watch.specs.Shown as w
use Rattle.rw_world.specs.declared.channels.ChanCall.{ChanCall}
use Rattle.rw_world.specs.declared.channels.ChanCall.TheVariants as call
use Rattle.rw_world.specs.declared.channels.ChanReply.TheVariants as reply
use Rattle.rw_world.specs.Kinds.{broadcast_shown, watch_shown}
use Rattle.rw_world.specs.Machines.{ChanShown, of_chan}
use Rattle.rw_recording.specs.Windows.{all_dozing, dozed, IsQuiet}

-- ---- in any order

changed_both : {A : Type 0} (g h : ℕ) (f : A → A) (xs : List A) → changed g f (changed h f xs) ≡ changed h f (changed g f xs)
changed_both g h f [] = refl
changed_both zero zero f (x ∷ xs) = refl
changed_both zero (suc h) f (x ∷ xs) = refl
changed_both (suc g) zero f (x ∷ xs) = refl
changed_both (suc g) (suc h) f (x ∷ xs) = ap (λ l. x ∷ l) (changed_both g h f xs)

both_doze : (g h : ℕ) (x : Shown ℕ) → dozing g (dozing h x) ≡ dozing h (dozing g x)
both_doze g h x = ap (λ l. record x { slots = l }) (changed_both g h (dozing_slot (oldest x.sent x.capacity)) x.slots)

all_doze : (h : ℕ) (hs : List ℕ) (x : Shown ℕ) → all_dozing hs (dozing h x) ≡ dozing h (all_dozing hs x)
all_doze h [] x = refl
all_doze h (g ∷ hs) x = ap (all_dozing hs) (both_doze g h x) ∙ all_doze h hs (dozing g x)

-- one more
pub one_more_dozes : (hs : List ℕ) (h : ℕ) (x : Shown ℕ) → all_dozing (hs ++ h ∷ []) x ≡ dozing h (all_dozing hs x)
one_more_dozes [] h x = refl
one_more_dozes (g ∷ hs) h x = one_more_dozes hs h (dozing g x)

-- ---- a call that asks none of them

step_dozing : (hs : List ℕ) (c : BCall ℕ) (x : Shown ℕ) → All (λ h. LeavesAlone h c) hs
    → (reply_of (all_dozing hs x) c ≡ reply_of x c) × (all_dozing hs (next (all_dozing hs x) c) ≡ all_dozing hs (next x c))
step_dozing [] c x quiet = (refl, refl)
step_dozing (h ∷ hs) c x quiet =
    let one = replies_dozing ℕ h x c (All-head (λ h. LeavesAlone h c) h hs quiet) in
    let rest = step_dozing hs c (dozing h x) (All-tail (λ h. LeavesAlone h c) h hs quiet) in (
      rest.0 ∙ one.0,
      all_doze h hs (next (all_dozing hs (dozing h x)) c)
          ∙ (ap (dozing h) rest.1 ∙ (sym (all_doze h hs (next (dozing h x) c)) ∙ ap (all_dozing hs) one.1)),
    )

-- channels that differ by how far they lag alone
inner : Shown ℕ → ChanShown ℕ → Shown ℕ
inner d (broadcast_shown x) = x
inner d (watch_shown y) = d

outer : w.Shown ℕ → ChanShown ℕ → w.Shown ℕ
outer d (broadcast_shown x) = d
outer d (watch_shown y) = y

pub dozed_step : (hs : List ℕ) (c : ChanCall ℕ) (a b : ChanShown ℕ) → IsQuiet hs c → dozed hs a ≡ dozed hs b
    → (of_chan.reply_of a c ≡ of_chan.reply_of b c) × (dozed hs (of_chan.next a c) ≡ dozed hs (of_chan.next b c))
unfolding inner outer
dozed_step hs (call.B c) (broadcast_shown a) (broadcast_shown b) quiet same =
    let here : all_dozing hs a ≡ all_dozing hs b = ap (inner a) same in
    let first = step_dozing hs c a quiet in
    let second = step_dozing hs c b quiet in (
      ap reply.B (sym first.0 ∙ (ap (λ z. reply_of z c) here ∙ second.0)),
      ap broadcast_shown (sym first.1 ∙ (ap (λ z. all_dozing hs (next z c)) here ∙ second.1)),
    )
dozed_step hs (call.W d) (broadcast_shown a) (broadcast_shown b) quiet same = (refl, same)
dozed_step hs (call.B c) (watch_shown a) (watch_shown b) quiet same = (refl, same)
dozed_step hs (call.W d) (watch_shown a) (watch_shown b) quiet same =
    let here : a ≡ b = ap (outer a) same in
    (ap (λ z. of_chan.reply_of (watch_shown z) (call.W d)) here, ap (λ z. of_chan.next (watch_shown z) (call.W d)) here)
dozed_step hs c (broadcast_shown a) (watch_shown b) quiet same = absurd cc
dozed_step hs c (watch_shown a) (broadcast_shown b) quiet same = absurd cc

-- those that doze already
pub again : (hs : List ℕ) (x : Shown ℕ) → all_dozing hs (all_dozing hs x) ≡ all_dozing hs x
again [] x = refl
again (h ∷ hs) x =
    ap (all_dozing hs) (sym (all_doze h hs (dozing h x)))
    ∙ (again hs (dozing h (dozing h x))
    ∙ ap (all_dozing hs) (replies_dozing_throughout ℕ h x [] (All-nil (LeavesAlone h))).1)

pub dozed_again : (hs : List ℕ) (x : ChanShown ℕ) → dozed hs (dozed hs x) ≡ dozed hs x
dozed_again hs (broadcast_shown x) = ap broadcast_shown (again hs x)
dozed_again hs (watch_shown y) = refl
