-- With other numbers of handles, calls of channels have the same replies, but for the numbers.
use Rattle.std.proofs.Common.{◌+◌, ◌≤◌, [], ◌∷◌, length, refl, ap, ◌∙◌, arith, length-set}
use Rattle.std.specs.Prelude.{map}
use Rattle.std.proofs.lemmas.List.{length_push}
use Rattle.rw_handles.specs.declared.kinds.Kind.TheVariants.{Receiver}
use Rattle.rw_handles.specs.declared.kinds.Slot.TheVariants.{Live, Spent}
use Rattle.rw_broadcast.specs.Channel as b
use Rattle.rw_broadcast.specs.Shown as b_shown
use Rattle.rw_broadcast.proofs.Renaming as broadcast
use Rattle.rw_watch.specs.Channel as w
use Rattle.rw_watch.specs.Shown as w_shown
use Rattle.rw_watch.proofs.Renaming as watch
use Rattle.rw_world.specs.declared.channels.ChanCall.{ChanCall}
use Rattle.rw_world.specs.declared.channels.ChanCall.TheVariants as call
use Rattle.rw_world.specs.declared.channels.ChanReply.TheVariants as reply
use Rattle.rw_world.specs.Kinds.{broadcast_shown, watch_shown}
use Rattle.rw_world.specs.Machines.{ChanShown, handles_made, of_chan}
use Rattle.rw_world.specs.Renaming.{renamed_call, renamed_reply, replies, RepliesRenamed, RepliesRenamedThroughout}

pub replies_renamed : (V : Type 0) → RepliesRenamed V
replies_renamed V to (broadcast_shown x) (broadcast_shown y) (call.B c) is few =
    let same = broadcast.replies_renamed V to x y c is few in (ap reply.B same.0, same.1)
replies_renamed V to (broadcast_shown x) (broadcast_shown y) (call.W d) is few = (refl, is)
replies_renamed V to (watch_shown x) (watch_shown y) (call.B c) is few = (refl, is)
replies_renamed V to (watch_shown x) (watch_shown y) (call.W d) is few =
    let same = watch.replies_renamed V to x y d is few in (ap reply.W same.0, same.1)
replies_renamed V to (broadcast_shown x) (watch_shown y) c is few = elim is [ ]
replies_renamed V to (watch_shown x) (broadcast_shown y) c is few = elim is [ ]

module _ {V : Type 0} where
  one_more_on_broadcast : (x : b_shown.Shown V) (c : b.Change V) → length (b_shown.with_change x c).slots ≤ length x.slots + 1
  one_more_on_broadcast x b.Keep = omega arith
  one_more_on_broadcast x (b.Append v) = omega arith
  one_more_on_broadcast x (b.Make kind p) = omega (arith, length_push x.slots (Live kind p))
  one_more_on_broadcast x (b.Move h from to) = omega (arith, length-set x.slots h (Live Receiver to))
  one_more_on_broadcast x (b.Leave h kind p) = omega (arith, length-set x.slots h Spent)

  one_more_on_watch : (x : w_shown.Shown V) (c : w.Change V) → length (w_shown.with_change x c).slots ≤ length x.slots + 1
  one_more_on_watch x w.Keep = omega arith
  one_more_on_watch x (w.Write v told) = omega arith
  one_more_on_watch x (w.Make kind m) = omega (arith, length_push x.slots (Live kind m))
  one_more_on_watch x (w.Mark h from to) = omega (arith, length-set x.slots h (Live Receiver to))
  one_more_on_watch x (w.Leave h kind m) = omega (arith, length-set x.slots h Spent)

  -- a call makes at most one handle
  one_more : (x : ChanShown V) (c : ChanCall V) → handles_made (of_chan.next x c) ≤ handles_made x + 1
  one_more (broadcast_shown x) (call.B c) = one_more_on_broadcast x (b.effect (b_shown.channel_of x) c).0
  one_more (broadcast_shown x) (call.W d) = omega arith
  one_more (watch_shown y) (call.B c) = omega arith
  one_more (watch_shown y) (call.W d) = one_more_on_watch y (w.effect y d).0

pub replies_renamed_throughout : (V : Type 0) → RepliesRenamedThroughout V
replies_renamed_throughout V to x y [] is few less = refl
replies_renamed_throughout V to x y (c ∷ calls) is few less =
    let here = replies_renamed V to x y c is (λ _. (omega (arith, few), omega (arith, less))) in
    let onward = replies_renamed_throughout V to (of_chan.next x c) (of_chan.next y (renamed_call to c)) calls here.1
    (omega (arith, few, one_more x c)) (omega (arith, less, one_more y (renamed_call to c))) in
    ap (λ r. r ∷ replies (of_chan.next y (renamed_call to c)) (map (renamed_call to) calls)) here.0
    ∙ ap (λ rs. renamed_reply to (of_chan.reply_of x c) ∷ rs) onward
