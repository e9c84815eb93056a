-- What a call told, by its flat reply.
use Rattle.std.proofs.Common.{◌≡◌, ℕ, true, false, refl, ap, sym, ◌∙◌}
use Rattle.std.specs.Prelude.{Option, None, Result, Ok, Err, IfOk, OnOk}
use Rattle.rw_broadcast.specs.declared.calls.BReply.{BReply}
use Rattle.rw_broadcast.specs.declared.calls.BReply.TheVariants as b
use Rattle.rw_watch.specs.declared.calls.WReply.{WReply}
use Rattle.rw_watch.specs.declared.calls.WReply.TheVariants as w
use Rattle.rw_world.specs.declared.channels.ChanCall.{ChanCall}
use Rattle.rw_world.specs.declared.channels.ChanCall.TheVariants as call
use Rattle.rw_world.specs.declared.channels.ChanReply.{ChanReply}
use Rattle.rw_journal.specs.declared.answers.TakeFault.{TakeFault}
use Rattle.rw_journal.specs.declared.answers.TakeFault.TheVariants as f
use Rattle.rw_world.specs.Kinds.{broadcast_shown, watch_shown}
use Rattle.rw_world.specs.Machines.{ChanShown, of_chan}
use Rattle.rw_waiting.specs.declared.notices.WaitFor.{WaitFor}
use Rattle.rw_waiting.specs.Told.{told_by_counts, counts_of}
use Rattle.rw_broadcast.specs.Shown as broadcasts
use Rattle.rw_watch.specs.Shown as watches
use Rattle.rw_waiting.specs.Broadcasts as broadcast
use Rattle.rw_waiting.specs.Watches as watch
use Rattle.rw_waiting.proofs.Replying as replying
use Rattle.rw_waiting.proofs.ReplyingWatch as replying_watch
use Rattle.rw_steps.specs.declared.reply.Reply.{Reply}
use Rattle.rw_steps.specs.declared.reply.Reply.TheVariants as r
use Rattle.rw_steps.specs.Replies.{of_broadcast, of_watch, of_reply, of_fault, of_made, told, told_with}
use Rattle.rw_steps.specs.Steps.{counts_in, drops, told_in, told_if}

of_broadcasts : (dropped : Option WaitFor) (reply : BReply ℕ) → told_with dropped (of_broadcast reply) ≡ broadcast.told_after_reply dropped reply
of_broadcasts dropped b.Dropped = refl
of_broadcasts dropped _ = refl

of_watches : (dropped : Option WaitFor) (reply : WReply ℕ) → told_with dropped (of_watch reply) ≡ watch.told_after_reply dropped reply
of_watches dropped (w.Told true) = refl
of_watches dropped (w.Told false) = refl
of_watches dropped (w.Flag true) = refl
of_watches dropped (w.Flag false) = refl
of_watches dropped _ = refl

pub alone : (reply : Reply) → told_with None reply ≡ told reply
alone r.Dropped = refl
alone _ = refl

-- if it drops no handle, its reply tells what it told
pub told_alone : (x : ChanShown ℕ) (c : ChanCall ℕ) → drops c ≡ false → told (of_reply (of_chan.reply_of x c)) ≡ told_in x c
told_alone (broadcast_shown x) (call.B c) other =
    sym (alone (of_reply (of_chan.reply_of (broadcast_shown x) (call.B c)))) ∙ of_broadcasts None _ ∙ replying.is_told_by_reply_alone ℕ x c other
told_alone (broadcast_shown x) (call.W d) other = refl
told_alone (watch_shown y) (call.B c) other = refl
told_alone (watch_shown y) (call.W d) other =
    sym (alone (of_reply (of_chan.reply_of (watch_shown y) (call.W d)))) ∙ of_watches None _ ∙ replying_watch.is_told_by_reply_alone ℕ y d other

-- with the counts before and after it, its reply always does
pub told_counted : (x : ChanShown ℕ) (c : ChanCall ℕ)
    → told_with (told_by_counts (counts_in x) (counts_in (of_chan.next x c))) (of_reply (of_chan.reply_of x c)) ≡ told_in x c
told_counted (broadcast_shown x) (call.B c) =
    of_broadcasts (told_by_counts (counts_of x.slots) (counts_of (broadcasts.next x c).slots)) (broadcasts.reply_of x c) ∙ replying.is_told_by_reply ℕ x c
told_counted (broadcast_shown x) (call.W d) = refl
told_counted (watch_shown y) (call.B c) = refl
told_counted (watch_shown y) (call.W d) =
    of_watches (told_by_counts (counts_of y.slots) (counts_of (watches.next y d).slots)) (watches.reply_of y d) ∙ replying_watch.is_told_by_reply ℕ y d

-- a call that isn't made tells nobody
of_faults : (dropped : Option WaitFor) (fault : TakeFault) → told_with dropped (of_fault fault) ≡ None
of_faults dropped f.Waits = refl
of_faults dropped _ = refl

module _ (x : ChanShown ℕ) (c : ChanCall ℕ) where
  pub told_by_flat : (made : Result (ChanReply ℕ) TakeFault) (reply : Reply) → drops c ≡ false → reply ≡ of_made made
      → IfOk made (λ r. r ≡ of_chan.reply_of x c) → told reply ≡ told_if x c made
  told_by_flat (Ok r) reply other is same = ap told is ∙ ap (λ k. told (of_reply k)) same ∙ told_alone x c other
  told_by_flat (Err fault) reply other is same = ap told is ∙ sym (alone (of_fault fault)) ∙ of_faults None fault

  pub told_by_flat_counted : (y : ChanShown ℕ) (made : Result (ChanReply ℕ) TakeFault) (reply : Reply) → reply ≡ of_made made
      → IfOk made (λ r. r ≡ of_chan.reply_of x c) → OnOk made (y ≡ of_chan.next x c)
      → told_with (told_by_counts (counts_in x) (counts_in y)) reply ≡ told_if x c made
  told_by_flat_counted y (Ok r) reply is same shown =
      ap (told_with (told_by_counts (counts_in x) (counts_in y))) is
      ∙ ap (λ k. told_with (told_by_counts (counts_in x) (counts_in y)) (of_reply k)) same
      ∙ ap (λ z. told_with (told_by_counts (counts_in x) (counts_in z)) (of_reply (of_chan.reply_of x c))) shown
      ∙ told_counted x c
  told_by_flat_counted y (Err fault) reply is same shown =
      ap (told_with (told_by_counts (counts_in x) (counts_in y))) is ∙ of_faults (told_by_counts (counts_in x) (counts_in y)) fault
