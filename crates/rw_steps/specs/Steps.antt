-- A call as a whole step: its reply, its record, and what it tells those who wait.
use Rattle.std.specs.Prelude.{◌≡◌, ℕ, Bool, false, Option, None, Result, Ok, Err}
use Rattle.rw_world.specs.declared.channels.ChanCall.{ChanCall}
use Rattle.rw_world.specs.declared.channels.ChanCall.TheVariants as call
use Rattle.rw_world.specs.declared.channels.ChanReply.{ChanReply}
use Rattle.rw_world.specs.Kinds.{broadcast_shown, watch_shown}
use Rattle.rw_world.specs.Machines.{ChanShown}
use Rattle.rw_journal.specs.declared.answers.TakeFault.{TakeFault}
use Rattle.rw_waiting.specs.declared.notices.WaitFor.{WaitFor}
use Rattle.rw_waiting.specs.declared.notices.Counts.{Counts}
use Rattle.rw_waiting.specs.Broadcasts as broadcast
use Rattle.rw_waiting.specs.Watches as watch
use Rattle.rw_waiting.specs.Told.{counts_of}
use Rattle.rw_steps.specs.declared.reply.Reply.{Reply}
use Rattle.rw_steps.specs.Replies.{of_made, told}

-- how many senders and how many receivers are alive
abbrev pub counts_in : ChanShown ℕ → Counts
counts_in (broadcast_shown x) = counts_of x.slots
counts_in (watch_shown y) = counts_of y.slots

-- whether a call drops a handle
abbrev pub drops : ChanCall ℕ → Bool
drops (call.B c) = broadcast.drops c
drops (call.W d) = watch.drops d

-- what a call tells those who wait, in the words of the theorem that nobody waits in vain; one of the other kind of channel tells nobody
abbrev pub told_in : ChanShown ℕ → ChanCall ℕ → Option WaitFor
told_in (broadcast_shown x) (call.B c) = broadcast.told_by x c
told_in (watch_shown y) (call.W d) = watch.told_by y d
told_in _ _ = None

-- a call that isn't made tells nobody
abbrev pub told_if : ChanShown ℕ → ChanCall ℕ → Result (ChanReply ℕ) TakeFault → Option WaitFor
told_if x c (Ok reply) = told_in x c
told_if x c (Err fault) = None

-- The call was made and recorded, or wasn't made, and this is its reply, or why. If it drops no handle, its reply says what it told.
pub record IsMade (IsRecorded : Result (ChanReply ℕ) TakeFault → Type 0) (x : ChanShown ℕ) (c : ChanCall ℕ) (reply : Reply) : Type 0 where
  pub made : Result (ChanReply ℕ) TakeFault
  pub recorded : IsRecorded made
  pub reply_is : reply ≡ of_made made
  pub told_is : drops c ≡ false → told reply ≡ told_if x c made

-- the same, and this is what it told, also if it dropped a handle
pub record IsTold (IsRecorded : Result (ChanReply ℕ) TakeFault → Type 0) (x : ChanShown ℕ) (c : ChanCall ℕ) (reply : Reply) (tells : Option WaitFor)
    : Type 0 where
  pub made : Result (ChanReply ℕ) TakeFault
  pub recorded : IsRecorded made
  pub reply_is : reply ≡ of_made made
  pub told_is : tells ≡ told_if x c made
