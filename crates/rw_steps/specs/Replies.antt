-- What a call returns, in one list of replies: those of both kinds of channel, and why a call wasn't made.
use Rattle.std.specs.Prelude.{ℕ, Bool, true, false, if◌then◌else◌, ◌==◌, Option, Some, None, Result, Ok, Err}
use Rattle.rw_broadcast.specs.declared.calls.BReply.{BReply}
use Rattle.rw_broadcast.specs.declared.calls.BReply.TheVariants as b
use Rattle.rw_watch.specs.declared.calls.WReply.{WReply}
use Rattle.rw_watch.specs.declared.calls.WReply.TheVariants as w
use Rattle.rw_world.specs.declared.channels.ChanReply.{ChanReply}
use Rattle.rw_world.specs.declared.channels.ChanReply.TheVariants as c
use Rattle.rw_journal.specs.declared.answers.TakeFault.{TakeFault}
use Rattle.rw_journal.specs.declared.answers.TakeFault.TheVariants as f
use Rattle.rw_waiting.specs.declared.notices.WaitFor.{WaitFor}
use Rattle.rw_waiting.specs.declared.notices.WaitFor.TheVariants as wait
use Rattle.rw_steps.specs.declared.reply.Reply.{Reply}
use Rattle.rw_steps.specs.declared.reply.Reply.TheVariants as r

abbrev pub number_of : Bool → ℕ
number_of true = 1
number_of false = 0

abbrev pub of_broadcast : BReply ℕ → Reply
of_broadcast (b.Sent n) = r.Sent n
of_broadcast (b.NoReceivers v) = r.NoReceivers v
of_broadcast (b.Value v) = r.Value v
of_broadcast (b.Lagged n) = r.Lagged n
of_broadcast b.Empty = r.Empty
of_broadcast b.Closed = r.Closed
of_broadcast b.Waits = r.Waits
of_broadcast (b.New h) = r.New h
of_broadcast b.Dropped = r.Dropped
of_broadcast (b.Count n) = r.Count n
of_broadcast b.Unknown = r.Unknown
of_broadcast b.Gone = r.Gone
of_broadcast b.WrongKind = r.WrongKind
of_broadcast b.TooManyHandles = r.TooManyHandles
of_broadcast b.NoSender = r.NoSender

abbrev pub of_watch : WReply ℕ → Reply
of_watch w.Stored = r.Stored
of_watch (w.NoReceivers v) = r.NoReceivers v
of_watch (w.Old v) = r.Old v
of_watch (w.Told notified) = r.Told (number_of notified)
of_watch (w.New h) = r.New h
of_watch (w.Value v) = r.Value v
of_watch (w.Flag flag) = r.Flag (number_of flag)
of_watch w.Closed = r.Closed
of_watch w.Waits = r.Waits
of_watch w.Done = r.Done
of_watch (w.Count n) = r.Count n
of_watch w.Dropped = r.Dropped
of_watch w.Unknown = r.Unknown
of_watch w.Gone = r.Gone
of_watch w.WrongKind = r.WrongKind
of_watch w.TooManyHandles = r.TooManyHandles

abbrev pub of_reply : ChanReply ℕ → Reply
of_reply (c.B reply) = of_broadcast reply
of_reply (c.W reply) = of_watch reply
of_reply c.NoChannel = r.NoChannel

abbrev pub of_fault : TakeFault → Reply
of_fault f.JournalFull = r.JournalFull
of_fault f.NoMemory = r.NoMemory
of_fault f.Waits = r.Waits
of_fault f.NoChannel = r.NoChannel

-- what a call returns that was made, or wasn't
abbrev pub of_made : Result (ChanReply ℕ) TakeFault → Reply
of_made (Ok reply) = of_reply reply
of_made (Err fault) = of_fault fault

-- what a call with this reply told those who wait, unless it dropped a handle
abbrev pub told : Reply → Option WaitFor
told (r.Sent n) = Some wait.Value
told r.Stored = Some wait.Value
told (r.Old v) = Some wait.Value
told (r.Told n) = if n == 0 then None else Some wait.Value
told _ = None

-- and where the drop of a handle would have told so
abbrev pub told_with : (dropped : Option WaitFor) → Reply → Option WaitFor
told_with dropped r.Dropped = dropped
told_with dropped reply = told reply

-- the reply to a question that is answered by yes or no
abbrev pub flag : Bool → Reply
flag answer = r.Flag (number_of answer)

-- the number that a reply carries
abbrev pub number : Reply → Option ℕ
number (r.Sent n) = Some n
number (r.NoReceivers v) = Some v
number (r.Value v) = Some v
number (r.Lagged n) = Some n
number (r.New h) = Some h
number (r.Count n) = Some n
number (r.Old v) = Some v
number (r.Told n) = Some n
number (r.Flag n) = Some n
number _ = None

-- the value that a watch was sent is the one that it holds from here on
abbrev pub says_stored : Reply → Bool
says_stored r.Stored = true
says_stored (r.Old v) = true
says_stored (r.Told n) = true
says_stored _ = false

-- the call was made, and its handle could make it
abbrev pub answers : Reply → Bool
answers r.Waits = false
answers r.NoMemory = false
answers r.JournalFull = false
answers r.TooManyHandles = false
answers r.Unknown = false
answers r.Gone = false
answers r.WrongKind = false
answers r.NoChannel = false
answers _ = true
