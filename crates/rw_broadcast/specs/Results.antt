-- Replies as the results and errors of tokio's methods.
use Rattle.std.specs.Prelude.{ℕ, Option, Some, None, Result, Ok, Err}
use Rattle.rw_handles.specs.declared.kinds.HandleFault.TheVariants as fault
use Rattle.rw_handles.specs.declared.refusals.Refusal.{Refusal}
use Rattle.rw_handles.specs.declared.refusals.Refusal.TheVariants as refusal
use Rattle.rw_handles.specs.declared.refusals.SendError.{SendError}
use Rattle.rw_handles.specs.declared.refusals.SendError.TheVariants as send
use Rattle.rw_broadcast.specs.declared.calls.BReply.{BReply}
use Rattle.rw_broadcast.specs.declared.calls.BReply.TheVariants.{Sent, NoReceivers, Value, Lagged, Empty, Closed, Waits, New}
use Rattle.rw_broadcast.specs.declared.calls.BReply.TheVariants.{Dropped, Count, Unknown, Gone, WrongKind, TooManyHandles, NoSender}
use Rattle.rw_broadcast.specs.declared.results.TryRecvError.{TryRecvError}
use Rattle.rw_broadcast.specs.declared.results.TryRecvError.TheVariants as receive

-- why a reply has no result for its call, where that call has no error of its own for it
abbrev pub refusal_of : {V : Type 0} → BReply V → Refusal
refusal_of Unknown = refusal.Handle fault.Unknown
refusal_of Gone = refusal.Handle fault.Gone
refusal_of WrongKind = refusal.Handle fault.WrongKind
refusal_of TooManyHandles = refusal.TooManyHandles
refusal_of Waits = refusal.Waits
refusal_of _ = refusal.OtherCall

-- of a send: how many receivers the value was sent to, or the value itself
abbrev pub sent : {V : Type 0} → BReply V → Result ℕ (SendError V)
sent (Sent receivers) = Ok receivers
sent (NoReceivers v) = Err (send.NoReceivers v)
sent reply = Err (send.Refused (refusal_of reply))

-- of a receive: the value, or why there is none
abbrev pub received : {V : Type 0} → BReply V → Result V TryRecvError
received (Value v) = Ok v
received (Lagged skipped) = Err (receive.Lagged skipped)
received Empty = Err receive.Empty
received Waits = Err receive.Empty
received Closed = Err receive.Closed
received reply = Err (receive.Refused (refusal_of reply))

-- of a call that always makes a handle, unless it is refused: its number
abbrev pub made : {V : Type 0} → BReply V → Result ℕ Refusal
made (New handle) = Ok handle
made reply = Err (refusal_of reply)

-- of an upgrade: the number of the sender, or None
abbrev pub upgraded : {V : Type 0} → BReply V → Result (Option ℕ) Refusal
upgraded (New handle) = Ok (Some handle)
upgraded NoSender = Ok None
upgraded reply = Err (refusal_of reply)

-- of a drop
abbrev pub dropped : {V : Type 0} → BReply V → Result (Unit {0}) Refusal
dropped Dropped = Ok tt
dropped reply = Err (refusal_of reply)

-- of a call that reads a number
abbrev pub count : {V : Type 0} → BReply V → Result ℕ Refusal
count (Count n) = Ok n
count reply = Err (refusal_of reply)
