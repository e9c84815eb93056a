-- Replies as the results and errors of tokio's methods.
use Rattle.std.specs.Prelude.{ℕ, Bool, Result, Ok, Err}
use Rattle.rw_handles.specs.declared.kinds.HandleFault.TheVariants as fault
use Rattle.rw_handles.specs.declared.refusals.Refusal.{Refusal}
use Rattle.rw_handles.specs.declared.refusals.Refusal.TheVariants as refusal
use Rattle.rw_handles.specs.declared.refusals.SendError.{SendError}
use Rattle.rw_handles.specs.declared.refusals.SendError.TheVariants as send
use Rattle.rw_watch.specs.declared.calls.WReply.{WReply}
use Rattle.rw_watch.specs.declared.calls.WReply.TheVariants.{Stored, NoReceivers, Old, Told, New, Value, Flag, Closed, Waits}
use Rattle.rw_watch.specs.declared.calls.WReply.TheVariants.{Done, Count, Dropped, Unknown, Gone, WrongKind, TooManyHandles}
use Rattle.rw_watch.specs.declared.results.RecvError.{RecvError}
use Rattle.rw_watch.specs.declared.results.RecvError.TheVariants as receive

-- why a reply has no result for its call, where that call has no error of its own for it
abbrev pub refusal_of : {V : Type 0} → WReply V → Refusal
refusal_of Unknown = refusal.Handle fault.Unknown
refusal_of Gone = refusal.Handle fault.Gone
refusal_of WrongKind = refusal.Handle fault.WrongKind
refusal_of TooManyHandles = refusal.TooManyHandles
refusal_of Waits = refusal.Waits
refusal_of _ = refusal.OtherCall

-- of a send: Ok where the value was stored, or the value itself
abbrev pub sent : {V : Type 0} → WReply V → Result (Unit {0}) (SendError V)
sent Stored = Ok tt
sent (NoReceivers v) = Err (send.NoReceivers v)
sent reply = Err (send.Refused (refusal_of reply))

-- of a replacing send: the previous value
abbrev pub replaced : {V : Type 0} → WReply V → Result V Refusal
replaced (Old v) = Ok v
replaced reply = Err (refusal_of reply)

-- of a modification: whether the receivers were notified of it
abbrev pub modified : {V : Type 0} → WReply V → Result Bool Refusal
modified (Told told) = Ok told
modified reply = Err (refusal_of reply)

-- of a read of the value
abbrev pub borrowed : {V : Type 0} → WReply V → Result V Refusal
borrowed (Value v) = Ok v
borrowed reply = Err (refusal_of reply)

-- why a call for changes failed
abbrev pub recv_error_of : {V : Type 0} → WReply V → RecvError
recv_error_of Closed = receive.Closed
recv_error_of reply = receive.Refused (refusal_of reply)

-- of a check for a change: whether there is one
abbrev pub has_changed : {V : Type 0} → WReply V → Result Bool RecvError
has_changed (Flag unseen) = Ok unseen
has_changed reply = Err (recv_error_of reply)

-- of a wait for a change: Ok where there is one
abbrev pub changed : {V : Type 0} → WReply V → Result (Unit {0}) RecvError
changed Done = Ok tt
changed reply = Err (recv_error_of reply)

-- of a call that has no other result: Ok where it was done
abbrev pub done : {V : Type 0} → WReply V → Result (Unit {0}) Refusal
done Done = Ok tt
done reply = Err (refusal_of reply)

-- of a check of whether the channel is closed
abbrev pub is_closed : {V : Type 0} → WReply V → Result Bool Refusal
is_closed (Flag closed) = Ok closed
is_closed reply = Err (refusal_of reply)

-- of a call that makes a handle: its number
abbrev pub made : {V : Type 0} → WReply V → Result ℕ Refusal
made (New handle) = Ok handle
made reply = Err (refusal_of reply)

-- of a drop
abbrev pub dropped : {V : Type 0} → WReply V → Result (Unit {0}) Refusal
dropped Dropped = Ok tt
dropped reply = Err (refusal_of reply)

-- of a call that reads a number
abbrev pub count : {V : Type 0} → WReply V → Result ℕ Refusal
count (Count n) = Ok n
count reply = Err (refusal_of reply)
