-- The calls of a watch channel: what each does, and its reply. The sentences in quotes are tokio's.
--
-- A call reads three things of a channel: its version, its value and the handles. So one table of calls serves both the
-- record of all that happened (`Record`), which tokio's documentation describes, and what a machine still shows without the
-- earlier values (`Shown`).
use Rattle.std.specs.Prelude.{ℕ, Bool, true, false, not, ◌==◌, if◌then◌else◌, List, Option, Some, None, length}
use Rattle.rw_handles.specs.declared.kinds.Kind.{Kind}
use Rattle.rw_handles.specs.declared.kinds.Kind.TheVariants.{Sender, Receiver}
use Rattle.rw_handles.specs.declared.kinds.Slot.{Slot}
use Rattle.rw_handles.specs.declared.kinds.HandleFault.{HandleFault}
use Rattle.rw_handles.specs.declared.kinds.HandleFault.TheVariants as fault
use Rattle.rw_handles.specs.declared.kinds.Found.{Found}
use Rattle.rw_handles.specs.Channels.{answer_of_check}
use Rattle.rw_handles.specs.Slots.{lookup, alive}
use Rattle.rw_watch.specs.declared.calls.WCall.{WCall}
use Rattle.rw_watch.specs.declared.calls.WCall.TheVariants.{Send, SendReplace, Modify, Subscribe, CloneSender, CloneReceiver, Borrow, Update, HasChanged}
use Rattle.rw_watch.specs.declared.calls.WCall.TheVariants.{Changed, MarkChanged, MarkUnchanged, DropHandle, ReceiverCount, IsClosed, AwaitClosed}
use Rattle.rw_watch.specs.declared.calls.WReply.{WReply}
use Rattle.rw_watch.specs.declared.calls.WReply.TheVariants.{Stored, NoReceivers, Old, Told, New, Value, Flag, Closed, Waits}
use Rattle.rw_watch.specs.declared.calls.WReply.TheVariants.{Done, Count, Dropped, Unknown, Gone, WrongKind, TooManyHandles}

-- a channel, as its calls read it
pub record Channel (V : Type 0) : Type 0 where
  -- how many changes the receivers were notified of
  pub version : ℕ
  -- "the most recently sent value"
  pub value : V
  -- the slot under each handle's number: a receiver with its mark, which is a version that it has seen or None, a sender with
  -- None, or a dropped handle
  pub slots : List (Slot (Option ℕ))

-- what a call changes
pub data Change (V : Type 0) : Type 0 where
  -- nothing
  Keep : Change V
  -- this value is written, and the receivers are notified or not
  Write : V → (told : Bool) → Change V
  -- the next number becomes a handle of this kind, with this mark
  Make : Kind → Option ℕ → Change V
  -- the receiver of this number changes from one mark to another
  Mark : (h : ℕ) → (from to : Option ℕ) → Change V
  -- the handle of this number, of this kind and with this mark, is dropped
  Leave : (h : ℕ) → Kind → Option ℕ → Change V

-- "the number of receivers that currently exist"
abbrev pub receivers : {V : Type 0} → Channel V → ℕ
receivers c = alive Receiver c.slots

-- whether "every receiver has been dropped"
abbrev pub has_no_receiver : {V : Type 0} → Channel V → Bool
has_no_receiver c = receivers c == 0

-- whether "all Senders are dropped"
abbrev pub is_closed : {V : Type 0} → Channel V → Bool
is_closed c = alive Sender c.slots == 0

-- whether a receiver with this mark has not seen the value of this version: `has_changed` "does not check messages for
-- equality, so this call will return true even if the current message is equal to the previous message"
abbrev pub is_unseen : (version : ℕ) → Option ℕ → Bool
is_unseen version None = true
is_unseen version (Some mark) = not (mark == version)

-- the number of the handle that a call is made with
abbrev pub handle_of : {V : Type 0} → WCall V → ℕ
handle_of (Send h v) = h
handle_of (SendReplace h v) = h
handle_of (Modify told h v) = h
handle_of (Subscribe h) = h
handle_of (CloneSender h) = h
handle_of (CloneReceiver h) = h
handle_of (Borrow h) = h
handle_of (Update h) = h
handle_of (HasChanged h) = h
handle_of (Changed h) = h
handle_of (MarkChanged h) = h
handle_of (MarkUnchanged h) = h
handle_of (DropHandle h) = h
handle_of (ReceiverCount h) = h
handle_of (IsClosed h) = h
handle_of (AwaitClosed h) = h

-- the same call, made with another handle
abbrev pub with_handle : {V : Type 0} → WCall V → ℕ → WCall V
with_handle (Send h v) g = Send g v
with_handle (SendReplace h v) g = SendReplace g v
with_handle (Modify told h v) g = Modify told g v
with_handle (Subscribe h) g = Subscribe g
with_handle (CloneSender h) g = CloneSender g
with_handle (CloneReceiver h) g = CloneReceiver g
with_handle (Borrow h) g = Borrow g
with_handle (Update h) g = Update g
with_handle (HasChanged h) g = HasChanged g
with_handle (Changed h) g = Changed g
with_handle (MarkChanged h) g = MarkChanged g
with_handle (MarkUnchanged h) g = MarkUnchanged g
with_handle (DropHandle h) g = DropHandle g
with_handle (ReceiverCount h) g = ReceiverCount g
with_handle (IsClosed h) g = IsClosed g
with_handle (AwaitClosed h) g = AwaitClosed g

-- the kind that the handle must be of; None for any kind
abbrev pub wanted_kind : {V : Type 0} → WCall V → Option Kind
wanted_kind (Send h v) = Some Sender
wanted_kind (SendReplace h v) = Some Sender
wanted_kind (Modify told h v) = Some Sender
wanted_kind (Subscribe h) = Some Sender
wanted_kind (CloneSender h) = Some Sender
wanted_kind (CloneReceiver h) = Some Receiver
wanted_kind (Borrow h) = None
wanted_kind (Update h) = Some Receiver
wanted_kind (HasChanged h) = Some Receiver
wanted_kind (Changed h) = Some Receiver
wanted_kind (MarkChanged h) = Some Receiver
wanted_kind (MarkUnchanged h) = Some Receiver
wanted_kind (DropHandle h) = None
wanted_kind (ReceiverCount h) = Some Sender
wanted_kind (IsClosed h) = Some Sender
wanted_kind (AwaitClosed h) = Some Sender

-- whether a call makes a handle, unless it is refused
abbrev pub makes : {V : Type 0} → WCall V → Bool
makes (Subscribe h) = true
makes (CloneSender h) = true
makes (CloneReceiver h) = true
makes _ = false

-- the reply for a handle that can't be used
abbrev pub fault_reply : {V : Type 0} → HandleFault → WReply V
fault_reply fault.Unknown = Unknown
fault_reply fault.Gone = Gone
fault_reply fault.WrongKind = WrongKind

-- "This method fails if the channel is closed, which is the case when every receiver has been dropped." The value then "isn't made
-- available for future receivers (but returned with the `SendError`)".
abbrev pub send : {V : Type 0} → Channel V → V → Change V × WReply V
send c v = if has_no_receiver c then (Keep, NoReceivers v) else (Write v true, Stored)

-- a new handle has the next number
abbrev pub make : {V : Type 0} → Channel V → Kind → Option ℕ → Change V × WReply V
make c kind mark = (Make kind mark, New (length c.slots))

-- receiver h "marks that value as seen"
abbrev pub see : {V : Type 0} → Channel V → (h : ℕ) → (from : Option ℕ) → Change V
see c h from = Mark h from (Some c.version)

-- "Checks if this channel contains a message that this receiver has not yet seen. The current value will not be marked as
-- seen." It is an error where all senders are dropped.
abbrev pub has_changed : {V : Type 0} → Channel V → Option ℕ → WReply V
has_changed c mark = if is_closed c then Closed else Flag (is_unseen c.version mark)

-- "If the current value in the channel has not yet been marked seen when this method is called, the method marks that value
-- seen and returns immediately. If the newest value has already been marked seen, then the method sleeps until a new message
-- is sent by a Sender connected to this Receiver, or until all Senders are dropped."
abbrev pub wait_effect : {V : Type 0} → Channel V → (h : ℕ) → Option ℕ → Change V × WReply V
wait_effect c h mark = if is_unseen c.version mark
    then (see c h mark, Done)
    else (Keep, if is_closed c then Closed else Waits)

-- "Completes when all receivers have dropped."
abbrev pub await_closed : {V : Type 0} → Channel V → WReply V
await_closed c = if has_no_receiver c then Done else Waits

-- the table: what a call does and its reply, with the live handle of this kind and mark that it names
abbrev pub effect_with : {V : Type 0} → Channel V → WCall V → Kind → Option ℕ → Change V × WReply V
effect_with c (Send h v) kind mark = send c v
-- "Sends a new value via the channel, notifying all receivers and returning the previous value in the channel."
effect_with c (SendReplace h v) kind mark = (Write v true, Old c.value)
-- "Receivers are only notified if the closure returned `true`. If the closure has modified the value but returned `false`
-- this results in a silent modification, i.e. the modified value will be visible in subsequent calls to `borrow`, but
-- receivers will not be notified."
effect_with c (Modify told h v) kind mark = (Write v told, Told told)
-- "All messages sent before this call to `subscribe` are initially marked as seen by the new `Receiver`."
effect_with c (Subscribe h) kind mark = make c Receiver (Some c.version)
effect_with c (CloneSender h) kind mark = make c Sender None
-- a cloned receiver has seen what its source has
effect_with c (CloneReceiver h) kind mark = make c Receiver mark
-- "This method does not mark the returned value as seen."
effect_with c (Borrow h) kind mark = (Keep, Value c.value)
-- "Returns a reference to the most recently sent value and marks that value as seen."
effect_with c (Update h) kind mark = (see c h mark, Value c.value)
effect_with c (HasChanged h) kind mark = (Keep, has_changed c mark)
effect_with c (Changed h) kind mark = wait_effect c h mark
-- "After invoking this method `has_changed()` returns `true` and `changed()` returns immediately, regardless of whether a new
-- value has been sent."
effect_with c (MarkChanged h) kind mark = (Mark h mark None, Done)
-- "The current value will be considered seen by the receiver."
effect_with c (MarkUnchanged h) kind mark = (see c h mark, Done)
effect_with c (DropHandle h) kind mark = (Leave h kind mark, Dropped)
effect_with c (ReceiverCount h) kind mark = (Keep, Count (receivers c))
-- "Checks if the channel has been closed. This happens when all receivers have dropped."
effect_with c (IsClosed h) kind mark = (Keep, Flag (has_no_receiver c))
effect_with c (AwaitClosed h) kind mark = (Keep, await_closed c)

-- the same, by what the lookup of the handle found: a call is checked for an unknown number, a dropped handle, one of the
-- wrong kind, and too many handles, in this order
abbrev pub effect_found : {V : Type 0} → Channel V → WCall V → Found (Option ℕ) → Change V × WReply V
effect_found c call f = answer_of_check (λ fault. (Keep, fault_reply fault)) (Keep, TooManyHandles) (makes call) (length c.slots) (effect_with c call) f

-- what a call does, and its reply
abbrev pub effect : {V : Type 0} → Channel V → WCall V → Change V × WReply V
effect c call = effect_found c call (lookup (wanted_kind call) c.slots (handle_of call))
