-- The calls of a broadcast channel: what each does, and its reply. The sentences in quotes are tokio's.
--
-- A call reads four things of a channel: its capacity, how many values were ever sent, the value at a position, and the
-- handles. So one table of calls serves both the record of all that was ever sent (`Record`), which tokio's documentation
-- describes, and what a machine still shows without the evicted values (`Shown`).
use Rattle.std.specs.Prelude.{ℕ, ◌+◌, Bool, true, false, ◌==◌, nat_lt, if◌then◌else◌, List, Option, Some, None, length}
use Rattle.rw_handles.specs.declared.kinds.Kind.{Kind}
use Rattle.rw_handles.specs.declared.kinds.Kind.TheVariants.{Sender, Receiver, Weak}
use Rattle.rw_handles.specs.declared.kinds.Slot.{Slot}
use Rattle.rw_handles.specs.declared.kinds.HandleFault.{HandleFault}
use Rattle.rw_handles.specs.declared.kinds.HandleFault.TheVariants as fault
use Rattle.rw_handles.specs.declared.kinds.Found.{Found}
use Rattle.rw_handles.specs.Channels.{answer_of_check}
use Rattle.rw_handles.specs.Slots.{lookup, alive, values}
use Rattle.rw_broadcast.specs.declared.calls.BCall.{BCall}
use Rattle.rw_broadcast.specs.declared.calls.BCall.TheVariants.{Send, Subscribe, CloneSender, Resubscribe, TryRecv, Recv, DropHandle}
use Rattle.rw_broadcast.specs.declared.calls.BCall.TheVariants.{SenderLen, ReceiverCount, ReceiverLen, Downgrade, Upgrade, CloneWeak}
use Rattle.rw_broadcast.specs.declared.calls.BReply.{BReply}
use Rattle.rw_broadcast.specs.declared.calls.BReply.TheVariants.{Sent, NoReceivers, Value, Lagged, Empty, Closed, Waits, New}
use Rattle.rw_broadcast.specs.declared.calls.BReply.TheVariants.{Dropped, Count, Unknown, Gone, WrongKind, TooManyHandles, NoSender}
use Rattle.rw_broadcast.specs.Arithmetic as number

-- a channel, as its calls read it
pub record Channel (V : Type 0) : Type 0 where
  -- how many values are retained
  pub capacity : ℕ
  -- how many values were ever sent
  pub sent : ℕ
  -- the value at a position, if one was sent there
  pub value : ℕ → Option V
  -- the slot under each handle's number: a receiver with its position, a handle of another kind with 0, or a dropped handle
  pub slots : List (Slot ℕ)

-- what a call changes
pub data Change (V : Type 0) : Type 0 where
  -- nothing
  Keep : Change V
  -- this value is sent
  Append : V → Change V
  -- the next number becomes a handle of this kind, with this position
  Make : Kind → ℕ → Change V
  -- the receiver of this number moves from one position to another
  Move : (h from to : ℕ) → Change V
  -- the handle of this number, of this kind and at this position, is dropped
  Leave : (h : ℕ) → Kind → ℕ → Change V

-- how many receivers are alive
abbrev pub receivers : {V : Type 0} → Channel V → ℕ
receivers c = alive Receiver c.slots

-- "When all Sender handles have been dropped, no new values may be sent. At this point, the channel is "closed"." A weak sender
-- doesn't keep it open: "If all Sender instances of a channel were dropped and only WeakSender instances remain, the channel is
-- closed."
abbrev pub is_closed : {V : Type 0} → Channel V → Bool
is_closed c = alive Sender c.slots == 0

-- the position of the oldest retained value
abbrev pub oldest : {V : Type 0} → Channel V → ℕ
oldest c = number.oldest c.sent c.capacity

-- how many values the channel retains for some receiver
abbrev pub queued : {V : Type 0} → Channel V → ℕ
queued c = number.queued c.sent (oldest c) (values Receiver c.slots)

-- the number of the handle that a call is made with
abbrev pub handle_of : {V : Type 0} → BCall V → ℕ
handle_of (Send h v) = h
handle_of (Subscribe h) = h
handle_of (CloneSender h) = h
handle_of (Resubscribe h) = h
handle_of (TryRecv h) = h
handle_of (Recv h) = h
handle_of (DropHandle h) = h
handle_of (SenderLen h) = h
handle_of (ReceiverCount h) = h
handle_of (ReceiverLen h) = h
handle_of (Downgrade h) = h
handle_of (Upgrade h) = h
handle_of (CloneWeak h) = h

-- the same call, made with another handle
abbrev pub with_handle : {V : Type 0} → BCall V → ℕ → BCall V
with_handle (Send h v) g = Send g v
with_handle (Subscribe h) g = Subscribe g
with_handle (CloneSender h) g = CloneSender g
with_handle (Resubscribe h) g = Resubscribe g
with_handle (TryRecv h) g = TryRecv g
with_handle (Recv h) g = Recv g
with_handle (DropHandle h) g = DropHandle g
with_handle (SenderLen h) g = SenderLen g
with_handle (ReceiverCount h) g = ReceiverCount g
with_handle (ReceiverLen h) g = ReceiverLen g
with_handle (Downgrade h) g = Downgrade g
with_handle (Upgrade h) g = Upgrade g
with_handle (CloneWeak h) g = CloneWeak g

-- the kind that the handle must be of; None for any kind
abbrev pub wanted_kind : {V : Type 0} → BCall V → Option Kind
wanted_kind (Send h v) = Some Sender
wanted_kind (Subscribe h) = Some Sender
wanted_kind (CloneSender h) = Some Sender
wanted_kind (Resubscribe h) = Some Receiver
wanted_kind (TryRecv h) = Some Receiver
wanted_kind (Recv h) = Some Receiver
wanted_kind (DropHandle h) = None
wanted_kind (SenderLen h) = Some Sender
wanted_kind (ReceiverCount h) = Some Sender
wanted_kind (ReceiverLen h) = Some Receiver
wanted_kind (Downgrade h) = Some Sender
wanted_kind (Upgrade h) = Some Weak
wanted_kind (CloneWeak h) = Some Weak

-- whether a call makes a handle, unless it is refused
abbrev pub makes : {V : Type 0} → BCall V → Bool
makes (Subscribe h) = true
makes (CloneSender h) = true
makes (Resubscribe h) = true
makes (Downgrade h) = true
makes (Upgrade h) = true
makes (CloneWeak h) = true
makes _ = false

-- the reply for a handle that can't be used
abbrev pub fault_reply : {V : Type 0} → HandleFault → BReply V
fault_reply fault.Unknown = Unknown
fault_reply fault.Gone = Gone
fault_reply fault.WrongKind = WrongKind

-- "A successful send occurs when there is at least one active Receiver handle." "On success, the number of subscribed
-- Receiver handles is returned."
abbrev pub send : {V : Type 0} → Channel V → V → Change V × BReply V
send c v = if receivers c == 0 then (Keep, NoReceivers v) else (Append v, Sent (receivers c))

-- a new handle has the next number; a new receiver "will receive values sent after the call"
abbrev pub make : {V : Type 0} → Channel V → Kind → ℕ → Change V × BReply V
make c kind position = (Make kind position, New (length c.slots))

-- a weak sender is upgraded: "It returns None if all Senders have been dropped, and otherwise it returns a Sender."
abbrev pub upgrade : {V : Type 0} → Channel V → Change V × BReply V
upgrade c = if is_closed c then (Keep, NoSender) else make c Sender 0

-- receiver h receives the value at its position, if there is one. "Once a receiver has received all values retained
-- by the channel, the next call to recv will return with RecvError::Closed." Where one may still be sent, the reply is `nothing`.
abbrev pub read : {V : Type 0} → Channel V → (h position : ℕ) → Option V → (nothing : BReply V) → Change V × BReply V
read c h position (Some v) nothing = (Move h position (position + 1), Value v)
read c h position None nothing = (Keep, if is_closed c then Closed else nothing)

-- what receiver h receives. "Any receiver that has not yet seen the released value will return RecvError::Lagged the next
-- time recv is called. Once RecvError::Lagged is returned, the lagging receiver's position is updated to the oldest value
-- contained by the channel."
abbrev pub receive : {V : Type 0} → Channel V → (h position : ℕ) → (nothing : BReply V) → Change V × BReply V
receive c h position nothing =
    if nat_lt 0 (number.lag (oldest c) position)
    then (Move h position (oldest c), Lagged (number.lag (oldest c) position))
    else read c h position (c.value position) nothing

-- the table: what a call does and its reply, with the live handle of this kind and position that it names
abbrev pub effect_with : {V : Type 0} → Channel V → BCall V → Kind → ℕ → Change V × BReply V
effect_with c (Send h v) kind position = send c v
effect_with c (Subscribe h) kind position = make c Receiver c.sent
effect_with c (CloneSender h) kind position = make c Sender 0
effect_with c (Resubscribe h) kind position = make c Receiver c.sent
effect_with c (TryRecv h) kind position = receive c h position Empty
effect_with c (Recv h) kind position = receive c h position Waits
effect_with c (DropHandle h) kind position = (Leave h kind position, Dropped)
effect_with c (SenderLen h) kind position = (Keep, Count (queued c))
effect_with c (ReceiverCount h) kind position = (Keep, Count (receivers c))
effect_with c (ReceiverLen h) kind position = (Keep, Count (number.unread c.sent position))
effect_with c (Downgrade h) kind position = make c Weak 0
effect_with c (Upgrade h) kind position = upgrade c
effect_with c (CloneWeak h) kind position = make c Weak 0

-- the same, by what the lookup of the handle found: a call is checked for an unknown number, a dropped handle, one of the
-- wrong kind, and too many handles, in this order
abbrev pub effect_found : {V : Type 0} → Channel V → BCall V → Found ℕ → Change V × BReply V
effect_found c call f = answer_of_check (λ fault. (Keep, fault_reply fault)) (Keep, TooManyHandles) (makes call) (length c.slots) (effect_with c call) f

-- what a call does, and its reply
abbrev pub effect : {V : Type 0} → Channel V → BCall V → Change V × BReply V
effect c call = effect_found c call (lookup (wanted_kind call) c.slots (handle_of call))
