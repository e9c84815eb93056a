-- A broadcast channel as the record of all that ever happened to it, and the documented step.
use Rattle.std.specs.Prelude.{ℕ, List, [], ◌∷◌, ◌++◌, length, slice_get, slice_set}
use Rattle.rw_handles.specs.declared.kinds.Kind.TheVariants.{Sender, Receiver}
use Rattle.rw_handles.specs.declared.kinds.Slot.{Slot}
use Rattle.rw_handles.specs.declared.kinds.Slot.TheVariants.{Live, Spent}
use Rattle.rw_broadcast.specs.declared.calls.BCall.{BCall}
use Rattle.rw_broadcast.specs.declared.calls.BReply.{BReply}
use Rattle.rw_broadcast.specs.Arithmetic.{retained_capacity}
use Rattle.rw_broadcast.specs.Channel.{Channel, Change, Keep, Append, Make, Move, Leave, effect}

-- the channel record: the retained capacity, all values ever sent, in order, and the slot under each handle's number
pub record Record (V : Type 0) : Type 0 where
  pub capacity : ℕ
  pub sent : List V
  pub slots : List (Slot ℕ)

-- sender 0 and receiver 1, before any value is sent
abbrev pub first_slots : List (Slot ℕ)
first_slots = Live Sender 0 ∷ Live Receiver 0 ∷ []

-- a channel at its opening, with this requested capacity
abbrev pub opening_record : {V : Type 0} → ℕ → Record V
opening_record asked = record { capacity = retained_capacity asked; sent = []; slots = first_slots }

-- the record, as calls read it
abbrev pub channel_of : {V : Type 0} → Record V → Channel V
channel_of r = record { capacity = r.capacity; sent = length r.sent; value = slice_get r.sent; slots = r.slots }

-- the record after a change
abbrev pub with_change : {V : Type 0} → Record V → Change V → Record V
with_change r Keep = r
with_change r (Append v) = record r { sent = r.sent ++ v ∷ [] }
with_change r (Make kind position) = record r { slots = r.slots ++ Live kind position ∷ [] }
with_change r (Move h from to) = record r { slots = slice_set r.slots h (Live Receiver to) }
with_change r (Leave h kind position) = record r { slots = slice_set r.slots h Spent }

-- the documented step: the record after a call, and the reply
abbrev pub step : {V : Type 0} → Record V → BCall V → Record V × BReply V
step r call = let e = effect (channel_of r) call in (with_change r e.0, e.1)

-- the record after these calls
abbrev pub after : {V : Type 0} → Record V → List (BCall V) → Record V
after r [] = r
after r (call ∷ calls) = after (step r call).0 calls

-- the replies to these calls, in order
abbrev pub replies : {V : Type 0} → Record V → List (BCall V) → List (BReply V)
replies r [] = []
replies r (call ∷ calls) = (step r call).1 ∷ replies (step r call).0 calls
