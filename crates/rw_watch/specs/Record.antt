-- A watch channel as the record of all that ever happened to it, and the documented step.
use Rattle.std.specs.Prelude.{ℕ, Bool, List, [], ◌∷◌, ◌++◌, Option, Some, None, count_by, slice_set}
use Rattle.rw_handles.specs.declared.kinds.Kind.TheVariants.{Sender, Receiver}
use Rattle.rw_handles.specs.declared.kinds.Slot.{Slot}
use Rattle.rw_handles.specs.declared.kinds.Slot.TheVariants.{Live, Spent}
use Rattle.rw_watch.specs.declared.calls.WCall.{WCall}
use Rattle.rw_watch.specs.declared.calls.WReply.{WReply}
use Rattle.rw_watch.specs.Channel.{Channel, Change, Keep, Write, Make, Mark, Leave, effect}

-- the channel record: the value at its opening, each later value and whether the receivers were notified of it, in order,
-- and the slot under each handle's number
pub record Record (V : Type 0) : Type 0 where
  pub initial : V
  pub changes : List (V × Bool)
  pub slots : List (Slot (Option ℕ))

-- sender 0 and receiver 1. "At creation, the initial value is considered seen."
abbrev pub first_slots : List (Slot (Option ℕ))
first_slots = Live Sender None ∷ Live Receiver (Some 0) ∷ []

-- a channel at its opening
abbrev pub opening_record : {V : Type 0} → V → Record V
opening_record initial = record { initial = initial; changes = []; slots = first_slots }

-- how many of these changes the receivers were notified of
abbrev pub told_count : {V : Type 0} → List (V × Bool) → ℕ
told_count changes = count_by (λ change. change.1) changes

-- the value of the last of these changes, or this one where there is none
abbrev pub last_value : {V : Type 0} → V → List (V × Bool) → V
last_value v [] = v
last_value v (change ∷ changes) = last_value change.0 changes

-- the record, as calls read it
abbrev pub channel_of : {V : Type 0} → Record V → Channel V
channel_of r = record { version = told_count r.changes; value = last_value r.initial r.changes; slots = r.slots }

-- the record after a change
abbrev pub with_change : {V : Type 0} → Record V → Change V → Record V
with_change r Keep = r
with_change r (Write v told) = record r { changes = r.changes ++ (v, told) ∷ [] }
with_change r (Make kind mark) = record r { slots = r.slots ++ Live kind mark ∷ [] }
with_change r (Mark h from to) = record r { slots = slice_set r.slots h (Live Receiver to) }
with_change r (Leave h kind mark) = record r { slots = slice_set r.slots h Spent }

-- the documented step: the record after a call, and the reply
abbrev pub step : {V : Type 0} → Record V → WCall V → Record V × WReply V
step r call = let e = effect (channel_of r) call in (with_change r e.0, e.1)

-- the record after these calls
abbrev pub after : {V : Type 0} → Record V → List (WCall V) → Record V
after r [] = r
after r (call ∷ calls) = after (step r call).0 calls

-- the replies to these calls, in order
abbrev pub replies : {V : Type 0} → Record V → List (WCall V) → List (WReply V)
replies r [] = []
replies r (call ∷ calls) = (step r call).1 ∷ replies (step r call).0 calls
