-- A broadcast machine, as its callers see it.
use Rattle.std.specs.Prelude.{ℕ, min, Option, Some, None}
use Rattle.rw_handles.specs.declared.kinds.Kind.TheVariants.{Receiver}
use Rattle.rw_handles.specs.declared.kinds.Slot.{Slot}
use Rattle.rw_handles.specs.declared.kinds.Slot.TheVariants.{Live}
use Rattle.rw_handles.specs.Slots.{receiver_at}
use Rattle.rw_law.specs.Outcomes.{Machine as MachineOf, Follows}
use Rattle.rw_broadcast.specs.declared.calls.BReply.{BReply}
use Rattle.rw_broadcast.specs.declared.calls.BPatch.{BPatch}
use Rattle.rw_broadcast.specs.Channel.{Change}
use Rattle.rw_broadcast.specs.Shown.{Shown, outcome_of}

-- what it shows, and the weight up to which it has room
abbrev pub Machine : Type 0 → Type 0
Machine V = MachineOf (Shown V)

-- the machine made this change, and returned this reply and the patch that undoes the change
abbrev pub Takes : {V : Type 0} → (old new : Machine V) → BReply V × BPatch V → Change V × BReply V → Type 0
Takes old new given e = Follows old new given (outcome_of old.shown e)

-- the position of the live receiver under a number, if there is one
abbrev pub position_at : Option (Slot ℕ) → Option ℕ
position_at o = receiver_at o

-- the least position so far or that of one more slot, if this is a receiver's and less
abbrev pub least_with : Option ℕ → Slot ℕ → Option ℕ
least_with None (Live Receiver position) = Some position
least_with (Some other) (Live Receiver position) = Some (min other position)
least_with o slot = o
