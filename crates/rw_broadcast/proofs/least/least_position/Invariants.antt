use Rattle.std.proofs.Common.{◌≡◌, take}
use Rattle.rw_handles.specs.declared.kinds.Kind.TheVariants.{Receiver}
use Rattle.rw_handles.specs.Slots.{values}
use Rattle.rw_broadcast.specs.Arithmetic.{least}
use Rattle.rw_broadcast.proofs.least.least_position.Given as goal

abbrev pub invariant-loop-slot : goal.invariant-loop-slot
invariant-loop-slot l = l.least ≡ least (values Receiver (take l.slot-index l.slots))
