use Rattle.std.proofs.Common.{◌≡◌, take}
use Rattle.std.specs.Prelude.{All}
use Rattle.rw_handles.specs.declared.kinds.Slot.TheVariants.{Spent}
use Rattle.rw_handles.proofs.comparing.are_spent.Given as goal

abbrev pub invariant-loop-slot : goal.invariant-loop-slot
invariant-loop-slot l = All (λ slot. slot ≡ Spent) (take l.slot-index l.slots)
