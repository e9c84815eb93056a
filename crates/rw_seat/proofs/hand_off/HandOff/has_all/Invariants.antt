use Rattle.std.proofs.Common.{ℕ, ◌<◌, map}
use Rattle.rw_seat.specs.Journals.{IsIn}
use Rattle.rw_seat.proofs.hand_off.HandOff.has_all.Given as goal

abbrev pub invariant-loop-number : goal.invariant-loop-number
invariant-loop-number g l = (n : ℕ) → n < l.number → IsIn n (map (λ s. s.number) l.seats.items)
