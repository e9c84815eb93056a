use Rattle.std.proofs.Common.{map, take}
use Rattle.rw_seat.specs.Journals.{IsIn}
use Rattle.rw_seat.proofs.closing.has.Given as goal

abbrev pub invariant-loop-seat : goal.invariant-loop-seat
invariant-loop-seat g l = IsIn l.number (map (λ s. s.number) (take l.seat-index l.seats.items)) → ⊥
