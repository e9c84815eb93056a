use Rattle.std.proofs.Common.{◌≡◌, length, vec_capacity}
use Rattle.rw_recording.proofs.numbering.zeros.Given as goal

abbrev pub invariant-loop-i : goal.invariant-loop-i
invariant-loop-i l = record { some : length l.numbers.items ≡ l._i; room : vec_capacity l.numbers ≡ l.count }
