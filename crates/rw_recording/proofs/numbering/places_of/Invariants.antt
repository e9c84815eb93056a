use Rattle.std.proofs.Common.{◌≡◌, length}
use Rattle.rw_recording.proofs.numbering.places_of.Given as goal

abbrev pub invariant-loop-i : goal.invariant-loop-i
invariant-loop-i l = length l.places.items ≡ l.count
