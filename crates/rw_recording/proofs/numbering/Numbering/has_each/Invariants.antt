use Rattle.std.proofs.Common.{◌≡◌, ◌<◌, ℕ}
use Rattle.std.specs.Prelude.{Some, slice_index}
use Rattle.rw_recording.specs.Windows.{number_of}
use Rattle.rw_recording.proofs.numbering.Numbering.has_each.Given as goal

abbrev pub invariant-loop-i : goal.invariant-loop-i
invariant-loop-i l = (k : ℕ) → k < l.i → number_of l.self (slice_index l.self.before.items k) ≡ Some (slice_index l.self.after.items k)
