use Rattle.std.proofs.Common.{◌≡◌, ℕ, ◌+◌, ◌-◌, length}
use Rattle.std.specs.Prelude.{slice_index_or}
use Rattle.rw_findings.proofs.peaks.rows.Row.raise.Given as goal

abbrev pub invariant-each_missing : goal.invariant-each_missing
invariant-each_missing l = (other : ℕ) → slice_index_or l.self-inside.peaks.items other 0 ≡ slice_index_or l.fn.self other 0

abbrev pub decreases-each_missing : goal.decreases-each_missing
decreases-each_missing l = l.stretch + 1 - length l.self-inside.peaks.items
