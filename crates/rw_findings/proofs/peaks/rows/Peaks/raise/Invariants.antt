use Rattle.std.proofs.Common.{◌≡◌, ℕ, ◌+◌, ◌-◌, [], length}
use Rattle.std.specs.Prelude.{slice_index_or}
use Rattle.rw_findings.proofs.peaks.rows.Peaks.raise.Given as goal

abbrev pub invariant-each_missing : goal.invariant-each_missing
invariant-each_missing l = (other : ℕ) → slice_index_or l.self-inside.rows.items other [] ≡ slice_index_or l.fn.self other []

abbrev pub decreases-each_missing : goal.decreases-each_missing
decreases-each_missing l = l.receiver + 1 - length l.self-inside.rows.items
