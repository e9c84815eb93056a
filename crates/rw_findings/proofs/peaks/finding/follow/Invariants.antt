use Rattle.std.proofs.Common.{◌≡◌, ◌≢◌, ℕ}
use Rattle.rw_findings.specs.Following.{Stands}
use Rattle.rw_findings.specs.Peaks.{IsSoFar, measured_at, peak_in}
use Rattle.rw_findings.proofs.peaks.finding.follow.Given as goal

abbrev pub invariant-each_place : goal.invariant-each_place
invariant-each_place g l = record {
  stands : Stands l.run l.asked.channel l.machine l.place;
  so_far : (receiver : ℕ) → IsSoFar (measured_at l.asked.measure l.run l.asked.channel receiver) l.from l.place (peak_in l.peaks receiver l.stretch);
  others : (receiver other : ℕ) → other ≢ l.stretch → peak_in l.peaks receiver other ≡ peak_in l.fn.peaks receiver other;
}
