use Rattle.std.proofs.Common.{◌≡◌}
use Rattle.rw_navigator.specs.Places.{last_place}
use Rattle.rw_findings.proofs.LossEntries.{IsPassed}
use Rattle.rw_findings.proofs.LossRuns.{at_place}
use Rattle.rw_findings.proofs.losses.finding.losses_of.Given as goal

abbrev pub invariant-loop-entry : goal.invariant-loop-entry
invariant-loop-entry g l = record {
  place : l.place ≡ l.entry-index;
  entries : l.entry-items ≡ l.run.entries;
  passed : IsPassed (at_place l.run) (last_place l.run) l.entry-index l.tracks.items l.losses.items;
}
