use Rattle.std.proofs.Common.{◌≡◌}
use Rattle.rw_findings.proofs.LossRuns.{at_place}
use Rattle.rw_findings.proofs.ClosingRuns.{AreKept}
use Rattle.rw_findings.proofs.closings.finding.closings_of.Given as goal

abbrev pub invariant-loop-entry : goal.invariant-loop-entry
invariant-loop-entry g l = record {
  place : l.place ≡ l.entry-index;
  entries : l.entry-items ≡ l.run.entries;
  run : l.visitor.run ≡ l.run;
  here : l.visitor.place ≡ l.entry-index;
  kept : AreKept (at_place l.run) l.run.entries l.entry-index l.closed.items;
}
