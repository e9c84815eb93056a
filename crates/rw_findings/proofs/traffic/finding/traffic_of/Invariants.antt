use Rattle.std.proofs.Common.{◌≡◌}
use Rattle.rw_findings.specs.Traffic.{AreTrafficTo}
use Rattle.rw_findings.proofs.traffic.finding.traffic_of.Given as goal

abbrev pub invariant-loop-entry : goal.invariant-loop-entry
invariant-loop-entry g l = record {
  place : l.place ≡ l.entry-index;
  entries : l.entry-items ≡ l.run.entries;
  run : l.visitor.run ≡ l.run;
  here : l.visitor.place ≡ l.entry-index;
  found : AreTrafficTo l.run l.channels l.entry-index l.found.items;
}
