use Rattle.std.proofs.Common.{◌≡◌}
use Rattle.rw_findings.proofs.starts.finding.go_on.Given as goal

abbrev pub invariant-each_place : goal.invariant-each_place
invariant-each_place g l = record {
  run : l.visitor.run ≡ l.run;
  here : l.visitor.place ≡ l._place;
}
