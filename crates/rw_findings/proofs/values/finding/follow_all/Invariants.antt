use Rattle.rw_findings.specs.Following.{Stands}
use Rattle.rw_findings.specs.Values.{AreValuesTo}
use Rattle.rw_findings.proofs.values.finding.follow_all.Given as goal

abbrev pub invariant-each_place : goal.invariant-each_place
invariant-each_place g l = record {
  stands : Stands l.run l.channel l.machine l.place;
  values : AreValuesTo l.run l.channel l.place l.values.items;
}
