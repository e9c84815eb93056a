use Rattle.rw_findings.specs.Following.{Stands}
use Rattle.rw_findings.specs.Lives.{AreLivesTo}
use Rattle.rw_findings.proofs.lives.finding.follow_all.Given as goal

abbrev pub invariant-each_place : goal.invariant-each_place
invariant-each_place g l = record {
  stands : Stands l.run l.channel l.machine l.place;
  lives : AreLivesTo l.run l.channel l.place l.lives.items;
}
