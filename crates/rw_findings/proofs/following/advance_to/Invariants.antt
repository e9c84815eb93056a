use Rattle.rw_findings.specs.Following.{Stands}
use Rattle.rw_findings.proofs.following.advance_to.Given as goal

abbrev pub invariant-each_place : goal.invariant-each_place
invariant-each_place g l = Stands l.run l.channel l.machine l.before
