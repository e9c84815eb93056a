use Rattle.rw_findings.specs.Receivers.{AreLastGiven}
use Rattle.rw_findings.proofs.starts.receipts.follow_to.Given as goal

abbrev pub invariant-each_place : goal.invariant-each_place
invariant-each_place g l = AreLastGiven l.run l.place l.given
