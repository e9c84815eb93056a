use Rattle.rw_findings.proofs.LossCode.{good_capacity}
use Rattle.rw_findings.proofs.losses.finding.track_of.Goals as goal

pub open-requires-clause-some : goal.open-requires-clause-some
open-requires-clause-some g c = (good_capacity c.args.spec.now c.in-Broadcast.capacity c.in-Broadcast.is c.requires).0

pub open-requires-clause-small : goal.open-requires-clause-small
open-requires-clause-small g c = (good_capacity c.args.spec.now c.in-Broadcast.capacity c.in-Broadcast.is c.requires).1
