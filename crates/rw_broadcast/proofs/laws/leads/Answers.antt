use Rattle.rw_broadcast.proofs.Leading.{leads_to}
use Rattle.rw_broadcast.proofs.Planning.{does_what_is_planned}
use Rattle.rw_broadcast.proofs.laws.leads.Goals as goal

pub returns-clause-acts : goal.returns-clause-acts
returns-clause-acts g c = leads_to _

pub returns-clause-plans : goal.returns-clause-plans
returns-clause-plans g c = does_what_is_planned _
