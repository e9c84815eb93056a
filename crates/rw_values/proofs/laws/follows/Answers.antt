use Rattle.rw_values.proofs.Following.{has_what_was_sent, store_follows}
use Rattle.rw_values.proofs.laws.follows.Goals as goal

pub returns-clause-steps : goal.returns-clause-steps
returns-clause-steps g c = store_follows _

pub returns-clause-sent : goal.returns-clause-sent
returns-clause-sent g c = has_what_was_sent _
