use Rattle.rw_world.proofs.Documenting.{shows_its_records, replies_by_records, shows_its_steps}
use Rattle.rw_world.proofs.Places.{shows_at_places, records_as_documented}
use Rattle.rw_world.proofs.laws.documented.Goals as goal

pub returns-clause-shows : goal.returns-clause-shows
returns-clause-shows g c = shows_its_records _

pub returns-clause-replies : goal.returns-clause-replies
returns-clause-replies g c = replies_by_records _

pub returns-clause-places : goal.returns-clause-places
returns-clause-places g c = shows_at_places _

pub returns-clause-recorded : goal.returns-clause-recorded
returns-clause-recorded g c = records_as_documented _

pub returns-clause-steps : goal.returns-clause-steps
returns-clause-steps g c = shows_its_steps _
