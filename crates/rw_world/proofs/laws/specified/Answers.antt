use Rattle.rw_world.proofs.Specifying.{legal_by_specs, opens_as_specified, strays_by_specs}
use Rattle.rw_world.proofs.laws.specified.Goals as goal

pub returns-clause-opens : goal.returns-clause-opens
returns-clause-opens g c = opens_as_specified

pub returns-clause-strays : goal.returns-clause-strays
returns-clause-strays g c = strays_by_specs

pub returns-clause-legal : goal.returns-clause-legal
returns-clause-legal g c = legal_by_specs
