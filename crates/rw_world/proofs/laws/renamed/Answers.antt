use Rattle.rw_world.proofs.Renaming.{replies_renamed, replies_renamed_throughout}
use Rattle.rw_world.proofs.laws.renamed.Goals as goal

pub returns-clause-step : goal.returns-clause-step
returns-clause-step g c = replies_renamed _

pub returns-clause-throughout : goal.returns-clause-throughout
returns-clause-throughout g c = replies_renamed_throughout _
