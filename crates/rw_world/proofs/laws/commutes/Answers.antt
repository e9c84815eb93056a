use Rattle.rw_world.proofs.Modifying.{commutes}
use Rattle.rw_world.proofs.laws.commutes.Goals as goal

pub returns : goal.returns
returns g c = commutes g.M.Reversible g.M.Member.missing
