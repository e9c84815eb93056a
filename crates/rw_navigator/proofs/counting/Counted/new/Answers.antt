use Rattle.std.proofs.Common.{refl}
use Rattle.rw_navigator.proofs.counting.Counted.new.Goals as goal

pub returns-clause-turns : goal.returns-clause-turns
returns-clause-turns g c = refl
