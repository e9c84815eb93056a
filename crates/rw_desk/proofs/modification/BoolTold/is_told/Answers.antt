use Rattle.std.proofs.Common.{refl}
use Rattle.rw_desk.proofs.modification.BoolTold.is_told.Goals as goal

pub returns : goal.returns
returns c = refl
