use Rattle.std.proofs.Common.{inr}
use Rattle.rw_program.proofs.program.run.Goals as goal

pub returns-in-Err-clause-ends : goal.returns-in-Err-clause-ends
returns-in-Err-clause-ends g c = (_, c.finish-in-Err.ensures.says, rw c.finish-in-Err.ensures.status (inr c.in-Err.ensures))
