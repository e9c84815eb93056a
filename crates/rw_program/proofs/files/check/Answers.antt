use Rattle.std.proofs.Common.{rules, arith}
use Rattle.rw_program.proofs.FileRuns.{over}
use Rattle.rw_program.proofs.files.check.Goals as goal

pub returns : goal.returns
returns g c = over _ c.in-Ok.ensures.run (λ bytes said. rw said (c.end_with.ensures _ (omega arith) (search rules)))
