use Rattle.std.proofs.Common.{rules}
use Rattle.rw_program.proofs.FileRuns.{closes_not, over}
use Rattle.rw_program.proofs.files.record.Goals as goal

pub returns-in-Err-written : goal.returns-in-Err-written
returns-in-Err-written g c =
    let e = c.in-Err-written.ensures in
    let told = c.of-in-Err-written.ensures in
    over _ c.in-Ok.ensures.script (λ bytes said. rw said
    (closes_not c.in-Ok.script _ (search rules) (search rules) c.in-Err-written.fault e.fault e.prefix (told.line, told.status)))
