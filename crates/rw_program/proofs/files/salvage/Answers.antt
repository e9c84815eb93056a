use Rattle.rw_program.proofs.FileRuns.{over, told_after, unsalvaged, unwritten}
use Rattle.rw_program.proofs.files.salvage.Goals as goal

pub returns-in-Err : goal.returns-in-Err
returns-in-Err g c = unsalvaged _ c.in-Err.why c.in-Err.ensures.refused c.tell.ensures

pub returns-in-Ok-written : goal.returns-in-Ok-written
returns-in-Ok-written g c = over _ c.in-Ok.ensures.held
    (λ bytes said. rw said (told_after _ _ 0 c.in-Ok-written.ensures.ok (c.told.ensures.told _ c.format.ensures.ok)))

pub returns-in-Err-written : goal.returns-in-Err-written
returns-in-Err-written g c =
    let e = c.in-Err-written.ensures in
    let told = c.of.ensures in
    over _ c.in-Ok.ensures.held (λ bytes said. rw said (unwritten _ _ 0 c.in-Err-written.fault e.fault e.prefix (told.line, told.status)))
