use Rattle.std.proofs.Common.{[], inl}
use Rattle.rw_program.proofs.FileRuns.{over, unwritten}
use Rattle.rw_program.proofs.threads.record_threads.Goals as goal

pub returns-in-Err-written : goal.returns-in-Err-written
returns-in-Err-written g c =
    let e = c.in-Err-written.ensures in
    let told = c.of-in-Err-written.ensures in
    let run = c.in-Ok-played.run' in
    over _ c.in-Ok.ensures.script (λ bytes said. rw said
    (inl (run, c.in-Ok-played.ensures, unwritten run [] 0 c.in-Err-written.fault e.fault e.prefix (told.line, told.status))))
