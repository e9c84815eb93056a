use Rattle.std.proofs.Common.{Ok, Err, refl}
use Rattle.rw_console.specs.declared.sessions.Outcome.TheVariants.{Done}
use Rattle.rw_program.proofs.FileRuns.{over}
use Rattle.rw_program.proofs.Telling.{runs}
use Rattle.rw_program.proofs.files.walk.Goals as goal

pub returns-in-Ok-answered : goal.returns-in-Ok-answered
returns-in-Ok-answered g c = over _ c.in-Ok.ensures.run
    (λ bytes said. rw said (runs _ _ _ (Ok Done) (c.in-Ok-answered.ensures.ok, refl) tt (c.of.ensures.line, c.of.ensures.status)))

pub returns-in-Err-answered : goal.returns-in-Err-answered
returns-in-Err-answered g c =
    let told = c.of-in-Err-answered.ensures in
    over _ c.in-Ok.ensures.run (λ bytes said. rw said (runs _ _ _ (Err c.in-Err-answered.fault) tt c.in-Err-answered.ensures.err (told.line, told.status)))
