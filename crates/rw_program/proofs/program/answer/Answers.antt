use Rattle.std.proofs.Common.{inl}
use Rattle.rw_program.proofs.Forgetting.{opened_any, runs_any}
use Rattle.rw_program.proofs.ForgettingThreads.{opened_threads_any}
use Rattle.rw_program.proofs.Telling.{runs}
use Rattle.rw_program.proofs.program.answer.Goals as goal

pub returns-in-Session : goal.returns-in-Session
returns-in-Session g c =
    let told = c.of-in-Session.ensures in
    rw c.in-Session.is (inl (runs_any _ _ _ (runs _ _ _ c.session.result c.session.ensures.ok c.session.ensures.err (told.line, told.status))))

pub returns-in-Over : goal.returns-in-Over
returns-in-Over g c = rw c.in-Over.is (inl (opened_any _ c.open_for-file.result c.in-Over.verb _ _ _ _ _ _ c.over_opened.ensures.unopened
    c.over_opened.ensures.done))

pub returns : goal.returns
returns g c = rw c.in-Threads.is (inl (opened_threads_any _ c.open.result _ _ _ _ c.threads_over_opened.ensures.unopened c.threads_over_opened.ensures.played))
