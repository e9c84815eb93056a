use Rattle.std.proofs.lemmas.Result.{err_from_is_err_and}
use Rattle.rw_console.proofs.SessionEnds.{done, stops, stops_at_begin, stops_in_script, ended, ended_stops, refused, refused_stops}
use Rattle.rw_console.proofs.sessions.session.Goals as goal

pub returns-in_err-fault-clause-err : goal.returns-in_err-fault-clause-err
returns-in_err-fault-clause-err g c =
    let p = err_from_is_err_and c.from_residual.result c.from_residual.ensures.1 in
    rw (p.1, p.2) (stops_in_script _ _ c.in_err-fault.ensures.err)

pub returns-in_err-refuse-in-Refused-clause-err : goal.returns-in_err-refuse-in-Refused-clause-err
returns-in_err-refuse-in-Refused-clause-err g c =
    let p = err_from_is_err_and c.from_residual-in_err-refuse-in-Refused.result c.from_residual-in_err-refuse-in-Refused.ensures.1 in
    rw (p.1, p.2) (refused_stops _ c.in-Refused.fault (rw c.in-Refused.is at c.in_ok-fault.ensures.ok) _ c.in_err-refuse-in-Refused.ensures.err)

pub returns-in_ok-refuse-in-Refused-clause-ok : goal.returns-in_ok-refuse-in-Refused-clause-ok
returns-in_ok-refuse-in-Refused-clause-ok g c = refused c.in-Refused.fault (rw c.in-Refused.is at c.in_ok-fault.ensures.ok) c.in_ok-refuse-in-Refused.ensures.ok

pub returns-in_err-walk-in-Ended-clause-err : goal.returns-in_err-walk-in-Ended-clause-err
returns-in_err-walk-in-Ended-clause-err g c =
    let p = err_from_is_err_and c.from_residual-in_err-walk-in-Ended.result c.from_residual-in_err-walk-in-Ended.ensures.1 in
    rw (p.1, p.2) (ended_stops _ (rw c.in-Ended.is at c.in_ok-fault.ensures.ok) _ c.in_err-walk-in-Ended.ensures.err)

pub returns-in_ok-walk-in-Ended-clause-ok : goal.returns-in_ok-walk-in-Ended-clause-ok
returns-in_ok-walk-in-Ended-clause-ok g c =
    let run = c.in_ok-walk-in-Ended.ensures in
    rw c.outcome_at.ensures (ended (rw c.in-Ended.is at c.in_ok-fault.ensures.ok) run.ok _ run.waits)

pub returns-in_err-walk-in-Script-clause-err : goal.returns-in_err-walk-in-Script-clause-err
returns-in_err-walk-in-Script-clause-err g c =
    let p = err_from_is_err_and c.from_residual-in_err-walk-in-Script.result c.from_residual-in_err-walk-in-Script.ensures.1 in
    rw (p.1, p.2) (stops_at_begin (rw c.in-Script.is at c.in_ok-fault.ensures.ok) _ c.in_err-walk-in-Script.ensures.err)

pub returns-in_err-answered-in-Script-clause-err : goal.returns-in_err-answered-in-Script-clause-err
returns-in_err-answered-in-Script-clause-err g c =
    let p = err_from_is_err_and c.from_residual-in_err-answered-in-Script.result c.from_residual-in_err-answered-in-Script.ensures.1 in
    let run = c.in_ok-walk-in-Script.ensures in
    rw (p.1, p.2) (stops (rw c.in-Script.is at c.in_ok-fault.ensures.ok) run.ok _ run.run _ run.place _ c.in_err-answered-in-Script.ensures.err)

pub returns-in_ok-answered-in-Script-clause-ok : goal.returns-in_ok-answered-in-Script-clause-ok
returns-in_ok-answered-in-Script-clause-ok g c =
    let run = c.in_ok-walk-in-Script.ensures in
    rw c.outcome_at-in-Script.ensures
    (done (rw c.in-Script.is at c.in_ok-fault.ensures.ok) run.ok _ run.run _ run.place _ run.waits c.in_ok-answered-in-Script.ensures.ok)
