use Rattle.std.proofs.lemmas.Result.{err_from_is_err_and}
use Rattle.rw_console.proofs.Beginnings.{stops_at_once}
use Rattle.rw_console.proofs.debugging.debug.Goals as goal

pub returns-in_err-walk-clause-err : goal.returns-in_err-walk-clause-err
returns-in_err-walk-clause-err g c =
    let p = err_from_is_err_and c.from_residual.result c.from_residual.ensures.1 in
    rw (p.1, p.2) (stops_at_once _ _ _ _)
