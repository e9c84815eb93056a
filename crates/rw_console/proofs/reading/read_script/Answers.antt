use Rattle.std.proofs.Common.{sym, ◌∙◌}
use Rattle.rw_console.proofs.SessionEnds.{fault_at_mark}
use Rattle.rw_console.proofs.reading.read_script.Goals as goal

pub returns-in-Err-clause-ok : goal.returns-in-Err-clause-ok
returns-in-Err-clause-ok g c =
    let lines = rw c.in-Mark.is at c.in_ok-fault.ensures.ok in
    fault_at_mark _ _ (sym c.finish.ensures ∙ c.in-Err.is) lines.0
