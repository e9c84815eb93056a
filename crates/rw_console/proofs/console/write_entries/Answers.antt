use Rattle.std.proofs.Common.{arith}
use Rattle.std.proofs.lemmas.Result.{err_from_is_err_and}
use Rattle.rw_console.proofs.Listing.{begins, more, stops}
use Rattle.rw_console.proofs.console.write_entries.Goals as goal

pub each_entry-init : goal.each_entry-init
each_entry-init g c = begins _ _

pub returns-in_err-write_step-clause-err : goal.returns-in_err-write_step-clause-err
returns-in_err-write_step-clause-err g c =
    let p = err_from_is_err_and c.from_residual.result c.from_residual.ensures.1 in
    rw (p.1, p.2) (stops _ (omega (arith, c.each_entry-test.true, c.len-i-end.ensures)) c.each_entry.invariant c.in_err-write_step.ensures.err)

pub each_entry-preserved : goal.each_entry-preserved
each_entry-preserved g c = more (omega (arith, c.each_entry-test.true, c.len-i-end.ensures)) c.each_entry.invariant c.in_ok-write_step.ensures.ok
