use Rattle.std.proofs.Common.{sym, ◌∙◌}
use Rattle.std.proofs.lemmas.Result.{err_from_is_err_and}
use Rattle.rw_console.proofs.Answering.{begins, more_line, quits, ends_last, ends, stops_reading, stops_writing_line, stops_writing_last}
use Rattle.rw_console.proofs.console.commands.Goals as goal

pub each_line-init : goal.each_line-init
each_line-init g c = begins _ _ _ _ _

pub returns-in_err-next_line-clause-err : goal.returns-in_err-next_line-clause-err
returns-in_err-next_line-clause-err g c =
    let p = err_from_is_err_and c.from_residual.result c.from_residual.ensures.1 in
    rw (p.1, p.2) (stops_reading c.each_line.invariant _ c.in_err-next_line.ensures.err)

pub returns-in-End-clause-ok : goal.returns-in-End-clause-ok
returns-in-End-clause-ok g c = ends c.each_line.invariant (rw c.in-End.is at c.in_ok-next_line.ensures.ok)

pub returns-in_err-answer_line-in-Last-clause-err : goal.returns-in_err-answer_line-in-Last-clause-err
returns-in_err-answer_line-in-Last-clause-err g c =
    let p = err_from_is_err_and c.from_residual-in_err-answer_line-in-Last.result c.from_residual-in_err-answer_line-in-Last.ensures.1 in
    rw (p.1, p.2) (stops_writing_last c.each_line.invariant (rw c.in-Last.is at c.in_ok-next_line.ensures.ok) _
    (rw c.deref.ensures.value at c.in_err-answer_line-in-Last.ensures.err))

pub returns-in-Last-clause-ok : goal.returns-in-Last-clause-ok
returns-in-Last-clause-ok g c =
    ends_last c.each_line.invariant (rw c.in-Last.is at c.in_ok-next_line.ensures.ok) (rw c.deref.ensures.value at c.in_ok-answer_line-in-Last.ensures.ok)

pub returns-in_err-answer_line-in-Line-clause-err : goal.returns-in_err-answer_line-in-Line-clause-err
returns-in_err-answer_line-in-Line-clause-err g c =
    let p = err_from_is_err_and c.from_residual-in_err-answer_line-in-Line.result c.from_residual-in_err-answer_line-in-Line.ensures.1 in
    rw (p.1, p.2) (stops_writing_line c.each_line.invariant (rw c.in-Line.is at c.in_ok-next_line.ensures.ok) _
    (rw c.deref-in-Line.ensures.value at c.in_err-answer_line-in-Line.ensures.err))

pub returns-then-branch-clause-ok : goal.returns-then-branch-clause-ok
returns-then-branch-clause-ok g c =
    let e = c.in_ok-answer_line-in-Line.ensures in
    quits c.each_line.invariant (rw c.in-Line.is at c.in_ok-next_line.ensures.ok) (rw c.deref-in-Line.ensures.value at (sym e.quit ∙ c.if-branch.true))
    (rw c.deref-in-Line.ensures.value at e.ok)

pub each_line-preserved : goal.each_line-preserved
each_line-preserved g c =
    let e = c.in_ok-answer_line-in-Line.ensures in
    more_line c.each_line.invariant (rw c.in-Line.is at c.in_ok-next_line.ensures.ok) (rw c.deref-in-Line.ensures.value at (sym e.quit ∙ c.if-branch.false))
    (rw c.deref-in-Line.ensures.value at e.ok)
    _ _ (rw c.deref-in-Line.ensures.value at e.place) e.run
