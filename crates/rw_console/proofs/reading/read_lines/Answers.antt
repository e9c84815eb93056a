use Rattle.std.proofs.Common.{sym, ◌∙◌}
use Rattle.std.proofs.lemmas.Result.{err_from_is_err_and}
use Rattle.rw_console.proofs.Scripting.{begins, more_line, ends, ends_at_mark, ends_at_last_mark, ends_at_last_line}
use Rattle.rw_console.proofs.Scripting.{fault_last, fault_line, fault_long, stops_reading, stops_line, stops_last}
use Rattle.rw_console.proofs.reading.read_lines.Goals as goal

pub each_line-init : goal.each_line-init
each_line-init g c = begins _ _ _ c.requires.fresh

pub returns-in_err-next_short_line-clause-err : goal.returns-in_err-next_short_line-clause-err
returns-in_err-next_short_line-clause-err g c =
    let p = err_from_is_err_and c.from_residual.result c.from_residual.ensures.1 in
    rw (p.1, p.2) (stops_reading c.each_line.invariant _ c.in_err-next_short_line.ensures.err)

pub returns-in-End-clause-ok : goal.returns-in-End-clause-ok
returns-in-End-clause-ok g c = ends c.each_line.invariant (rw c.in-End.is at c.in_ok-next_short_line.ensures.ok)

pub returns-in-TooLong-clause-ok : goal.returns-in-TooLong-clause-ok
returns-in-TooLong-clause-ok g c = rw c.lines.ensures (fault_long c.each_line.invariant (rw c.in-TooLong.is at c.in_ok-next_short_line.ensures.ok))

pub returns-then-is_mark-clause-ok : goal.returns-then-is_mark-clause-ok
returns-then-is_mark-clause-ok g c =
    ends_at_last_mark c.each_line.invariant (rw c.in-Last.is at c.in_ok-next_short_line.ensures.ok).0
    (rw c.deref.ensures.value at (sym c.is_mark.ensures ∙ c.if-is_mark.true))

pub returns-in_err-fault-in-Last-clause-err : goal.returns-in_err-fault-in-Last-clause-err
returns-in_err-fault-in-Last-clause-err g c =
    let p = err_from_is_err_and c.from_residual-in_err-fault-in-Last.result c.from_residual-in_err-fault-in-Last.ensures.1 in
    rw (p.1, p.2, c.in_err-fault-in-Last.ensures.err) (stops_last c.each_line.invariant (rw c.in-Last.is at c.in_ok-next_short_line.ensures.ok).0)

pub returns-in-Some-clause-ok : goal.returns-in-Some-clause-ok
returns-in-Some-clause-ok g c =
    fault_last c.each_line.invariant (rw c.in-Last.is at c.in_ok-next_short_line.ensures.ok).0
    (rw c.deref.ensures.value at (sym c.is_mark.ensures ∙ c.if-is_mark.false)) c.in-Some.fault
    (rw (c.deref-in-Last.ensures.value, c.in-Some.is) at c.in_ok-fault-in-Last.ensures.ok)

pub returns-in-None-clause-ok : goal.returns-in-None-clause-ok
returns-in-None-clause-ok g c =
    ends_at_last_line c.each_line.invariant (rw c.in-Last.is at c.in_ok-next_short_line.ensures.ok).0
    (rw c.deref.ensures.value at (sym c.is_mark.ensures ∙ c.if-is_mark.false)) _
    (rw (c.deref-in-Last.ensures.value, c.in-None.is) at c.in_ok-fault-in-Last.ensures.ok)

pub returns-then-is_mark-2-clause-ok : goal.returns-then-is_mark-2-clause-ok
returns-then-is_mark-2-clause-ok g c =
    ends_at_mark c.each_line.invariant (rw c.in-Line.is at c.in_ok-next_short_line.ensures.ok).0
    (rw c.deref-in-Line.ensures.value at (sym c.is_mark-in-Line.ensures ∙ c.if-is_mark-2.true))

pub returns-in_err-fault-in-Line-clause-err : goal.returns-in_err-fault-in-Line-clause-err
returns-in_err-fault-in-Line-clause-err g c =
    let p = err_from_is_err_and c.from_residual-in_err-fault-in-Line.result c.from_residual-in_err-fault-in-Line.ensures.1 in
    rw (p.1, p.2, c.in_err-fault-in-Line.ensures.err) (stops_line c.each_line.invariant (rw c.in-Line.is at c.in_ok-next_short_line.ensures.ok).0)

pub returns-in-Some-2-clause-ok : goal.returns-in-Some-2-clause-ok
returns-in-Some-2-clause-ok g c =
    fault_line c.each_line.invariant (rw c.in-Line.is at c.in_ok-next_short_line.ensures.ok).0
    (rw c.deref-in-Line.ensures.value at (sym c.is_mark-in-Line.ensures ∙ c.if-is_mark-2.false)) c.in-Some-2.fault
    (rw (c.deref-in-Line-2.ensures.value, c.in-Some-2.is) at c.in_ok-fault-in-Line.ensures.ok)

pub each_line-preserved : goal.each_line-preserved
each_line-preserved g c =
    more_line c.each_line.invariant (rw c.in-Line.is at c.in_ok-next_short_line.ensures.ok).0
    (rw c.deref-in-Line.ensures.value at (sym c.is_mark-in-Line.ensures ∙ c.if-is_mark-2.false)) _
    (rw (c.deref-in-Line-2.ensures.value, c.in-None-2.is) at c.in_ok-fault-in-Line.ensures.ok)
