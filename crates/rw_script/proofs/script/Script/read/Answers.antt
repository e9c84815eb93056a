use Rattle.std.proofs.Common.{sym, ◌∙◌}
use Rattle.std.proofs.lemmas.Result.{err_from_is_err_and}
use Rattle.rw_lines.specs.Lines.{lines}
use Rattle.rw_script.specs.Memory.{AsksMemory}
use Rattle.rw_script.proofs.ReadingLaws.{ended_spares, read_more, wanting}
use Rattle.rw_script.proofs.script.Script.read.Goals as goal

pub returns-then-is_mark-clause-memory : goal.returns-then-is_mark-clause-memory
returns-then-is_mark-clause-memory c = ended_spares c.each_line.reader c.finish.result c.finish.ensures
    (λ fault. AsksMemory (lines c.args.bytes.now) fault.line)

pub returns-in_err-read_line-clause-memory : goal.returns-in_err-read_line-clause-memory
returns-in_err-read_line-clause-memory c =
    let p = err_from_is_err_and c.from_residual.result c.from_residual.ensures.1 in
    rw (p.1, p.2) (wanting c.args.bytes.now c.each_line.rest.now c.first_line.result.0.now c.first_line.result.1.now c.each_line.reader
    c.each_line.invariant c.first_line.ensures.lines c.in_err-read_line.field-0.0 c.in_err-read_line.ensures.taken c.in_err-read_line.ensures.at)

pub each_line-preserved : goal.each_line-preserved
each_line-preserved c =
    read_more c.args.bytes.now c.each_line.rest.now c.first_line.result.0.now c.first_line.result.1.now c.each_line.reader c.each_line.invariant
    c.first_line.ensures.lines c.read_line.new.self
    (sym c.is_mark.ensures ∙ c.if-is_mark.false) c.in_ok-read_line.ensures.taken c.in_ok-read_line.ensures.lines c.first_line.ensures.shorter
