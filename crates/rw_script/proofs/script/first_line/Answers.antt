use Rattle.std.proofs.Common.{sym, arith}
use Rattle.rw_lines.proofs.LineLaws.{lines_cut, lines_uncut}
use Rattle.rw_words.proofs.CutLengths.{cut_lengths}
use Rattle.rw_script.proofs.script.first_line.Goals as goal

pub returns-in-Some-clause-lines : goal.returns-in-Some-clause-lines
returns-in-Some-clause-lines c = lines_cut c.args.bytes.now (c.in-Some.line.now, c.in-Some.rest.now) (sym c.in-Some.ensures)

pub returns-in-Some-clause-shorter : goal.returns-in-Some-clause-shorter
returns-in-Some-clause-shorter c = omega (arith, cut_lengths 10 c.args.bytes.now (c.in-Some.line.now, c.in-Some.rest.now) (sym c.in-Some.ensures))

pub returns-in-None-clause-lines : goal.returns-in-None-clause-lines
returns-in-None-clause-lines c = rw c.as_slice.ensures (lines_uncut c.args.bytes.now (sym c.in-None.ensures) c.requires)
