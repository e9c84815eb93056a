use Rattle.rw_console.proofs.Scripting.{Scripting}
use Rattle.rw_console.proofs.reading.read_lines.Given as goal

abbrev pub invariant-each_line : goal.invariant-each_line
invariant-each_line g l = Scripting (g.R.Read.remaining l.fn.reader) (g.R.Read.remaining l.reader) l.fn.allowed l.allowed l.script

abbrev pub decreases-each_line : goal.decreases-each_line
decreases-each_line g l = l.allowed
