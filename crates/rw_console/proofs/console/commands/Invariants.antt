use Rattle.rw_console.proofs.Answering.{Answering}
use Rattle.rw_console.proofs.console.commands.Given as goal

abbrev pub invariant-each_line : goal.invariant-each_line
invariant-each_line g l = Answering (g.R.Read.remaining l.fn.reader) (g.R.Read.remaining l.reader) (g.W.Write.contents l.fn.writer)
    (g.W.Write.contents l.writer)
    l.fn.allowed l.allowed l.fn.walk.run l.walk.run l.fn.walk.place l.walk.place

abbrev pub decreases-each_line : goal.decreases-each_line
decreases-each_line g l = l.allowed
