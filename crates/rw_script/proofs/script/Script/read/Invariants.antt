use Rattle.std.proofs.Common.{length}
use Rattle.rw_script.proofs.ReadingLaws.{HasRead}
use Rattle.rw_script.proofs.script.Script.read.Given as goal

abbrev pub invariant-each_line : goal.invariant-each_line
invariant-each_line l = HasRead l.fn.bytes l.rest l.reader

abbrev pub decreases-each_line : goal.decreases-each_line
decreases-each_line l = length l.rest
