use Rattle.std.proofs.Common.{◌<◌, length}
use Rattle.rw_lines.specs.declared.lines.TheConstants.{LONGEST_LINE}
use Rattle.rw_lines.proofs.PartLine.{PartLine}
use Rattle.rw_lines.proofs.lines.next_line.Given as goal

abbrev pub invariant-each_byte : goal.invariant-each_byte
invariant-each_byte g l = PartLine (g.R.Read.remaining l.fn.reader) (g.R.Read.remaining l.reader) l.fn.allowed l.allowed l.line.items
    × (LONGEST_LINE < length l.line.items)

abbrev pub decreases-each_byte : goal.decreases-each_byte
decreases-each_byte g l = l.allowed
