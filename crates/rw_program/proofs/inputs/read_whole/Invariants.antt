use Rattle.std.proofs.Common.{◌-◌, ◌≤◌, length}
use Rattle.std.specs.Io.KnownBytes.{Consumes}
use Rattle.rw_program.proofs.inputs.read_whole.Given as goal

abbrev pub invariant-each_piece : goal.invariant-each_piece
invariant-each_piece g l = record {
  read : Consumes (g.R.Read.remaining l.fn.reader) (g.R.Read.remaining l.reader) l.bytes.items;
  few : length l.bytes.items ≤ 268435456;
}

abbrev pub decreases-each_piece : goal.decreases-each_piece
decreases-each_piece g l = 268435456 - length l.bytes.items
