use Rattle.std.proofs.Common.{length, ◌-◌, ◌≤◌, take}
use Rattle.std.specs.Io.KnownBytes.{Appends}
use Rattle.rw_lines.proofs.streams.put.Given as goal

abbrev pub invariant-each_write : goal.invariant-each_write
invariant-each_write g l = record {
  prefix : Appends (g.W.Write.contents l.fn.writer) (g.W.Write.contents l.writer) (take l.written l.bytes);
  within : l.written ≤ length l.bytes;
}

abbrev pub decreases-each_write : goal.decreases-each_write
decreases-each_write g l = length l.bytes - l.written
