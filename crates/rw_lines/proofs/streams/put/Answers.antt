use Rattle.std.proofs.Common.{ℕ, arith}
use Rattle.std.proofs.Math.Seq.{take-add}
use Rattle.std.proofs.lemmas.List.{length-drop, length-take, take_rest}
use Rattle.rw_lines.proofs.Known.{Appends-then}
use Rattle.rw_lines.proofs.streams.put.Goals as goal

pub each_write-preserved : goal.each_write-preserved
each_write-preserved g c = record {
  prefix = rw (take-add c.each_write.written c.in-Ok.n c.args.bytes.now)
      (Appends-then _ _ _ _ _ c.each_write.invariant.prefix (rw (take_rest c.args.bytes.now c.each_write.written) at c.in-Ok.ensures.bytes));
  within = omega (arith, length-take {A = ℕ}, length-drop {A = ℕ}, c.in-Ok.ensures.bound);
}
