use Rattle.std.proofs.Common.{sym, arith}
use Rattle.rw_script.proofs.WellFormedLaws.{script_holds, some_of}
use Rattle.rw_script.proofs.reader.ScriptReader.finish.Goals as goal

pub of-requires : goal.of-requires
of-requires c = rw c.unwrap_or.ensures (script_holds _ c.self.invariant (omega (arith, some_of _ (sym c.if-is_empty.ensures), c.self.inside.specs.ok)))
