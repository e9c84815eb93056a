-- Commands over a run, before any was read.
use Rattle.std.proofs.Common.{ℕ, List, [], Option, refl, arith}
use Rattle.rw_lines.specs.declared.streams.StreamFault.TheVariants.{NoMemory}
use Rattle.rw_lines.proofs.Known.{Appends-none, Consumes-none}
use Rattle.rw_console.specs.Streams.{Always, Stops}

-- nothing was read and nothing was written
pub stops_at_once : (r w : Option (List ℕ)) (report : List ℕ → List ℕ) (limit : ℕ) → Stops r r w w report Always limit NoMemory
stops_at_once r w report limit = record {
  bytes = [];
  text = [];
  rest = report [];
  read = Consumes-none r;
  written = Appends-none w;
  prefix = refl;
  why = omega arith;
}
