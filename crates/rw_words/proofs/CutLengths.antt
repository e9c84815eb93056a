-- The parts of a cut are shorter than the whole.
use Rattle.std.proofs.Common.{◌≡◌, ◌+◌, ℕ, List, ◌∷◌, Some, length, ap, arith}
use Rattle.std.proofs.lemmas.List.{length-append}
use Rattle.rw_lines.specs.Cut.{cut}
use Rattle.rw_lines.proofs.CutLaws.{cut_parts}

pub cut_lengths : (mark : ℕ) (bytes : List ℕ) (p : List ℕ × List ℕ) → cut mark bytes ≡ Some p → length bytes ≡ length p.0 + 1 + length p.1
cut_lengths mark bytes p e = omega (arith, ap length (cut_parts mark bytes p e).1, length-append p.0 (mark ∷ p.1))
