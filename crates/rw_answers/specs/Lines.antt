-- Numbers in the lines that a page gets.
use Rattle.std.specs.Prelude.{ℕ, List, Option, None, Some, codes}
use Rattle.rw_blocks.specs.Labels.{with_number}

-- a number, or a dash
abbrev pub number_or_dash : Option ℕ → List ℕ
number_or_dash None = codes " -"
number_or_dash (Some n) = with_number (codes " ") n
