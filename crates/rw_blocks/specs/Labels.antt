-- Words beside a number, and the last word of a channel's first line.
use Rattle.std.specs.Prelude.{ℕ, List, ◌++◌, Bool, true, false, codes, decimal}

-- a number, and the words before it
unfoldable pub with_number : List ℕ → ℕ → List ℕ
with_number label n = label ++ decimal n

-- the last word of a channel's first line
abbrev pub open_or_closed : Bool → List ℕ
open_or_closed true = codes " closed\n"
open_or_closed false = codes " open\n"
