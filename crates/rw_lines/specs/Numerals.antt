-- Numerals.
use Rattle.std.specs.Prelude.{ℕ, ◌^◌, List, [], ◌∷◌, Option, None, Some, ◌==◌, ◌&&◌, nat_lt, if◌then◌else◌}
use Rattle.std.specs.Str.{all_ascii_digits}
use Rattle.std.specs.Str.Parse.{digits_value}

-- the number of these digits, if it is below 2^64
abbrev pub digits_in : List ℕ → Option ℕ
digits_in ds = if all_ascii_digits ds && nat_lt (digits_value 10 ds) (2 ^ 64) then Some (digits_value 10 ds) else None

-- the number of a numeral, which is `0`, or digits with no 0 in front
abbrev pub numeral_in : List ℕ → Option ℕ
numeral_in [] = None
numeral_in (d ∷ []) = digits_in (d ∷ [])
numeral_in (d ∷ e ∷ ds) = if d == 48 then None else digits_in (d ∷ e ∷ ds)
