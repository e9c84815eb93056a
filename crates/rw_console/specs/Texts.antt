-- The lines that a session writes about places.
use Rattle.std.specs.Prelude.{ℕ, List, [], ◌++◌, Option, None, Some, Result, Ok, Err, codes, decimal}
use Rattle.rw_navigator.specs.declared.moves.OutOfRange.{OutOfRange}

-- ---- places

abbrev pub place_line : ℕ → ℕ → List ℕ
place_line len place = codes "place " ++ decimal place ++ codes " of " ++ decimal len ++ codes "\n"

-- how the line of a move begins, by its result
abbrev pub refusal : Result (Unit {0}) OutOfRange → List ℕ
refusal (Ok done) = []
refusal (Err out) = codes "out of range, "

-- ---- searches

-- the hit that was found from this place, or that there was none
abbrev pub hit_line : ℕ → ℕ → Option ℕ → List ℕ
hit_line len place None = codes "no hit, " ++ place_line len place
hit_line len place (Some hit) = codes "hit " ++ decimal hit ++ codes " of " ++ decimal len ++ codes "\n"
