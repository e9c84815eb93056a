-- One element of a list changed, and the extremes of a list of numbers.
use Rattle.std.specs.Prelude.{ℕ, zero, suc, max, min, List, [], ◌∷◌}
use Rattle.rw_law.specs.declared.limits.TheConstants.{MOST_WEIGHT}

-- the list with f applied to the element at index i, where there is one
abbrev pub map_at : {X : Type 0} → (X → X) → List X → ℕ → List X
map_at f [] i = []
map_at f (x ∷ xs) zero = f x ∷ xs
map_at f (x ∷ xs) (suc i) = x ∷ map_at f xs i

-- P holds of each element
abbrev pub Each : {X : Type 0} → (X → Type 0) → List X → Type 0
Each P [] = Unit {0}
Each P (x ∷ xs) = P x × Each P xs

-- the greatest f of an element, or 0 where there is none
abbrev pub greatest : {X : Type 0} → (X → ℕ) → List X → ℕ
greatest f [] = 0
greatest f (x ∷ xs) = max (f x) (greatest f xs)

-- the least f of an element, and at most the greatest weight
abbrev pub least : {X : Type 0} → (X → ℕ) → List X → ℕ
least f [] = MOST_WEIGHT
least f (x ∷ xs) = min (f x) (least f xs)
