-- Bytes cut in two at the first byte of a kind.
use Rattle.std.specs.Prelude.{ℕ, List, [], ◌∷◌, Option, None, Some, Bool, true, not, ◌==◌, ◌&&◌, if◌then◌else◌}

-- the first part with one more byte in front
abbrev pub onto : ℕ → Option (List ℕ × List ℕ) → Option (List ℕ × List ℕ)
onto b None = None
onto b (Some p) = Some (b ∷ p.0, p.1)

-- what is before the first such byte, and what is after it
abbrev pub cut : ℕ → List ℕ → Option (List ℕ × List ℕ)
cut mark [] = None
cut mark (b ∷ bs) = if b == mark then Some ([], bs) else onto b (cut mark bs)

-- there is no such byte
abbrev pub lacks : ℕ → List ℕ → Bool
lacks mark [] = true
lacks mark (b ∷ bs) = not (b == mark) && lacks mark bs
