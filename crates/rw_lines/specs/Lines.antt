-- The lines of bytes.
use Rattle.std.specs.Prelude.{ℕ, List, [], ◌∷◌, ◌++◌, ◌==◌, Bool, true, if◌then◌else◌, IsTrue}
use Rattle.std.specs.List.{onto_first, flat_map}
use Rattle.rw_lines.specs.Cut.{lacks}

-- Each line ends with LF, which the last one may lack. A line doesn't include its LF.
abbrev pub lines : List ℕ → List (List ℕ)
lines [] = []
lines (b ∷ bs) = if b == 10 then [] ∷ lines bs else onto_first b (lines bs)

-- the bytes of whole lines, each with its LF
abbrev pub unlines : List (List ℕ) → List ℕ
unlines ls = flat_map (λ l. l ++ 10 ∷ []) ls

-- a line, or a prefix of one: there is no LF in it
abbrev pub IsUnbroken : List ℕ → Type 0
IsUnbroken text = IsTrue (lacks 10 text)

-- a line to skip: it is empty, or begins with '#'
abbrev pub is_skipped : List ℕ → Bool
is_skipped [] = true
is_skipped (b ∷ bs) = b == 35
