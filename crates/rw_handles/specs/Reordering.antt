-- Renamings one at a time: a dropped handle that is put in between, and two neighbours that change places.
use Rattle.std.specs.Prelude.{ℕ, zero, suc, ◌+◌, ◌<◌, ◌≤◌, List, [], ◌∷◌, length}
use Rattle.rw_handles.specs.declared.kinds.Slot.{Slot}
use Rattle.rw_handles.specs.declared.kinds.Slot.TheVariants.{Spent}
use Rattle.rw_handles.specs.Renaming.{IsRenaming}

-- a dropped handle is put in as number i
abbrev pub inserted : {X : Type 0} → ℕ → List (Slot X) → List (Slot X)
inserted zero xs = Spent ∷ xs
inserted (suc i) [] = Spent ∷ []
inserted (suc i) (x ∷ xs) = x ∷ inserted i xs

-- the number of handle h then
abbrev pub shifted : ℕ → ℕ → ℕ
shifted zero h = suc h
shifted (suc i) zero = zero
shifted (suc i) (suc h) = suc (shifted i h)

-- the handles i and i + 1 change places
abbrev pub swapped : {X : Type 0} → ℕ → List (Slot X) → List (Slot X)
swapped i [] = []
swapped i (x ∷ []) = x ∷ []
swapped zero (x ∷ y ∷ xs) = y ∷ x ∷ xs
swapped (suc i) (x ∷ y ∷ xs) = x ∷ swapped i (y ∷ xs)

-- the number of handle h then
abbrev pub exchanged : ℕ → ℕ → ℕ
exchanged zero zero = suc zero
exchanged zero (suc zero) = zero
exchanged zero (suc (suc h)) = suc (suc h)
exchanged (suc i) zero = zero
exchanged (suc i) (suc h) = suc (exchanged i h)

abbrev pub RenamesAtInsertion : Type 0 → Type 0
RenamesAtInsertion X = (i : ℕ) (xs : List (Slot X)) → i ≤ length xs → IsRenaming (shifted i) xs (inserted i xs)

abbrev pub RenamesAtExchange : Type 0 → Type 0
RenamesAtExchange X = (i : ℕ) (xs : List (Slot X)) → i + 1 < length xs → IsRenaming (exchanged i) xs (swapped i xs)
