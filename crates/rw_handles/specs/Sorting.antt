-- The live handles in another order.
use Rattle.std.specs.Prelude.{ℕ, Bool, List, [], ◌∷◌, if◌then◌else◌}
use Rattle.rw_handles.specs.declared.kinds.Slot.{Slot}
use Rattle.rw_handles.specs.Renaming.{IsRenaming, live_ones}

module _ {X : Type 0} (comes_first : Slot X → Slot X → Bool) where
  -- a slot is put before the first that it comes before
  abbrev pub put : Slot X → List (Slot X) → List (Slot X)
  put slot [] = slot ∷ []
  put slot (other ∷ slots) = if comes_first slot other then slot ∷ other ∷ slots else other ∷ put slot slots

  -- the slots, each put before those that it comes before
  abbrev pub sorted : List (Slot X) → List (Slot X)
  sorted [] = []
  sorted (slot ∷ slots) = put slot (sorted slots)

-- a law: the live handles, in any order, are a renaming of all
abbrev pub RenamesSorted : Type 0 → Type 0
RenamesSorted X = (comes_first : Slot X → Slot X → Bool) (slots : List (Slot X)) → (to : ℕ → ℕ) × IsRenaming to (sorted comes_first (live_ones slots)) slots
