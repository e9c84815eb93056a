-- What each undoing restores, in the slots of a table, and which slots are renamings of others.
use Rattle.std.specs.Prelude.{◌≡◌, ℕ, ◌-◌, List, [], ◌∷◌, ◌++◌, length, map, take, slice_get, slice_set, Some}
use Rattle.rw_handles.specs.declared.kinds.Kind.{Kind}
use Rattle.rw_handles.specs.declared.kinds.Slot.{Slot}
use Rattle.rw_handles.specs.declared.kinds.Slot.TheVariants.{Live, Spent}
use Rattle.rw_handles.specs.Slots.{with_value}
use Rattle.rw_handles.specs.Renaming.{IsRenaming, live_ones, live_numbers, number_before}

-- undoing a making gives the slots before it
abbrev pub UnmakeUndoesMake : Type 0 → Type 0
UnmakeUndoesMake X = (slots : List (Slot X)) (kind : Kind) (x : X)
    → take (length (slots ++ Live kind x ∷ []) - 1) (slots ++ Live kind x ∷ []) ≡ slots

-- undoing a drop, with the kind and value that it returned, gives the slots before it
abbrev pub UndropUndoesDrop : Type 0 → Type 0
UndropUndoesDrop X = (slots : List (Slot X)) (id : ℕ) (kind : Kind) (x : X) → slice_get slots id ≡ Some (Live kind x)
    → slice_set (slice_set slots id Spent) id (Live kind x) ≡ slots

-- the slots after a write of the value under a number
abbrev pub with_value_at : {X : Type 0} → List (Slot X) → ℕ → X → List (Slot X)
with_value_at slots id x = slice_set slots id (with_value x (slice_get slots id))

-- writing the old value back gives the slots before the write
abbrev pub SetUndoesSet : Type 0 → Type 0
SetUndoesSet X = (slots : List (Slot X)) (id : ℕ) (kind : Kind) (old new : X) → slice_get slots id ≡ Some (Live kind old)
    → with_value_at (with_value_at slots id new) id old ≡ slots

-- the live handles alone are a renaming of all
abbrev pub RenamesLiveOnes : Type 0 → Type 0
RenamesLiveOnes X = (slots : List (Slot X)) → IsRenaming (number_before (live_numbers slots) (length slots)) (live_ones slots) slots

-- a handle that is made in both leaves a renaming one
abbrev pub KeepsRenamingAtMake : Type 0 → Type 0
KeepsRenamingAtMake X = (to : ℕ → ℕ) (xs ys : List (Slot X)) (slot : Slot X) → IsRenaming to xs ys → IsRenaming to (xs ++ slot ∷ []) (ys ++ slot ∷ [])

-- a handle that is written or dropped in both, too
abbrev pub KeepsRenamingAtSet : Type 0 → Type 0
KeepsRenamingAtSet X = (to : ℕ → ℕ) (xs ys : List (Slot X)) (h : ℕ) (slot : Slot X) → IsRenaming to xs ys
    → IsRenaming to (slice_set xs h slot) (slice_set ys (to h) slot)

-- a change of every handle in both, which leaves dropped ones dropped, too
abbrev pub KeepsRenamingAtMap : Type 0 → Type 0
KeepsRenamingAtMap X = (to : ℕ → ℕ) (xs ys : List (Slot X)) (change : Slot X → Slot X) → change Spent ≡ Spent → IsRenaming to xs ys
    → IsRenaming to (map change xs) (map change ys)

-- one renaming after another is a renaming
abbrev pub RenamesTwice : Type 0 → Type 0
RenamesTwice X = (to onto : ℕ → ℕ) (xs ys zs : List (Slot X)) → IsRenaming to xs ys → IsRenaming onto ys zs → IsRenaming (λ h. onto (to h)) xs zs
