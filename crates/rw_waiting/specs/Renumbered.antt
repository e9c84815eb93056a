-- The numbers of handles once those of dropped ones are taken out.
use Rattle.std.specs.Prelude.{◌≡◌, ℕ, List, Some, count_by, slice_get, take}
use Rattle.rw_handles.specs.declared.kinds.Kind.{Kind}
use Rattle.rw_handles.specs.declared.kinds.Slot.{Slot}
use Rattle.rw_handles.specs.declared.kinds.Slot.TheVariants.{Live}
use Rattle.rw_handles.specs.Renaming.{is_live}

-- the number of handle h among the live ones: how many of them have lower numbers
abbrev pub number_among : {X : Type 0} → List (Slot X) → ℕ → ℕ
number_among slots h = count_by is_live (take h slots)

-- each live handle's number before is listed at its number among the live ones
abbrev pub HasNumbers : {X : Type 0} → List ℕ → List (Slot X) → Type 0
HasNumbers {X} before slots = (h : ℕ) (kind : Kind) (item : X) → slice_get slots h ≡ Some (Live kind item)
    → slice_get before (number_among slots h) ≡ Some h
