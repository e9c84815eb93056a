-- Handles under other numbers, and the live handles alone, without the numbers of dropped ones.
use Rattle.std.specs.Prelude.{◌≡◌, ℕ, ◌+◌, ◌-◌, Bool, true, false, List, [], ◌∷◌, length, slice_get, count_by, unwrap_or}
use Rattle.std.specs.List.{filter}
use Rattle.rw_handles.specs.declared.kinds.Slot.{Slot}
use Rattle.rw_handles.specs.declared.kinds.Slot.TheVariants.{Live, Spent}

-- The handle of number h in the first slots has the number `to h` in the second.
pub record IsRenaming {X : Type 0} (to : ℕ → ℕ) (xs ys : List (Slot X)) : Type 0 where
  -- it is the same handle
  pub found : (h : ℕ) → slice_get ys (to h) ≡ slice_get xs h
  -- two handles have two numbers
  pub apart : (g h : ℕ) → to g ≡ to h → g ≡ h
  -- the next handles that are made have the next numbers
  pub onward : (n : ℕ) → to (length xs + n) ≡ length ys + n
  -- no other handle of the second is alive: as many live ones pass any test
  pub counted : (test : Slot X → Bool) → test Spent ≡ false → count_by test ys ≡ count_by test xs

-- whether there is a live handle
abbrev pub is_live : {X : Type 0} → Slot X → Bool
is_live (Live kind x) = true
is_live Spent = false

-- the live handles, in order of number
abbrev pub live_ones : {X : Type 0} → List (Slot X) → List (Slot X)
live_ones slots = filter is_live slots

-- their numbers, where the first slot has number n
abbrev pub numbers_from : {X : Type 0} → ℕ → List (Slot X) → List ℕ
numbers_from n [] = []
numbers_from n (Live kind x ∷ slots) = n ∷ numbers_from (n + 1) slots
numbers_from n (Spent ∷ slots) = numbers_from (n + 1) slots

-- the numbers of the live handles
abbrev pub live_numbers : {X : Type 0} → List (Slot X) → List ℕ
live_numbers slots = numbers_from 0 slots

-- which number handle k had, where of that many handles those of some numbers stayed: the one in the list, and after these
-- one of those that come next
abbrev pub number_before : (stayed : List ℕ) → (made : ℕ) → ℕ → ℕ
number_before stayed made k = unwrap_or (slice_get stayed k) (made + (k - length stayed))

-- only the live handles are left, and these were their numbers before
pub record IsRenumbered {X : Type 0} (before : List ℕ) (old new : List (Slot X)) : Type 0 where
  pub left : new ≡ live_ones old
  pub numbers : before ≡ live_numbers old
  pub renaming : IsRenaming (number_before before (length old)) new old
