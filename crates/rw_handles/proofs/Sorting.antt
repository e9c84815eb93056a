-- The live handles, in any order, are a renaming of all.
use Rattle.std.proofs.Common.{◌≡◌, ℕ, zero, suc, ◌+◌, Bool, true, false, cond, List, [], ◌∷◌, length, refl, ap, arith}
use Rattle.std.specs.Prelude.{slice_get, count_by}
use Rattle.std.proofs.lemmas.List.Sums.{sum_by-cons}
use Rattle.rw_handles.specs.declared.kinds.Slot.{Slot}
use Rattle.rw_handles.specs.declared.kinds.Slot.TheVariants.{Spent}
use Rattle.rw_handles.specs.Renaming.{IsRenaming, live_ones, live_numbers, number_before}
use Rattle.rw_handles.specs.Reordering.{exchanged}
use Rattle.rw_handles.specs.Sorting.{put, sorted, RenamesSorted}
use Rattle.rw_handles.proofs.Renaming.{renames_live_ones, renames_twice}
use Rattle.rw_handles.proofs.Reordering.{renames_at_exchange}

-- there is a renaming from these slots to those
abbrev AreRenamed : {X : Type 0} → (xs ys : List (Slot X)) → Type 0
AreRenamed xs ys = (to : ℕ → ℕ) × IsRenaming to xs ys

same : {X : Type 0} (xs : List (Slot X)) → AreRenamed xs xs
same xs = (λ h. h, record { found = λ h. refl; apart = λ g h one. one; onward = λ n. refl; counted = λ test none. refl })

then : {X : Type 0} (xs ys zs : List (Slot X)) → AreRenamed xs ys → AreRenamed ys zs → AreRenamed xs zs
then xs ys zs r s = (λ h. s.0 (r.0 h), renames_twice _ r.0 s.0 xs ys zs r.1 s.1)

-- ---- behind a first slot

after_first : (ℕ → ℕ) → ℕ → ℕ
after_first to zero = zero
after_first to (suc h) = suc (to h)

module _ {X : Type 0} (x : Slot X) (xs ys : List (Slot X)) (to : ℕ → ℕ) (is : IsRenaming to xs ys) where
  found_behind : (h : ℕ) → slice_get (x ∷ ys) (after_first to h) ≡ slice_get (x ∷ xs) h
  unfolding after_first
  found_behind zero = refl
  found_behind (suc h) = is.found h

  apart_behind : (g h : ℕ) → after_first to g ≡ after_first to h → g ≡ h
  unfolding after_first
  apart_behind zero zero one = refl
  apart_behind zero (suc h) one = absurd (omega (arith, one))
  apart_behind (suc g) zero one = absurd (omega (arith, one))
  apart_behind (suc g) (suc h) one = ap suc (is.apart g h (omega (arith, one)))

  onward_behind : (n : ℕ) → after_first to (suc (length xs) + n) ≡ suc (length ys) + n
  unfolding after_first
  onward_behind n =
      let one : suc (length xs) + n ≡ suc (length xs + n) = omega arith in
      let after = ap (after_first to) one in
      omega (arith, after, is.onward n)

  counted_behind : (test : Slot X → Bool) → test Spent ≡ false → count_by test (x ∷ ys) ≡ count_by test (x ∷ xs)
  counted_behind test none =
      let bit : Slot X → ℕ = λ s. cond (test s) 1 0 in
      omega (arith, sum_by-cons bit x xs, sum_by-cons bit x ys, is.counted test none)

behind : {X : Type 0} (x : Slot X) (xs ys : List (Slot X)) → AreRenamed xs ys → AreRenamed (x ∷ xs) (x ∷ ys)
behind x xs ys r = (
  after_first r.0,
  record {
    found = found_behind x xs ys r.0 r.1;
    apart = apart_behind x xs ys r.0 r.1;
    onward = onward_behind x xs ys r.0 r.1;
    counted = counted_behind x xs ys r.0 r.1;
  },
)

swap : {X : Type 0} (x y : Slot X) (xs : List (Slot X)) → AreRenamed (x ∷ y ∷ xs) (y ∷ x ∷ xs)
swap x y xs = (exchanged 0, renames_at_exchange _ 0 (x ∷ y ∷ xs) (omega arith))

-- ---- sorted

module _ {X : Type 0} (comes_first : Slot X → Slot X → Bool) where
  put_renamed : (x : Slot X) (ys : List (Slot X)) → AreRenamed (put comes_first x ys) (x ∷ ys)
  put_renamed x [] = same (x ∷ [])
  put_renamed x (y ∷ ys) = by_test (comes_first x y) (put_renamed x ys) where
    by_test : (b : Bool) → AreRenamed (put comes_first x ys) (x ∷ ys) → AreRenamed (cond b (x ∷ y ∷ ys) (y ∷ put comes_first x ys)) (x ∷ y ∷ ys)
    by_test true rest = same (x ∷ y ∷ ys)
    by_test false rest =
        then (y ∷ put comes_first x ys) (y ∷ x ∷ ys) (x ∷ y ∷ ys) (behind y (put comes_first x ys) (x ∷ ys) rest) (swap y x ys)

  sorted_renamed : (xs : List (Slot X)) → AreRenamed (sorted comes_first xs) xs
  sorted_renamed [] = same []
  sorted_renamed (x ∷ xs) =
      then (put comes_first x (sorted comes_first xs)) (x ∷ sorted comes_first xs) (x ∷ xs)
      (put_renamed x (sorted comes_first xs)) (behind x (sorted comes_first xs) xs (sorted_renamed xs))

pub renames_sorted : (X : Type 0) → RenamesSorted X
renames_sorted X comes_first slots =
    then (sorted comes_first (live_ones slots)) (live_ones slots) slots (sorted_renamed comes_first (live_ones slots))
    (number_before (live_numbers slots) (length slots), renames_live_ones X slots)
