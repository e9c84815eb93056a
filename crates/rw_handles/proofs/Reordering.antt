-- Renamings one at a time: a dropped handle that is put in between, and two neighbours that change places.
use Rattle.std.proofs.Common.{◌≡◌, ℕ, zero, suc, ◌+◌, ◌<◌, ◌≤◌, Bool, false, cond, List, [], ◌∷◌, length, refl, ap, sym, ◌∙◌, arith}
use Rattle.std.specs.Prelude.{slice_get, count_by}
use Rattle.std.proofs.lemmas.List.Sums.{sum_by-cons}
use Rattle.rw_handles.specs.declared.kinds.Slot.{Slot}
use Rattle.rw_handles.specs.declared.kinds.Slot.TheVariants.{Spent}
use Rattle.rw_handles.specs.Reordering.{inserted, shifted, swapped, exchanged, RenamesAtInsertion, RenamesAtExchange}

-- 1 for a slot that passes the test, else 0
abbrev bit : {X : Type 0} → (Slot X → Bool) → Slot X → ℕ
bit test s = cond (test s) 1 0

-- ---- a dropped handle is put in between

get_inserted : {X : Type 0} (i : ℕ) (xs : List (Slot X)) (h : ℕ) → i ≤ length xs → slice_get (inserted i xs) (shifted i h) ≡ slice_get xs h
get_inserted zero xs h within = refl
get_inserted (suc i) [] h within = absurd (omega (arith, within))
get_inserted (suc i) (x ∷ xs) zero within = refl
get_inserted (suc i) (x ∷ xs) (suc h) within = get_inserted i xs h (omega (arith, within))

shifted_apart : (i g h : ℕ) → shifted i g ≡ shifted i h → g ≡ h
shifted_apart zero g h is = omega (arith, is)
shifted_apart (suc i) zero zero is = refl
shifted_apart (suc i) zero (suc h) is = absurd (omega (arith, is))
shifted_apart (suc i) (suc g) zero is = absurd (omega (arith, is))
shifted_apart (suc i) (suc g) (suc h) is = ap suc (shifted_apart i g h (omega (arith, is)))

onward_inserted : {X : Type 0} (i : ℕ) (xs : List (Slot X)) (n : ℕ) → i ≤ length xs → shifted i (length xs + n) ≡ length (inserted i xs) + n
onward_inserted zero xs n within = let more : suc (length xs + n) ≡ suc (length xs) + n = omega arith in more
onward_inserted (suc i) [] n within = absurd (omega (arith, within))
onward_inserted (suc i) (x ∷ xs) n within =
    let one : suc (length xs) + n ≡ suc (length xs + n) = omega arith in
    let more : suc (length (inserted i xs) + n) ≡ suc (length (inserted i xs)) + n = omega arith in
    ap (shifted (suc i)) one ∙ ap suc (onward_inserted i xs n (omega (arith, within))) ∙ more

counted_inserted : {X : Type 0} (test : Slot X → Bool) → test Spent ≡ false → (i : ℕ) (xs : List (Slot X)) → count_by test (inserted i xs) ≡ count_by test xs
counted_inserted test none zero xs =
    let no : bit test Spent ≡ 0 = ap (λ b. cond b 1 0) none in
    omega (arith, sum_by-cons (bit test) Spent xs, no)
counted_inserted test none (suc i) [] =
    let no : bit test Spent ≡ 0 = ap (λ b. cond b 1 0) none in
    omega (arith, sum_by-cons (bit test) Spent [], no)
counted_inserted test none (suc i) (x ∷ xs) =
    omega (arith, sum_by-cons (bit test) x (inserted i xs), sum_by-cons (bit test) x xs, counted_inserted test none i xs)

pub renames_at_insertion : (X : Type 0) → RenamesAtInsertion X
renames_at_insertion X i xs within = record {
  found = λ h. get_inserted i xs h within;
  apart = shifted_apart i;
  onward = λ n. onward_inserted i xs n within;
  counted = λ test none. counted_inserted test none i xs;
}

-- ---- two neighbours change places

get_swapped : {X : Type 0} (i : ℕ) (xs : List (Slot X)) (h : ℕ) → i + 1 < length xs → slice_get (swapped i xs) (exchanged i h) ≡ slice_get xs h
get_swapped i [] h within = absurd (omega (arith, within))
get_swapped i (x ∷ []) h within = absurd (omega (arith, within))
get_swapped zero (x ∷ y ∷ xs) zero within = refl
get_swapped zero (x ∷ y ∷ xs) (suc zero) within = refl
get_swapped zero (x ∷ y ∷ xs) (suc (suc h)) within = refl
get_swapped (suc i) (x ∷ y ∷ xs) zero within = refl
get_swapped (suc i) (x ∷ y ∷ xs) (suc h) within = get_swapped i (y ∷ xs) h (omega (arith, within))

exchanged_twice : (i h : ℕ) → exchanged i (exchanged i h) ≡ h
exchanged_twice zero zero = refl
exchanged_twice zero (suc zero) = refl
exchanged_twice zero (suc (suc h)) = refl
exchanged_twice (suc i) zero = refl
exchanged_twice (suc i) (suc h) = ap suc (exchanged_twice i h)

onward_swapped : {X : Type 0} (i : ℕ) (xs : List (Slot X)) (n : ℕ) → i + 1 < length xs → exchanged i (length xs + n) ≡ length (swapped i xs) + n
onward_swapped i [] n within = absurd (omega (arith, within))
onward_swapped i (x ∷ []) n within = absurd (omega (arith, within))
onward_swapped zero (x ∷ y ∷ xs) n within =
    let two : suc (suc (length xs)) + n ≡ suc (suc (length xs + n)) = omega arith in
    ap (exchanged zero) two ∙ sym two
onward_swapped (suc i) (x ∷ y ∷ xs) n within =
    let one : suc (suc (length xs)) + n ≡ suc (suc (length xs) + n) = omega arith in
    let more : suc (length (swapped i (y ∷ xs)) + n) ≡ suc (length (swapped i (y ∷ xs))) + n = omega arith in
    ap (exchanged (suc i)) one ∙ ap suc (onward_swapped i (y ∷ xs) n (omega (arith, within))) ∙ more

counted_swapped : {X : Type 0} (test : Slot X → Bool) (i : ℕ) (xs : List (Slot X)) → count_by test (swapped i xs) ≡ count_by test xs
counted_swapped test i [] = refl
counted_swapped test i (x ∷ []) = refl
counted_swapped test zero (x ∷ y ∷ xs) =
    let new = sum_by-cons (bit test) y (x ∷ xs) in
    let old = sum_by-cons (bit test) x (y ∷ xs) in
    omega (arith, new, old, sum_by-cons (bit test) x xs, sum_by-cons (bit test) y xs)
counted_swapped test (suc i) (x ∷ y ∷ xs) =
    omega (arith, sum_by-cons (bit test) x (swapped i (y ∷ xs)), sum_by-cons (bit test) x (y ∷ xs), counted_swapped test i (y ∷ xs))

pub renames_at_exchange : (X : Type 0) → RenamesAtExchange X
renames_at_exchange X i xs within = record {
  found = λ h. get_swapped i xs h within;
  apart = λ g h is. sym (exchanged_twice i g) ∙ ap (exchanged i) is ∙ exchanged_twice i h;
  onward = λ n. onward_swapped i xs n within;
  counted = λ test none. counted_swapped test i xs;
}
