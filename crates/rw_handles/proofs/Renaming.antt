-- Renamings of handles: the live ones alone, what a making and a write leave, and one renaming after another.
use Rattle.std.proofs.Common.{◌≡◌, ℕ, zero, suc, ◌+◌, ◌-◌, ◌<◌, ◌≤◌, Bool, true, false, cond, List, [], ◌∷◌, ◌++◌, length}
use Rattle.std.proofs.Common.{set, get_or, take, refl, ap, sym, ◌∙◌, subst, arith, length-set, inl, inr}
use Rattle.std.specs.Prelude.{Some, Result, Ok, Err, IfOk, OnErr, slice_get, count_by, unwrap_or, ◌⊎◌}
use Rattle.std.proofs.lemmas.Bool.{cases_lt, cases_eq}
use Rattle.std.proofs.lemmas.List.{append-nil, length_push, set_past, take_more, length-take-le}
use Rattle.std.proofs.lemmas.List.Sums.{sum_by-cons, sum_by_push, sum_by-set, length-filter, count_by-le-length}
use Rattle.std.proofs.lemmas.Option.{slice_get_within, slice_get-get_or, get_or_from_slice_get}
use Rattle.rw_handles.specs.declared.kinds.Slot.{Slot}
use Rattle.rw_handles.specs.declared.kinds.Slot.TheVariants.{Live, Spent}
use Rattle.rw_handles.specs.Renaming.{IsRenaming, is_live, live_ones, numbers_from, live_numbers, number_before}
use Rattle.rw_handles.specs.Laws.{RenamesLiveOnes, KeepsRenamingAtMake, KeepsRenamingAtSet, RenamesTwice}
use Rattle.rw_handles.proofs.SlotLaws.{slice_get-set}

-- ---- the live handles alone

-- the number that handle k of them had
abbrev before : {X : Type 0} → List (Slot X) → ℕ → ℕ
before [] k = k
before (Spent ∷ slots) k = suc (before slots k)
before (Live kind x ∷ slots) zero = zero
before (Live kind x ∷ slots) (suc k) = suc (before slots k)

is_before : {X : Type 0} (n : ℕ) (slots : List (Slot X)) (k : ℕ) → number_before (numbers_from n slots) (n + length slots) k ≡ n + before slots k
is_before n [] k = omega arith
is_before n (Spent ∷ slots) k =
    let one : n + suc (length slots) ≡ n + 1 + length slots = omega arith in
    let more : n + 1 + before slots k ≡ n + suc (before slots k) = omega arith in
    ap (λ m. number_before (numbers_from (n + 1) slots) m k) one ∙ is_before (n + 1) slots k ∙ more
is_before n (Live kind x ∷ slots) zero = omega arith
is_before n (Live kind x ∷ slots) (suc k) =
    let rest = numbers_from (n + 1) slots in
    let same_left : n + suc (length slots) + (suc k - suc (length rest)) ≡ n + 1 + length slots + (k - length rest) = omega arith in
    let one : n + 1 + before slots k ≡ n + suc (before slots k) = omega arith in
    ap (unwrap_or (slice_get rest k)) same_left ∙ is_before (n + 1) slots k ∙ one

found_before : {X : Type 0} (slots : List (Slot X)) (h : ℕ) → slice_get slots (before slots h) ≡ slice_get (live_ones slots) h
found_before [] h = refl
found_before (Spent ∷ slots) h = found_before slots h
found_before (Live kind x ∷ slots) zero = refl
found_before (Live kind x ∷ slots) (suc h) = found_before slots h

apart_before : {X : Type 0} (slots : List (Slot X)) (g h : ℕ) → before slots g ≡ before slots h → g ≡ h
apart_before [] g h same = same
apart_before (Spent ∷ slots) g h same = apart_before slots g h (omega (arith, same))
apart_before (Live kind x ∷ slots) zero zero same = refl
apart_before (Live kind x ∷ slots) zero (suc h) same = absurd (omega (arith, same))
apart_before (Live kind x ∷ slots) (suc g) zero same = absurd (omega (arith, same))
apart_before (Live kind x ∷ slots) (suc g) (suc h) same = ap suc (apart_before slots g h (omega (arith, same)))

onward_before : {X : Type 0} (slots : List (Slot X)) (n : ℕ) → before slots (length (live_ones slots) + n) ≡ length slots + n
onward_before [] n = refl
onward_before (Spent ∷ slots) n =
    let more : suc (length slots + n) ≡ suc (length slots) + n = omega arith in
    ap suc (onward_before slots n) ∙ more
onward_before (Live kind x ∷ slots) n =
    let one : suc (length (live_ones slots)) + n ≡ suc (length (live_ones slots) + n) = omega arith in
    let more : suc (length slots + n) ≡ suc (length slots) + n = omega arith in
    ap (before (Live kind x ∷ slots)) one ∙ ap suc (onward_before slots n) ∙ more

pub counted_live : {X : Type 0} (test : Slot X → Bool) → test Spent ≡ false → (slots : List (Slot X)) → count_by test slots ≡ count_by test (live_ones slots)
counted_live test none [] = refl
counted_live test none (Spent ∷ slots) =
    let bit : ◌≡◌ {A = ℕ} (cond (test Spent) 1 0) 0 = ap (λ b. cond b 1 0) none in
    omega (arith, sum_by-cons (λ s. cond (test s) 1 0) Spent slots, bit, counted_live test none slots)
counted_live test none (Live kind x ∷ slots) =
    let here = sum_by-cons (λ s. cond (test s) 1 0) (Live kind x) slots in
    let there = sum_by-cons (λ s. cond (test s) 1 0) (Live kind x) (live_ones slots) in
    omega (arith, here, there, counted_live test none slots)

-- a renaming by the same numbers, otherwise said
said_otherwise : {X : Type 0} (to onto : ℕ → ℕ) (xs ys : List (Slot X)) → ((h : ℕ) → onto h ≡ to h) → IsRenaming to xs ys → IsRenaming onto xs ys
said_otherwise to onto xs ys same is = record {
  found = λ h. ap (slice_get ys) (same h) ∙ is.found h;
  apart = λ g h one. is.apart g h (sym (same g) ∙ one ∙ same h);
  onward = λ n. same (length xs + n) ∙ is.onward n;
  counted = is.counted;
}

pub renames_live_ones : (X : Type 0) → RenamesLiveOnes X
renames_live_ones X slots =
    said_otherwise (before slots) (number_before (live_numbers slots) (length slots)) (live_ones slots) slots same (record {
      found = found_before slots;
      apart = apart_before slots;
      onward = onward_before slots;
      counted = λ test none. counted_live test none slots;
    }) where
      same : (h : ℕ) → number_before (live_numbers slots) (length slots) h ≡ before slots h
      same h =
          let none : length slots ≡ 0 + length slots = omega arith in
          let too : 0 + before slots h ≡ before slots h = omega arith in
          ap (λ m. number_before (live_numbers slots) m h) none ∙ is_before 0 slots h ∙ too

-- ---- a handle is made

pub get_push_first : {A : Type 0} (xs : List A) (a : A) (i : ℕ) → i < length xs → slice_get (xs ++ a ∷ []) i ≡ slice_get xs i
get_push_first [] a i within = absurd (omega (arith, within))
get_push_first (x ∷ xs) a zero within = refl
get_push_first (x ∷ xs) a (suc i) within = get_push_first xs a i (omega (arith, within))

pub get_push_next : {A : Type 0} (xs : List A) (a : A) (n : ℕ) → slice_get (xs ++ a ∷ []) (length xs + n) ≡ slice_get (a ∷ []) n
get_push_next [] a n = let none : 0 + n ≡ n = omega arith in ap (slice_get (a ∷ [])) none
get_push_next (x ∷ xs) a n =
    let one : suc (length xs) + n ≡ suc (length xs + n) = omega arith in
    ap (slice_get (x ∷ xs ++ a ∷ [])) one ∙ get_push_next xs a n

-- a write leaves the other elements
pub get_set_other : {A : Type 0} (xs : List A) (i j : ℕ) (a : A) → (j ≡ i → ⊥) → slice_get (set xs i a) j ≡ slice_get xs j
get_set_other [] i j a other = refl
get_set_other (x ∷ xs) zero zero a other = absurd (other refl)
get_set_other (x ∷ xs) zero (suc j) a other = refl
get_set_other (x ∷ xs) (suc i) zero a other = refl
get_set_other (x ∷ xs) (suc i) (suc j) a other = get_set_other xs i j a (λ one. other (ap suc one))

module _ {X : Type 0} (to : ℕ → ℕ) (xs ys : List (Slot X)) (is : IsRenaming to xs ys) where
  -- a handle that was made has a number of one that was made
  renamed_within : (h : ℕ) → Slot X → h < length xs → to h < length ys
  renamed_within h d within = slice_get_within ys (to h) (get_or xs h d) (is.found h ∙ slice_get-get_or xs h d within)

  -- one that wasn't made yet has a number of one that wasn't
  renamed_past : (h : ℕ) → length xs ≤ h → to h ≡ length ys + (h - length xs)
  renamed_past h past = let more : h ≡ length xs + (h - length xs) = omega (arith, past) in ap to more ∙ is.onward (h - length xs)

  found_made : (s : Slot X) (h : ℕ) → slice_get (ys ++ s ∷ []) (to h) ≡ slice_get (xs ++ s ∷ []) h
  found_made s h = by_order (cases_lt h (length xs)) where
    by_order : (h < length xs) ⊎ (length xs ≤ h) → slice_get (ys ++ s ∷ []) (to h) ≡ slice_get (xs ++ s ∷ []) h
    by_order (inl within) = get_push_first ys s (to h) (renamed_within h s within) ∙ is.found h ∙ sym (get_push_first xs s h within)
    by_order (inr past) =
        let more : h ≡ length xs + (h - length xs) = omega (arith, past) in
        ap (slice_get (ys ++ s ∷ [])) (renamed_past h past) ∙ get_push_next ys s (h - length xs)
        ∙ sym (ap (slice_get (xs ++ s ∷ [])) more ∙ get_push_next xs s (h - length xs))

  onward_made : (s : Slot X) (n : ℕ) → to (length (xs ++ s ∷ []) + n) ≡ length (ys ++ s ∷ []) + n
  onward_made s n =
      let one : length (xs ++ s ∷ []) + n ≡ length xs + (n + 1) = omega (arith, length_push xs s) in
      let after = ap to one ∙ is.onward (n + 1) in
      omega (arith, after, length_push ys s)

  counted_made : (s : Slot X) (test : Slot X → Bool) → test Spent ≡ false → count_by test (ys ++ s ∷ []) ≡ count_by test (xs ++ s ∷ [])
  counted_made s test none =
      omega (arith, sum_by_push (λ s. cond (test s) 1 0) xs s, sum_by_push (λ s. cond (test s) 1 0) ys s, is.counted test none)

  -- ---- a handle is written or dropped

  found_set : (h : ℕ) (s was : Slot X) → slice_get xs h ≡ Some was → (g : ℕ) → slice_get (set ys (to h) s) (to g) ≡ slice_get (set xs h s) g
  found_set h s was at g = by_number (cases_eq g h) where
    by_number : (g ≡ h) ⊎ (g ≡ h → ⊥) → slice_get (set ys (to h) s) (to g) ≡ slice_get (set xs h s) g
    by_number (inl one) =
        ap (λ k. slice_get (set ys (to h) s) (to k)) one ∙ slice_get-set ys (to h) s was (is.found h ∙ at)
        ∙ sym (ap (slice_get (set xs h s)) one ∙ slice_get-set xs h s was at)
    by_number (inr two) = get_set_other ys (to h) (to g) s (λ one. two (is.apart g h one)) ∙ is.found g ∙ sym (get_set_other xs h g s two)

  counted_set : (h : ℕ) (s was : Slot X) → slice_get xs h ≡ Some was → (test : Slot X → Bool) → test Spent ≡ false
      → count_by test (set ys (to h) s) ≡ count_by test (set xs h s)
  counted_set h s was at test none =
      let f : Slot X → ℕ = λ s. cond (test s) 1 0 in
      let there : slice_get ys (to h) ≡ Some was = is.found h ∙ at in
      let here_moved = sum_by-set f xs h s s (slice_get_within xs h was at) in
      let there_moved = sum_by-set f ys (to h) s s (slice_get_within ys (to h) was there) in
      let here_was : f (get_or xs h s) ≡ f was = ap f (get_or_from_slice_get xs h was s at) in
      let there_was : f (get_or ys (to h) s) ≡ f was = ap f (get_or_from_slice_get ys (to h) was s there) in
      omega (arith, here_moved, there_moved, here_was, there_was, is.counted test none)

  set_of_some : (h : ℕ) (s was : Slot X) → slice_get xs h ≡ Some was → IsRenaming to (set xs h s) (set ys (to h) s)
  set_of_some h s was at = record {
    found = found_set h s was at;
    apart = is.apart;
    onward = λ n. ap (λ k. to (k + n)) (length-set xs h s) ∙ is.onward n ∙ ap (λ k. k + n) (sym (length-set ys (to h) s));
    counted = counted_set h s was at;
  }

  set_of_none : (h : ℕ) (s : Slot X) → length xs ≤ h → IsRenaming to (set xs h s) (set ys (to h) s)
  set_of_none h s past =
      let there = renamed_past h past in
      let same = sym (set_past xs h s past) in
      let too = sym (set_past ys (to h) s (omega (arith, there))) in
      subst (λ zs. IsRenaming to zs (set ys (to h) s)) same (subst (λ zs. IsRenaming to xs zs) too is)

pub keeps_renaming_at_make : (X : Type 0) → KeepsRenamingAtMake X
keeps_renaming_at_make X to xs ys s is = record {
  found = found_made to xs ys is s;
  apart = is.apart;
  onward = onward_made to xs ys is s;
  counted = counted_made to xs ys is s;
}

pub keeps_renaming_at_set : (X : Type 0) → KeepsRenamingAtSet X
keeps_renaming_at_set X to xs ys h s is = by_order (cases_lt h (length xs)) where
  by_order : (h < length xs) ⊎ (length xs ≤ h) → IsRenaming to (set xs h s) (set ys (to h) s)
  by_order (inl within) = set_of_some to xs ys is h s (get_or xs h s) (slice_get-get_or xs h s within)
  by_order (inr past) = set_of_none to xs ys is h s past

-- ---- one renaming after another

pub renames_twice : (X : Type 0) → RenamesTwice X
renames_twice X to onto xs ys zs is then = record {
  found = λ h. then.found (to h) ∙ is.found h;
  apart = λ g h one. is.apart g h (then.apart (to g) (to h) one);
  onward = λ n. ap onto (is.onward n) ∙ then.onward n;
  counted = λ test none. then.counted test none ∙ is.counted test none;
}

-- ---- what is left

pub live_fewer : {X : Type 0} (slots : List (Slot X)) → length (live_ones slots) ≤ length slots
live_fewer slots = omega (arith, length-filter is_live slots, count_by-le-length is_live slots)

-- one of two things holds after a function that may fail
pub left_or_same : {A E : Type 0} (r : Result A E) (L S : Type 0) (P : A → Type 0) → ((a : A) → P a → L) → IfOk r P → OnErr r S → L ⊎ S
left_or_same (Ok a) L S P left ok err = inl (left a ok)
left_or_same (Err e) L S P left ok err = inr err

-- ---- the numbers of the first slots

numbers_push : {X : Type 0} (n : ℕ) (xs : List (Slot X)) (s : Slot X)
    → numbers_from n (xs ++ s ∷ []) ≡ numbers_from n xs ++ numbers_from (n + length xs) (s ∷ [])
numbers_push n [] s = let none : n ≡ n + 0 = omega arith in ap (λ k. numbers_from k (s ∷ [])) none
numbers_push n (Spent ∷ xs) s =
    let one : n + 1 + length xs ≡ n + suc (length xs) = omega arith in
    numbers_push (n + 1) xs s ∙ ap (λ k. numbers_from (n + 1) xs ++ numbers_from k (s ∷ [])) one
numbers_push n (Live kind x ∷ xs) s =
    let one : n + 1 + length xs ≡ n + suc (length xs) = omega arith in
    ap (λ l. n ∷ l) (numbers_push (n + 1) xs s ∙ ap (λ k. numbers_from (n + 1) xs ++ numbers_from k (s ∷ [])) one)

numbers_more : {X : Type 0} (slots : List (Slot X)) (i : ℕ) (d : Slot X) → i < length slots
    → live_numbers (take (i + 1) slots) ≡ live_numbers (take i slots) ++ numbers_from i (get_or slots i d ∷ [])
numbers_more slots i d within =
    let many : 0 + length (take i slots) ≡ i = omega (arith, length-take-le i slots (omega (arith, within))) in
    ap live_numbers (take_more slots i d within) ∙ numbers_push 0 (take i slots) (get_or slots i d)
    ∙ ap (λ n. live_numbers (take i slots) ++ numbers_from n (get_or slots i d ∷ [])) many

pub numbers_more_live : {X : Type 0} (slots : List (Slot X)) (i : ℕ) (d : Slot X) → i < length slots → is_live (get_or slots i d) ≡ true
    → live_numbers (take (i + 1) slots) ≡ live_numbers (take i slots) ++ i ∷ []
numbers_more_live slots i d within live = numbers_more slots i d within ∙ ap (λ l. live_numbers (take i slots) ++ l) (one i (get_or slots i d) live) where
  one : {X : Type 0} (n : ℕ) (s : Slot X) → is_live s ≡ true → numbers_from n (s ∷ []) ≡ n ∷ []
  one n (Live kind x) live = refl
  one n Spent live = absurd cc

pub numbers_more_spent : {X : Type 0} (slots : List (Slot X)) (i : ℕ) (d : Slot X) → i < length slots → is_live (get_or slots i d) ≡ false
    → live_numbers (take (i + 1) slots) ≡ live_numbers (take i slots)
numbers_more_spent slots i d within spent =
    let here = live_numbers (take i slots) in
    numbers_more slots i d within ∙ ap (λ l. here ++ l) (none i (get_or slots i d) spent) ∙ append-nil here where
      none : {X : Type 0} (n : ℕ) (s : Slot X) → is_live s ≡ false → numbers_from n (s ∷ []) ≡ []
      none n (Live kind x) spent = absurd cc
      none n Spent spent = refl
