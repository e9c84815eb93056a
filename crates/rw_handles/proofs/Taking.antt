-- Handles that are taken out one by one, by a table of their numbers.
use Rattle.std.proofs.Common.{◌≡◌, ℕ, zero, suc, ◌+◌, ◌-◌, ◌<◌, ◌≤◌, Bool, true, false, cond, List, [], ◌∷◌, ◌++◌, length, set, get_or, take}
use Rattle.std.proofs.Common.{refl, ap, sym, ◌∙◌, subst, arith, inl, inr}
use Rattle.std.specs.Prelude.{Some, All, slice_get, count_by, unwrap_or, ◌⊎◌}
use Rattle.std.proofs.lemmas.Bool.{cases_lt, cases_eq}
use Rattle.std.proofs.lemmas.List.{length_push, take_more}
use Rattle.std.proofs.lemmas.List.Elements.{All-head, All-push, All-tail}
use Rattle.std.proofs.lemmas.List.Sums.{sum_by-cons, sum_by_push, sum_by-set}
use Rattle.std.proofs.lemmas.Option.{slice_get_within, slice_get_past, slice_get-get_or, get_or_from_slice_get}
use Rattle.rw_handles.specs.declared.kinds.Slot.{Slot}
use Rattle.rw_handles.specs.declared.kinds.Slot.TheVariants.{Live, Spent}
use Rattle.rw_handles.specs.Renaming.{IsRenaming, is_live, number_before}
use Rattle.rw_handles.proofs.Renaming.{get_push_first, get_push_next, get_set_other}
use Rattle.rw_handles.proofs.SlotLaws.{slice_get-set}

-- the live handles xs were taken out of ys, where they had these numbers. The slots in `left` are left
pub record AreTaken {X : Type 0} (ns : List ℕ) (xs ys left : List (Slot X)) : Type 0 where
  pub many : length ns ≡ length xs
  pub found : (i n : ℕ) → slice_get ns i ≡ Some n → slice_get ys n ≡ slice_get xs i
  pub gone : (i n : ℕ) → slice_get ns i ≡ Some n → slice_get left n ≡ Some Spent
  pub kept : (n : ℕ) → (slice_get left n ≡ slice_get ys n) ⊎ (slice_get left n ≡ Some Spent)
  pub apart : (i j n : ℕ) → slice_get ns i ≡ Some n → slice_get ns j ≡ Some n → i ≡ j
  pub counted : (test : Slot X → Bool) → test Spent ≡ false → count_by test left + count_by test xs ≡ count_by test ys

pub none_taken : {X : Type 0} (ys : List (Slot X)) → AreTaken [] [] ys ys
none_taken ys = record {
  many = refl;
  found = λ i n at. cc;
  gone = λ i n at. absurd cc;
  kept = λ n. inl refl;
  apart = λ i j n at too. absurd cc;
  counted = λ test none. omega arith;
}

-- ---- one more

get_push : {A : Type 0} (xs : List A) (a : A) (i : ℕ) (b : A) → slice_get (xs ++ a ∷ []) i ≡ Some b
    → ((i < length xs) × (slice_get xs i ≡ Some b)) ⊎ ((i ≡ length xs) × (b ≡ a))
get_push [] a zero b is = inr (refl, cc)
get_push [] a (suc i) b is = absurd cc
get_push (x ∷ xs) a zero b is = inl (omega arith, is)
get_push (x ∷ xs) a (suc i) b is = one_further (get_push xs a i b is) where
  one_further : ((i < length xs) × (slice_get xs i ≡ Some b)) ⊎ ((i ≡ length xs) × (b ≡ a))
      → ((suc i < suc (length xs)) × (slice_get xs i ≡ Some b)) ⊎ ((suc i ≡ suc (length xs)) × (b ≡ a))
  one_further (inl h) = inl (omega (arith, h.0), h.1)
  one_further (inr h) = inr (ap suc h.0, h.1)

get_last : {A : Type 0} (xs : List A) (a : A) (i : ℕ) → i ≡ length xs → slice_get (xs ++ a ∷ []) i ≡ Some a
get_last xs a i last =
    let none : i ≡ length xs + 0 = omega (arith, last) in
    ap (slice_get (xs ++ a ∷ [])) none ∙ get_push_next xs a 0

live_or_spent : {X : Type 0} (s : Slot X) → is_live s ≡ true → Some s ≡ Some Spent → ⊥
live_or_spent (Live kind x) live is = absurd cc
live_or_spent Spent live is = absurd cc

module _ {X : Type 0} (ns : List ℕ) (xs ys left : List (Slot X)) (t : AreTaken ns xs ys left) (n : ℕ) (s : Slot X) (at : slice_get left n ≡ Some s)
    (live : is_live s ≡ true) where
  -- the handle was not taken before
  stands : slice_get ys n ≡ Some s
  stands = by_case (t.kept n) where
    by_case : (slice_get left n ≡ slice_get ys n) ⊎ (slice_get left n ≡ Some Spent) → slice_get ys n ≡ Some s
    by_case (inl same) = sym same ∙ at
    by_case (inr spent) = absurd (live_or_spent s live (sym at ∙ spent))

  not_taken : (i : ℕ) → slice_get ns i ≡ Some n → ⊥
  not_taken i is = live_or_spent s live (sym at ∙ t.gone i n is)

  now_gone : slice_get (set left n Spent) n ≡ Some Spent
  now_gone = slice_get-set left n Spent s at

  more_many : length (ns ++ n ∷ []) ≡ length (xs ++ s ∷ [])
  more_many = omega (arith, length_push ns n, length_push xs s, t.many)

  more_found : (i m : ℕ) → slice_get (ns ++ n ∷ []) i ≡ Some m → slice_get ys m ≡ slice_get (xs ++ s ∷ []) i
  more_found i m is = by_case (get_push ns n i m is) where
    by_case : ((i < length ns) × (slice_get ns i ≡ Some m)) ⊎ ((i ≡ length ns) × (m ≡ n)) → slice_get ys m ≡ slice_get (xs ++ s ∷ []) i
    by_case (inl h) = t.found i m h.1 ∙ sym (get_push_first xs s i (omega (arith, h.0, t.many)))
    by_case (inr h) = ap (slice_get ys) h.1 ∙ stands ∙ sym (get_last xs s i (h.0 ∙ t.many))

  still_gone : (m : ℕ) → slice_get left m ≡ Some Spent → slice_get (set left n Spent) m ≡ Some Spent
  still_gone m is = by_number (cases_eq m n) where
    by_number : (m ≡ n) ⊎ (m ≡ n → ⊥) → slice_get (set left n Spent) m ≡ Some Spent
    by_number (inl one) = ap (slice_get (set left n Spent)) one ∙ now_gone
    by_number (inr two) = get_set_other left n m Spent two ∙ is

  more_gone : (i m : ℕ) → slice_get (ns ++ n ∷ []) i ≡ Some m → slice_get (set left n Spent) m ≡ Some Spent
  more_gone i m is = by_case (get_push ns n i m is) where
    by_case : ((i < length ns) × (slice_get ns i ≡ Some m)) ⊎ ((i ≡ length ns) × (m ≡ n)) → slice_get (set left n Spent) m ≡ Some Spent
    by_case (inl h) = still_gone m (t.gone i m h.1)
    by_case (inr h) = ap (slice_get (set left n Spent)) h.1 ∙ now_gone

  more_kept : (m : ℕ) → (slice_get (set left n Spent) m ≡ slice_get ys m) ⊎ (slice_get (set left n Spent) m ≡ Some Spent)
  more_kept m = by_number (cases_eq m n) (t.kept m) where
    by_number : (m ≡ n) ⊎ (m ≡ n → ⊥) → (slice_get left m ≡ slice_get ys m) ⊎ (slice_get left m ≡ Some Spent)
        → (slice_get (set left n Spent) m ≡ slice_get ys m) ⊎ (slice_get (set left n Spent) m ≡ Some Spent)
    by_number (inl one) _ = inr (ap (slice_get (set left n Spent)) one ∙ now_gone)
    by_number (inr two) (inl same) = inl (get_set_other left n m Spent two ∙ same)
    by_number (inr two) (inr spent) = inr (get_set_other left n m Spent two ∙ spent)

  more_apart : (i j m : ℕ) → slice_get (ns ++ n ∷ []) i ≡ Some m → slice_get (ns ++ n ∷ []) j ≡ Some m → i ≡ j
  more_apart i j m is too = by_case (get_push ns n i m is) (get_push ns n j m too) where
    by_case : ((i < length ns) × (slice_get ns i ≡ Some m)) ⊎ ((i ≡ length ns) × (m ≡ n))
        → ((j < length ns) × (slice_get ns j ≡ Some m)) ⊎ ((j ≡ length ns) × (m ≡ n)) → i ≡ j
    by_case (inl g) (inl h) = t.apart i j m g.1 h.1
    by_case (inl g) (inr h) = absurd (not_taken i (g.1 ∙ ap Some h.1))
    by_case (inr g) (inl h) = absurd (not_taken j (h.1 ∙ ap Some g.1))
    by_case (inr g) (inr h) = g.0 ∙ sym h.0

  more_counted : (test : Slot X → Bool) → test Spent ≡ false → count_by test (set left n Spent) + count_by test (xs ++ s ∷ []) ≡ count_by test ys
  more_counted test none =
      let bit : Slot X → ℕ = λ s. cond (test s) 1 0 in
      let no : bit Spent ≡ 0 = ap (λ b. cond b 1 0) none in
      let moved = sum_by-set bit left n Spent s (slice_get_within left n s at) in
      let was : bit (get_or left n s) ≡ bit s = ap bit (get_or_from_slice_get left n s s at) in
      omega (arith, moved, was, no, sum_by_push bit xs s, t.counted test none)

  pub one_more : AreTaken (ns ++ n ∷ []) (xs ++ s ∷ []) ys (set left n Spent)
  one_more = record {
    many = more_many;
    found = more_found;
    gone = more_gone;
    kept = more_kept;
    apart = more_apart;
    counted = more_counted;
  }

-- ---- all

none_counted : {X : Type 0} (test : Slot X → Bool) → test Spent ≡ false → (slots : List (Slot X)) → All (λ s. s ≡ Spent) slots → count_by test slots ≡ 0
none_counted test none [] all = refl
none_counted test none (s ∷ slots) all =
    let bit : Slot _ → ℕ = λ s. cond (test s) 1 0 in
    let first : bit s ≡ 0 = ap bit (All-head (λ s. s ≡ Spent) s slots all) ∙ ap (λ b. cond b 1 0) none in
    omega (arith, sum_by-cons bit s slots, first, none_counted test none slots (All-tail (λ s. s ≡ Spent) s slots all))

number_within : (ns : List ℕ) (made h : ℕ) → h < length ns → (slice_get ns h ≡ Some (number_before ns made h))
number_within ns made h within =
    let at = slice_get-get_or ns h 0 within in
    at ∙ ap Some (sym (ap (λ o. unwrap_or o (made + (h - length ns))) at))

number_past : (ns : List ℕ) (made h : ℕ) → length ns ≤ h → number_before ns made h ≡ made + (h - length ns)
number_past ns made h past = ap (λ o. unwrap_or o (made + (h - length ns))) (slice_get_past ns h past)

module _ {X : Type 0} (ns : List ℕ) (xs ys left : List (Slot X)) (t : AreTaken ns xs ys left) (all : All (λ s. s ≡ Spent) left) where
  abbrev to : ℕ → ℕ
  to h = number_before ns (length ys) h

  to_within : (h : ℕ) → h < length ns → Slot X → to h < length ys
  to_within h within d =
      slice_get_within ys (to h) (get_or xs h d)
      (t.found h (to h) (number_within ns (length ys) h within) ∙ slice_get-get_or xs h d (omega (arith, within, t.many)))

  all_found : (h : ℕ) → slice_get ys (to h) ≡ slice_get xs h
  all_found h = by_order (cases_lt h (length ns)) where
    by_order : (h < length ns) ⊎ (length ns ≤ h) → slice_get ys (to h) ≡ slice_get xs h
    by_order (inl within) = t.found h (to h) (number_within ns (length ys) h within)
    by_order (inr past) =
        slice_get_past ys (to h) (omega (arith, number_past ns (length ys) h past)) ∙ sym (slice_get_past xs h (omega (arith, past, t.many)))

  all_apart : (g h : ℕ) → to g ≡ to h → g ≡ h
  all_apart g h one = by_order (cases_lt g (length ns)) (cases_lt h (length ns)) where
    by_order : (g < length ns) ⊎ (length ns ≤ g) → (h < length ns) ⊎ (length ns ≤ h) → g ≡ h
    by_order (inl a) (inl b) = t.apart g h (to h) (number_within ns (length ys) g a ∙ ap Some one) (number_within ns (length ys) h b)
    by_order (inl a) (inr b) = absurd (omega (arith, one, to_within g a Spent, number_past ns (length ys) h b))
    by_order (inr a) (inl b) = absurd (omega (arith, one, to_within h b Spent, number_past ns (length ys) g a))
    by_order (inr a) (inr b) = omega (arith, one, a, b, number_past ns (length ys) g a, number_past ns (length ys) h b)

  pub all_taken : IsRenaming (number_before ns (length ys)) xs ys
  all_taken = record {
    found = all_found;
    apart = all_apart;
    onward = λ n. omega (arith, t.many, number_past ns (length ys) (length xs + n) (omega (arith, t.many)));
    counted = λ test none. omega (arith, t.counted test none, none_counted test none left all);
  }

-- ---- in order

pub one_more_in_order : {X : Type 0} (ns : List ℕ) (xs ys left : List (Slot X)) (i e : ℕ) (d : Slot X) → i < length ns → i < length xs
    → AreTaken (take i ns) (take i xs) ys left → slice_get left (get_or ns i e) ≡ Some (get_or xs i d) → is_live (get_or xs i d) ≡ true
    → AreTaken (take (i + 1) ns) (take (i + 1) xs) ys (set left (get_or ns i e) Spent)
one_more_in_order ns xs ys left i e d within too t at live =
    let n = get_or ns i e in
    let s = get_or xs i d in
    subst (λ l. AreTaken l (take (i + 1) xs) ys (set left n Spent)) (sym (take_more ns i e within))
    (subst (λ l. AreTaken (take i ns ++ n ∷ []) l ys (set left n Spent)) (sym (take_more xs i d too)) (one_more (take i ns) (take i xs) ys left t n s at live))

pub one_more_spent : {X : Type 0} (slots : List (Slot X)) (i : ℕ) (d : Slot X) → i < length slots → get_or slots i d ≡ Spent
    → All (λ s. s ≡ Spent) (take i slots) → All (λ s. s ≡ Spent) (take (i + 1) slots)
one_more_spent slots i d within is all =
    subst (All (λ s. s ≡ Spent)) (sym (take_more slots i d within)) (All-push (λ s. s ≡ Spent) (take i slots) (get_or slots i d) all is)
