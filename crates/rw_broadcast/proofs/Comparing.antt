-- Retained values and handles, one by one.
use Rattle.std.proofs.Common.{◌≡◌, ℕ, suc, ◌+◌, ◌-◌, ◌<◌, ◌≤◌, List, [], ◌∷◌, ◌++◌, length, map, take, get_or}
use Rattle.std.proofs.Common.{refl, ap, sym, ◌∙◌, subst, arith, inl, inr}
use Rattle.std.specs.Prelude.{slice_get, ◌⊎◌}
use Rattle.std.proofs.lemmas.Bool.{cases_eq}
use Rattle.std.proofs.lemmas.List.{length-map, map_push, take_more}
use Rattle.rw_handles.specs.declared.kinds.Slot.{Slot}
use Rattle.rw_handles.specs.Renaming.{IsRenaming, number_before}
use Rattle.rw_broadcast.specs.Alike.{unread_slot, unread_slots, IsAlike}
use Rattle.rw_broadcast.specs.Shown.{Shown}

-- the first n elements are the same
abbrev pub AreSame : {A : Type 0} → ℕ → List A → List A → Type 0
AreSame n xs ys = (j : ℕ) → j < n → slice_get ys j ≡ slice_get xs j

pub none_same : {A : Type 0} (xs ys : List A) → AreSame 0 xs ys
none_same xs ys j less = absurd (omega (arith, less))

pub one_more_same : {A : Type 0} (xs ys : List A) (n : ℕ) → AreSame n xs ys → slice_get ys n ≡ slice_get xs n → AreSame (n + 1) xs ys
one_more_same xs ys n same is j less = by_number (cases_eq j n) where
  by_number : (j ≡ n) ⊎ (j ≡ n → ⊥) → slice_get ys j ≡ slice_get xs j
  by_number (inl one) = ap (slice_get ys) one ∙ is ∙ ap (slice_get xs) (sym one)
  by_number (inr two) = same j (omega (arith, less, two))

pub all_same : {A : Type 0} (xs ys : List A) (n : ℕ) → length xs ≤ n → length ys ≤ n → AreSame n xs ys → ys ≡ xs
all_same [] [] n few less same = refl
all_same [] (y ∷ ys) n few less same = let is = same 0 (omega (arith, less)) in absurd cc
all_same (x ∷ xs) [] n few less same = let is = same 0 (omega (arith, few)) in absurd cc
all_same (x ∷ xs) (y ∷ ys) n few less same =
    let is = same 0 (omega (arith, few)) in
    let first : y ≡ x = cc in
    ap (λ a. a ∷ ys) first
    ∙ ap (λ l. x ∷ l) (all_same xs ys (n - 1) (omega (arith, few)) (omega (arith, less)) (λ j within. same (suc j) (omega (arith, within))))

pub one_more_unread : (sent : ℕ) (slots : List (Slot ℕ)) (i : ℕ) (d : Slot ℕ) → i < length slots
    → map (unread_slot sent) (take (i + 1) slots) ≡ map (unread_slot sent) (take i slots) ++ unread_slot sent (get_or slots i d) ∷ []
one_more_unread sent slots i d within = ap (map (unread_slot sent)) (take_more slots i d within) ∙ map_push (unread_slot sent) (take i slots) (get_or slots i d)

pub alike_by_slots : (numbers : List ℕ) (x y : Shown ℕ) (here there : List (Slot ℕ)) → y.capacity ≡ x.capacity → y.window ≡ x.window
    → here ≡ unread_slots x → there ≡ unread_slots y → IsRenaming (number_before numbers (length there)) here there
    → IsAlike (number_before numbers (length y.slots)) x y
alike_by_slots numbers x y here there capacity window first second is = record {
  capacity = capacity;
  window = window;
  renaming =
      subst (λ n. IsRenaming (number_before numbers n) (unread_slots x) (unread_slots y)) (length-map y.slots (unread_slot y.sent))
      (subst (λ l. IsRenaming (number_before numbers (length l)) (unread_slots x) l) second
      (subst (λ l. IsRenaming (number_before numbers (length there)) l there) first is));
}
