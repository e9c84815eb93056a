-- The live handles alone: where each of them is found, and what holds of all.
use Rattle.std.proofs.Common.{◌≡◌, ℕ, zero, suc, ◌+◌, List, [], ◌∷◌, refl, ap, sym, ◌∙◌, arith}
use Rattle.std.specs.Prelude.{Some, All, slice_get, take, cond}
use Rattle.std.proofs.lemmas.List.Sums.{sum_by-cons}
use Rattle.std.proofs.lemmas.List.Elements.{All-cons, All-head, All-tail}
use Rattle.rw_handles.specs.declared.kinds.Kind.{Kind}
use Rattle.rw_handles.specs.declared.kinds.Slot.{Slot}
use Rattle.rw_handles.specs.declared.kinds.Slot.TheVariants.{Live, Spent}
use Rattle.rw_handles.specs.Slots.{alive, is_alive}
use Rattle.rw_handles.specs.Renaming.{is_live, live_ones, numbers_from, live_numbers}
use Rattle.rw_handles.proofs.Renaming.{counted_live}
use Rattle.rw_waiting.specs.Renumbered.{number_among, HasNumbers}

module _ {X : Type 0} where
  abbrev bit : Slot X → ℕ
  bit s = cond (is_live s) 1 0

  past_live : (kind : Kind) (item : X) (slots : List (Slot X)) (h : ℕ) → number_among (Live kind item ∷ slots) (suc h) ≡ suc (number_among slots h)
  past_live kind item slots h = omega (arith, sum_by-cons bit (Live kind item) (take h slots))

  past_spent : (slots : List (Slot X)) (h : ℕ) → number_among (Spent ∷ slots) (suc h) ≡ number_among slots h
  past_spent slots h = omega (arith, sum_by-cons bit Spent (take h slots))

  -- a live handle is found under its new number
  pub found_live : (slots : List (Slot X)) (h : ℕ) (kind : Kind) (item : X) → slice_get slots h ≡ Some (Live kind item)
      → slice_get (live_ones slots) (number_among slots h) ≡ Some (Live kind item)
  found_live [] h kind item is = absurd cc
  found_live (Live own x ∷ slots) zero kind item is = is
  found_live (Spent ∷ slots) zero kind item is = absurd cc
  found_live (Live own x ∷ slots) (suc h) kind item is =
      ap (slice_get (Live own x ∷ live_ones slots)) (past_live own x slots h) ∙ found_live slots h kind item is
  found_live (Spent ∷ slots) (suc h) kind item is = ap (slice_get (live_ones slots)) (past_spent slots h) ∙ found_live slots h kind item is

  -- its number before is listed there
  number_listed : (n : ℕ) (slots : List (Slot X)) (h : ℕ) (kind : Kind) (item : X) → slice_get slots h ≡ Some (Live kind item)
      → slice_get (numbers_from n slots) (number_among slots h) ≡ Some (n + h)
  number_listed n [] h kind item is = absurd cc
  number_listed n (Live own x ∷ slots) zero kind item is = let none : n ≡ n + 0 = omega arith in ap Some none
  number_listed n (Spent ∷ slots) zero kind item is = absurd cc
  number_listed n (Live own x ∷ slots) (suc h) kind item is =
      let more : n + 1 + h ≡ n + suc h = omega arith in
      ap (slice_get (n ∷ numbers_from (n + 1) slots)) (past_live own x slots h) ∙ number_listed (n + 1) slots h kind item is ∙ ap Some more
  number_listed n (Spent ∷ slots) (suc h) kind item is =
      let more : n + 1 + h ≡ n + suc h = omega arith in
      ap (slice_get (numbers_from (n + 1) slots)) (past_spent slots h) ∙ number_listed (n + 1) slots h kind item is ∙ ap Some more

  pub has_numbers : (before : List ℕ) (slots : List (Slot X)) → before ≡ live_numbers slots → HasNumbers before slots
  has_numbers before slots same h kind item is =
      let none : 0 + h ≡ h = omega arith in
      ap (λ numbers. slice_get numbers (number_among slots h)) same ∙ number_listed 0 slots h kind item is ∙ ap Some none

  pub alive_live : (kind : Kind) (slots : List (Slot X)) → alive kind (live_ones slots) ≡ alive kind slots
  alive_live kind slots = sym (counted_live (is_alive kind) refl slots)

  -- what holds of all holds of the live ones
  pub all_live : (P : Slot X → Type 0) (slots : List (Slot X)) → All P slots → All P (live_ones slots)
  all_live P [] all = all
  all_live P (Live kind x ∷ slots) all =
      All-cons P (Live kind x) (live_ones slots) (All-head P (Live kind x) slots all) (all_live P slots (All-tail P (Live kind x) slots all))
  all_live P (Spent ∷ slots) all = all_live P slots (All-tail P Spent slots all)
