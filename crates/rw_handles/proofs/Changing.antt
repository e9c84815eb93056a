-- A change of every handle leaves a renaming one.
use Rattle.std.proofs.Common.{◌≡◌, ℕ, ◌+◌, Bool, cond, List, [], ◌∷◌, map, refl, ap, sym, ◌∙◌, arith}
use Rattle.std.specs.Prelude.{count_by}
use Rattle.std.specs.Option.{option_map}
use Rattle.std.proofs.lemmas.List.{length-map}
use Rattle.std.proofs.lemmas.List.Sums.{sum_by-cons}
use Rattle.std.proofs.lemmas.Option.{slice_get-map}
use Rattle.rw_handles.specs.declared.kinds.Slot.{Slot}
use Rattle.rw_handles.specs.declared.kinds.Slot.TheVariants.{Spent}
use Rattle.rw_handles.specs.Renaming.{IsRenaming}
use Rattle.rw_handles.specs.Laws.{KeepsRenamingAtMap}

counted_changed : {X Y : Type 0} (test : Slot Y → Bool) (change : Slot X → Slot Y) (xs : List (Slot X))
    → count_by test (map change xs) ≡ count_by (λ s. test (change s)) xs
counted_changed test change [] = refl
counted_changed test change (x ∷ xs) =
    let there = sum_by-cons (λ s. cond (test s) 1 0) (change x) (map change xs) in
    let here = sum_by-cons (λ s. cond (test (change s)) 1 0) x xs in
    omega (arith, there, here, counted_changed test change xs)

pub renaming_changed : {X Y : Type 0} (to : ℕ → ℕ) (xs ys : List (Slot X)) (change : Slot X → Slot Y) → change Spent ≡ Spent → IsRenaming to xs ys
    → IsRenaming to (map change xs) (map change ys)
renaming_changed to xs ys change gone is = record {
  found = λ h. slice_get-map change ys (to h) ∙ ap (option_map change) (is.found h) ∙ sym (slice_get-map change xs h);
  apart = is.apart;
  onward = λ n. ap (λ k. to (k + n)) (length-map xs change) ∙ is.onward n ∙ ap (λ k. k + n) (sym (length-map ys change));
  counted = λ test none.
      counted_changed test change ys ∙ is.counted (λ s. test (change s)) (ap test gone ∙ none) ∙ sym (counted_changed test change xs);
}

pub keeps_renaming_at_map : (X : Type 0) → KeepsRenamingAtMap X
keeps_renaming_at_map X = renaming_changed
