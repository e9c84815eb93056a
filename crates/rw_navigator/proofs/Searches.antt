-- One place of a search.
use Rattle.std.proofs.Common.{◌≡◌, ℕ, zero, suc, ◌+◌, ◌-◌, ◌<◌, ◌≤◌, Bool, true, false, Some, None, List}
use Rattle.std.proofs.Common.{length, inl, inr, refl, sym, ◌∙◌, ap, arith, add-one, cond}
use Rattle.std.specs.Prelude.{not, ◌&&◌, nat_lt, slice_get}
use Rattle.std.specs.Option.{option_map_or}
use Rattle.std.proofs.lemmas.Bool.{cases_lt}
use Rattle.std.proofs.lemmas.Option.{slice_get_past}
use Rattle.std.proofs.lemmas.Bool.Decides.{nat_tests}
use Rattle.rw_law.specs.declared.machine.Reversible.{Ghosts}
use Rattle.rw_law.specs.Journal.{after}
use Rattle.rw_navigator.specs.Search.{step_hit, state_hit, last_below, first_of_next, first_above, TestsView}
use Rattle.rw_navigator.specs.Navigator.{Navigator, MovedTo, start_of}

above_zero : (p : ℕ) → 0 < p → nat_lt 0 p ≡ true
above_zero p h = grind (arith, nat_tests)

-- whether place p is a hit, by the entry that leads there
pub step_hit-is : {E : Type 0} (holds : E → Bool) (es : List E) (p : ℕ) (e : E) → 0 < p → slice_get es (p - 1) ≡ Some e → step_hit holds es p ≡ holds e
step_hit-is holds es p e above read = rw (above_zero p above) (ap (λ o. option_map_or holds o false) read)

-- a hit is a place that an entry leads to
pub step_hit-inside : {E : Type 0} (holds : E → Bool) (es : List E) (p : ℕ) → step_hit holds es p ≡ true → (0 < p) × (p ≤ length es)
step_hit-inside holds es zero hit = absurd cc
step_hit-inside holds es (suc p) hit =
    elim (cases_lt p (length es)) [
      | inl inside ↦ (omega arith, omega (arith, inside))
      | inr past ↦ let none : slice_get es (suc p - 1) ≡ None = slice_get_past es (suc p - 1) (omega (arith, past)) in
          let fails : step_hit holds es (suc p) ≡ false = rw (above_zero (suc p) (omega arith), none) refl in
          let no : false ≡ true = sym fails ∙ hit in absurd cc
    ]

-- whether place p is a hit, by the machine's states there and at the place before
pub state_hit-is : {M C R P : Type 0} (m : Ghosts M C R P) (f : m.View → Bool) (holds : M → Bool) (o v w : Navigator M C R P) (p q n k : ℕ) (a b : Bool)
    → TestsView m f holds → p ≡ q + 1 → MovedTo m o v p n → MovedTo m o w q k → a ≡ holds v.machine.state → b ≡ holds w.machine.state
    → state_hit m f (start_of m o) o.entries p ≡ (a && not b)
state_hit-is m f holds o v w p q n k a b tests next here before now then =
    let state : ℕ → m.View = after m (start_of m o) o.entries in
    let above : 0 < p = omega arith in
    let back : p - 1 ≡ q = omega arith in
    let answer : a ≡ f (state p) = now ∙ (tests v.machine.state ∙ ap f here.shows) in
    let answer_before : b ≡ f (state (p - 1)) = then ∙ (tests w.machine.state ∙ (ap f before.shows ∙ ap (λ i. f (state i)) (sym back))) in
    rw (above_zero p above) (sym (ap (λ x. x && not b) answer ∙ ap (λ x. f (state p) && not x) answer_before))

module _ (test : ℕ → Bool) where
  last_below-next : (p : ℕ) → last_below test (p + 1) ≡ cond (test p) (Some p) (last_below test p)
  last_below-next p = rw (add-one p)

  -- if no number from n on passes below q, then p, the one before n, is found if it passes, and else the search continues
  pub found_below : (p q n : ℕ) (b r : Bool) → n ≡ p + 1 → test p ≡ b → r ≡ b → r ≡ true → last_below test n ≡ last_below test q → Some p ≡ last_below test q
  found_below p q n b r next is answer passes rest =
      sym (ap (λ t. cond t (Some p) (last_below test p)) (is ∙ (sym answer ∙ passes)))
      ∙ (sym (last_below-next p) ∙ (ap (last_below test) (sym next) ∙ rest))

  pub not_below : (p q n : ℕ) (b r : Bool) → n ≡ p + 1 → test p ≡ b → r ≡ b → r ≡ false → last_below test n ≡ last_below test q
      → last_below test p ≡ last_below test q
  not_below p q n b r next is answer fails rest =
      sym (ap (λ t. cond t (Some p) (last_below test p)) (is ∙ (sym answer ∙ fails)))
      ∙ (sym (last_below-next p) ∙ (ap (last_below test) (sym next) ∙ rest))

  first_of_next-next : (p n : ℕ) → first_of_next test p (n + 1) ≡ cond (test (p + 1)) (Some (p + 1)) (first_of_next test (p + 1) n)
  first_of_next-next p n = rw (add-one n)

  first_above-next : (p len : ℕ) → p < len → first_above test p len ≡ cond (test (p + 1)) (Some (p + 1)) (first_above test (p + 1) len)
  first_above-next p len left =
      let more : len - p ≡ (len - (p + 1)) + 1 = omega arith in
      ap (first_of_next test p) more ∙ first_of_next-next p (len - (p + 1))

  -- if no number above q up to p passes, then p + 1 is found if it passes, and else the search continues
  pub found_above : (p q len : ℕ) (b r : Bool) → p < len → test (p + 1) ≡ b → r ≡ b → r ≡ true → first_above test p len ≡ first_above test q len
      → Some (p + 1) ≡ first_above test q len
  found_above p q len b r left is answer passes rest =
      sym (ap (λ t. cond t (Some (p + 1)) (first_above test (p + 1) len)) (is ∙ (sym answer ∙ passes)))
      ∙ (sym (first_above-next p len left) ∙ rest)

  pub not_above : (p q len : ℕ) (b r : Bool) → p < len → test (p + 1) ≡ b → r ≡ b → r ≡ false → first_above test p len ≡ first_above test q len
      → first_above test (p + 1) len ≡ first_above test q len
  not_above p q len b r left is answer fails rest =
      sym (ap (λ t. cond t (Some (p + 1)) (first_above test (p + 1) len)) (is ∙ (sym answer ∙ fails)))
      ∙ (sym (first_above-next p len left) ∙ rest)
