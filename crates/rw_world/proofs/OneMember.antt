-- One member of a row, and the row.
use Rattle.std.proofs.Common.{◌≡◌, ℕ, zero, suc, ◌+◌, ◌<◌, ◌≤◌, List, [], ◌∷◌, length, map, get_or, set}
use Rattle.std.proofs.Common.{drop, Some, None, MatchOption, refl, ap, arith, add-one}
use Rattle.std.specs.Prelude.{slice_get, min}
use Rattle.rw_world.specs.Lists.{map_at, greatest, least}

-- what the members show, where y replaces member i, or where there is no member i
module _ {M V : Type 0} (shown : M → V) where
  -- where y shows f of what member i showed, the row shows that change at i
  pub view_at : (f : V → V) (xs : List M) (i : ℕ) (d y : M) → i < length xs → shown y ≡ f (shown (get_or xs i d))
      → map shown (set xs i y) ≡ map_at f (map shown xs) i
  view_at f [] i d y within change = refl
  view_at f (x ∷ xs) zero d y within change = ap (λ v. v ∷ map shown xs) change
  view_at f (x ∷ xs) (suc i) d y within change =
      let below : i < length xs = omega arith in
      ap (λ vs. shown x ∷ vs) (view_at f xs i d y below change)

  pub slice_get_at : (xs : List M) (i : ℕ) (d : M) → i < length xs → slice_get (map shown xs) i ≡ Some (shown (get_or xs i d))
  slice_get_at [] i d within = absurd (omega arith)
  slice_get_at (x ∷ xs) zero d within = refl
  slice_get_at (x ∷ xs) (suc i) d within = slice_get_at xs i d (omega arith)

  -- what holds of the view at i holds of what the member there shows
  pub fits_at : (P : V → Type 0) (xs : List M) (i : ℕ) (d : M) → i < length xs → MatchOption (slice_get (map shown xs) i) (Unit {0}) P
      → P (shown (get_or xs i d))
  fits_at P [] i d within fits = absurd (omega arith)
  fits_at P (x ∷ xs) zero d within fits = fits
  fits_at P (x ∷ xs) (suc i) d within fits = fits_at P xs i d (omega arith) fits

  -- a change that leaves what one member shows leaves what all show
  pub same_at : (xs : List M) (i : ℕ) (d y : M) → i < length xs → shown y ≡ shown (get_or xs i d) → map shown (set xs i y) ≡ map shown xs
  same_at [] i d y within same = refl
  same_at (x ∷ xs) zero d y within same = ap (λ v. v ∷ map shown xs) same
  same_at (x ∷ xs) (suc i) d y within same =
      let below : i < length xs = omega arith in
      ap (λ vs. shown x ∷ vs) (same_at xs i d y below same)

  pub modified_past : (f : V → V) (xs : List M) (i : ℕ) → length xs ≤ i → map shown xs ≡ map_at f (map shown xs) i
  modified_past f [] i past = refl
  modified_past f (x ∷ xs) zero past = absurd (omega arith)
  modified_past f (x ∷ xs) (suc i) past = ap (λ vs. shown x ∷ vs) (modified_past f xs i (omega arith))

  pub none_past : (xs : List M) (i : ℕ) → length xs ≤ i → slice_get (map shown xs) i ≡ None
  none_past [] i past = refl
  none_past (x ∷ xs) zero past = absurd (omega arith)
  none_past (x ∷ xs) (suc i) past = none_past xs i (omega arith)

  -- no member weighs more than the row
  pub weigh_at : (weigh : V → ℕ) (xs : List M) (i : ℕ) (d : M) → i < length xs → weigh (shown (get_or xs i d)) ≤ greatest weigh (map shown xs)
  weigh_at weigh [] i d within = absurd (omega arith)
  weigh_at weigh (x ∷ xs) zero d within = omega arith
  weigh_at weigh (x ∷ xs) (suc i) d within = let below : i < length xs = omega arith in omega (arith, weigh_at weigh xs i d below)

-- the least room of the members
module _ {M : Type 0} (room : M → ℕ) where
  -- no member has less room than the row
  pub least_at : (xs : List M) (i : ℕ) (d : M) → i < length xs → least room xs ≤ room (get_or xs i d)
  least_at [] i d within = absurd (omega arith)
  least_at (x ∷ xs) zero d within = omega arith
  least_at (x ∷ xs) (suc i) d within = let below : i < length xs = omega arith in omega (arith, least_at xs i d below)

  -- replacing a member by one with the same room doesn't change the room of the row
  pub least_set : (xs : List M) (i : ℕ) (d y : M) → i < length xs → room y ≡ room (get_or xs i d) → least room (set xs i y) ≡ least room xs
  least_set [] i d y within same = refl
  least_set (x ∷ xs) zero d y within same = ap (λ n. min n (least room xs)) same
  least_set (x ∷ xs) (suc i) d y within same = let below : i < length xs = omega arith in ap (min (room x)) (least_set xs i d y below same)

  -- replacing a member by one with no less room makes the room of the row no less
  pub least_grows : (xs : List M) (i : ℕ) (d y : M) → i < length xs → room (get_or xs i d) ≤ room y → least room xs ≤ least room (set xs i y)
  least_grows [] i d y within more = omega arith
  least_grows (x ∷ xs) zero d y within more = omega arith
  least_grows (x ∷ xs) (suc i) d y within more = let below : i < length xs = omega arith in omega (arith, least_grows xs i d y below more)

  -- the members from i on, once the member i has changed
  pub least_from : (xs : List M) (i n : ℕ) (y : M) → i < length xs → n ≤ room y → n ≤ least room (drop (i + 1) xs) → n ≤ least room (drop i (set xs i y))
  least_from [] i n y within here after = absurd (omega arith)
  least_from (x ∷ xs) zero n y within here after = omega arith
  least_from (x ∷ xs) (suc i) n y within here after =
      let below : i < length xs = omega arith in
      let rest : n ≤ least room (drop (i + 1) xs) = rw add-one (rw add-one at after) in
      least_from xs i n y below here rest
