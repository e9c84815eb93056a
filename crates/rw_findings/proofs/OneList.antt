-- Lists in order that have the same elements are the same list.
use Rattle.std.proofs.Common.{◌≡◌, ℕ, zero, suc, ◌<◌, ◌⊎◌, List, [], ◌∷◌, length, get_or, inl, inr, refl, ap, sym, ◌∙◌, subst, arith}
use Rattle.std.specs.List.{Contains}

contains_cases : {T : Type 0} (x z : T) (xs : List T) (k : ℕ) → k < length (x ∷ xs) → get_or (x ∷ xs) k z ≡ z → (x ≡ z) ⊎ Contains xs z
contains_cases x z xs zero below is = inl is
contains_cases x z xs (suc k) below is = inr (k, omega (arith, below), is)

contains_first : {T : Type 0} (x : T) (xs : List T) → Contains (x ∷ xs) x
contains_first x xs = (0, omega arith, refl)

contains_later : {T : Type 0} (x z : T) (xs : List T) → Contains xs z → Contains (x ∷ xs) z
contains_later x z xs there = (suc there.0, omega (arith, there.1), there.2)

-- where this is the order, and no two elements come before each other
module _ {T : Type 0} (Before : T → T → Type 0) (one_way : (a b : T) → Before a b → Before b a → ⊥) where
  abbrev pub IsOrdered : List T → Type 0
  IsOrdered xs = (i j : ℕ) (d : T) → i < j → j < length xs → Before (get_or xs i d) (get_or xs j d)

  -- each element of the one is in the other
  abbrev pub HasAll : (xs ys : List T) → Type 0
  HasAll xs ys = (z : T) → Contains xs z → Contains ys z

  first_precedes : (x z : T) (xs : List T) → IsOrdered (x ∷ xs) → Contains xs z → Before x z
  first_precedes x z xs ordered there = subst (λ t. Before x t) there.2 (ordered 0 (suc there.0) z (omega arith) (omega (arith, there.1)))

  rest_ordered : (x : T) (xs : List T) → IsOrdered (x ∷ xs) → IsOrdered xs
  rest_ordered x xs ordered i j d below within = ordered (suc i) (suc j) d (omega (arith, below)) (omega (arith, within))

  same_first : (x y : T) (xs ys : List T) → IsOrdered (x ∷ xs) → IsOrdered (y ∷ ys) → HasAll (x ∷ xs) (y ∷ ys) → HasAll (y ∷ ys) (x ∷ xs) → x ≡ y
  same_first x y xs ys ordered others to back =
      let of_x = to x (contains_first x xs) in
      let of_y = back y (contains_first y ys) in
      elim (contains_cases y x ys of_x.0 of_x.1 of_x.2) [
        | inl same ↦ sym same
        | inr later ↦ elim (contains_cases x y xs of_y.0 of_y.1 of_y.2) [
          | inl same ↦ same
          | inr there ↦ absurd (one_way x y (first_precedes x y xs ordered there) (first_precedes y x ys others later))
        ]
      ]

  rest_has : (x y : T) (xs ys : List T) → x ≡ y → IsOrdered (x ∷ xs) → HasAll (x ∷ xs) (y ∷ ys) → HasAll xs ys
  rest_has x y xs ys same ordered to z there =
      let found = to z (contains_later x z xs there) in
      elim (contains_cases y z ys found.0 found.1 found.2) [
        | inl first ↦ let itself : Before z z = subst (λ t. Before t z) (same ∙ first) (first_precedes x z xs ordered there) in
            absurd (one_way z z itself itself)
        | inr later ↦ later
      ]

  pub one_list : (xs ys : List T) → IsOrdered xs → IsOrdered ys → HasAll xs ys → HasAll ys xs → xs ≡ ys
  one_list [] [] ordered others to back = refl
  one_list [] (y ∷ ys) ordered others to back = let none = back y (contains_first y ys) in absurd (omega (arith, none.1))
  one_list (x ∷ xs) [] ordered others to back = let none = to x (contains_first x xs) in absurd (omega (arith, none.1))
  one_list (x ∷ xs) (y ∷ ys) ordered others to back =
      let same : x ≡ y = same_first x y xs ys ordered others to back in
      let rest : xs ≡ ys =
      one_list xs ys (rest_ordered x xs ordered) (rest_ordered y ys others) (rest_has x y xs ys same ordered to)
      (rest_has y x ys xs (sym same) others back) in
      ap (λ t. t ∷ xs) same ∙ ap (λ ts. y ∷ ts) rest
