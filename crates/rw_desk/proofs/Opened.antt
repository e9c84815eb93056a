-- Passes and handles that are opened one after another.
use Rattle.std.proofs.Common.{◌≡◌, ℕ, zero, suc, ◌+◌, ◌<◌, List, [], ◌∷◌, ◌++◌, length, Option, None, Some, IfNone, refl, sym, ◌∙◌, subst, inl, inr, arith}
use Rattle.std.specs.Prelude.{slice_get}
use Rattle.std.proofs.lemmas.Bool.{cases_lt}
use Rattle.std.proofs.lemmas.List.{length_push}

-- what holds anyway holds if there is none
pub where_none : {X : Type 0} (o : Option X) (P : Type 0) → P → IfNone o P
where_none None P p = p
where_none (Some x) P p = tt

slice_get-front : {X : Type 0} (xs : List X) (y : X) (i : ℕ) → i < length xs → slice_get (xs ++ y ∷ []) i ≡ slice_get xs i
slice_get-front [] y i within = absurd (omega arith)
slice_get-front (x ∷ xs) y zero within = refl
slice_get-front (x ∷ xs) y (suc i) within = slice_get-front xs y i (omega arith)

slice_get-last : {X : Type 0} (xs : List X) (y : X) (i : ℕ) → i ≡ length xs → slice_get (xs ++ y ∷ []) i ≡ Some y
slice_get-last [] y zero at = refl
slice_get-last [] y (suc i) at = absurd (omega arith)
slice_get-last (x ∷ xs) y zero at = absurd (omega arith)
slice_get-last (x ∷ xs) y (suc i) at = slice_get-last xs y i (omega arith)

-- a list of f 0, f 1, .. with one more element
pub one_more : {X : Type 0} (f : ℕ → Option X) (xs more : List X) (x : X) (n : ℕ) → length xs ≡ n → ((a : ℕ) → a < n → slice_get xs a ≡ f a) → Some x ≡ f n
    → more ≡ xs ++ x ∷ []
    → (length more ≡ n + 1) × ((a : ℕ) → a < n + 1 → slice_get more a ≡ f a)
one_more f xs more x n len each new is = rw is (
  omega (arith, length_push xs x, len),
  λ a below. elim (cases_lt a n) [
    | inl lt ↦ slice_get-front xs x a (omega (arith, len)) ∙ each a lt
    | inr le ↦ let last : a ≡ n = omega arith in subst (λ b. slice_get (xs ++ x ∷ []) b ≡ f b) (sym last) (slice_get-last xs x n (sym len) ∙ new)
  ],
)
