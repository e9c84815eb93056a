-- Lists that are read by their indices, one element after the other, and the list of the first numbers.
use Rattle.std.proofs.Common.{◌≡◌, ◌++◌, ◌∷◌, [], ◌+◌, ℕ, zero, suc, List, Some, None, refl, ap, map, take, add-one, ◌∙◌, arith}
use Rattle.std.proofs.lemmas.List.{map-append}
use Rattle.std.specs.Prelude.{slice_get}
use Rattle.std.specs.List.{range_with_len}

from_suc : {A B : Type 0} (f : A → B) (xs : List A) (i : ℕ) (x : A) → slice_get xs i ≡ Some x → map f (take (suc i) xs) ≡ map f (take i xs) ++ f x ∷ []
from_suc f [] i x here = absurd cc
from_suc f (y ∷ xs) zero x here = let same : y ≡ x = cc in ap (λ z. f z ∷ []) same
from_suc f (y ∷ xs) (suc i) x here = ap (λ ys. f y ∷ ys) (from_suc f xs i x here)

pub mapped_more : {A B : Type 0} (f : A → B) (xs : List A) (i : ℕ) (x : A) → slice_get xs i ≡ Some x → map f (take (i + 1) xs) ≡ map f (take i xs) ++ f x ∷ []
mapped_more f xs i x here = rw add-one (from_suc f xs i x here)

pub taken_all : {A : Type 0} (xs : List A) (i : ℕ) → slice_get xs i ≡ None → take i xs ≡ xs
taken_all [] zero none = refl
taken_all [] (suc i) none = refl
taken_all (x ∷ xs) zero none = absurd cc
taken_all (x ∷ xs) (suc i) none = ap (λ ys. x ∷ ys) (taken_all xs i none)

-- a list to which an element was pushed
pub pushed : {A B : Type 0} (f : A → B) (old new : List A) (x : A) (ys : List B) (y : B) → new ≡ old ++ x ∷ [] → map f old ≡ ys → f x ≡ y
    → map f new ≡ ys ++ y ∷ []
pushed f old new x ys y grown so is = ap (map f) grown ∙ map-append f old (x ∷ []) ∙ rw (so, is) refl

pub map_map : {A B C : Type 0} (f : A → B) (g : B → C) (xs : List A) → map g (map f xs) ≡ map (λ x. g (f x)) xs
map_map f g [] = refl
map_map f g (x ∷ xs) = ap (λ ys. g (f x) ∷ ys) (map_map f g xs)

range_more : (a n : ℕ) → range_with_len a (suc n) ≡ range_with_len a n ++ (a + n) ∷ []
range_more a zero = let e : a ≡ a + 0 = omega arith in ap (λ (x : ℕ). x ∷ []) e
range_more a (suc n) =
    let e : a + 1 + n ≡ a + suc n = omega arith in
    ap (λ (xs : List ℕ). a ∷ xs) (range_more (a + 1) n ∙ ap (λ (x : ℕ). range_with_len (a + 1) n ++ x ∷ []) e)

-- the first n + 1 numbers
pub first_more : (n : ℕ) → range_with_len 0 (n + 1) ≡ range_with_len 0 n ++ n ∷ []
first_more n =
    let e : 0 + n ≡ n = omega arith in
    ap (range_with_len 0) (add-one n) ∙ range_more 0 n ∙ ap (λ (x : ℕ). range_with_len 0 n ++ x ∷ []) e
