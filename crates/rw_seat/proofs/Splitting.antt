-- Seats that are split off one after another.
use Rattle.std.proofs.Common.{◌≡◌, ℕ, zero, suc, ◌+◌, ◌<◌, List, [], ◌∷◌, ◌++◌, map, refl, sym, ap, ◌∙◌, arith}
use Rattle.std.specs.Prelude.{All, ◌-◌}
use Rattle.std.proofs.lemmas.List.{map-append}
use Rattle.std.proofs.lemmas.List.Elements.{All-map, All-push, All-same}
use Rattle.rw_seat.specs.Rule.{numbers_from}

-- one more number
from_snoc : (n k m : ℕ) → m ≡ n + k → numbers_from n (suc k) ≡ numbers_from n k ++ m ∷ []
from_snoc n zero m e = let same : n ≡ m = omega arith in ap (λ (x : ℕ). x ∷ []) same
from_snoc n (suc k) m e = ap (λ (l : List ℕ). n ∷ l) (from_snoc (n + 1) k m (omega arith))

-- the next seat that is split off
pub split_next : (n k all : ℕ) → n + k + 1 ≡ all → n < all - 1
    → (j : ℕ) × ((n + 1) + j + 1 ≡ all) × (numbers_from (n + 1) k ≡ (n + 1) ∷ numbers_from ((n + 1) + 1) j)
split_next n zero all e l = absurd (omega arith)
split_next n (suc k) all e l = (k, omega arith, refl)

-- seats made from the numbers 0 to n - 1, and the next
pub split_more : {X : Type 0} (f : ℕ → X) (xs ys : List X) (x : X) (n : ℕ) → ys ≡ xs ++ x ∷ [] → xs ≡ map f (numbers_from 0 n) → x ≡ f n
    → ys ≡ map f (numbers_from 0 (n + 1))
split_more f xs ys x n is all new =
    is ∙ ((λ i. all i ++ new i ∷ []) ∙ (sym (map-append f (numbers_from 0 n) (n ∷ []))
    ∙ (ap (map f) (sym (from_snoc 0 n n (omega arith))) ∙ ap (λ (k : ℕ). map f (numbers_from 0 k)) {x = suc n} {y = n + 1} (omega arith))))

pub each_popped : {X : Type 0} (P : X → Type 0) (xs ys : List X) (x : X) → ys ≡ xs ++ x ∷ [] → All P xs → P x → All P ys
each_popped P xs ys x is all here = All-same P ys (xs ++ x ∷ []) is (All-push P xs x all here)

-- a fact of each seat that is made from a number
pub each_split : {X : Type 0} (P : X → Type 0) (f : ℕ → X) (xs : List X) (ns : List ℕ) → xs ≡ map f ns → ((n : ℕ) → P (f n)) → All P xs
each_split P f xs ns is each = All-same P xs (map f ns) is (All-map P f ns (λ k d low. each _))
