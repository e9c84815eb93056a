-- Lists after a push, and lists without their first elements.
use Rattle.std.proofs.Common.{◌≡◌, ℕ, zero, suc, ◌+◌, ◌-◌, List, [], ◌∷◌, ◌++◌, length, take, drop, refl, zero-add, suc-add, arith}
use Rattle.std.specs.Prelude.{slice_get}
use Rattle.std.proofs.lemmas.List.{take_at, length_push}

-- without its last element, the list is as it was before the push
pub push_back : {A : Type 0} (xs : List A) (a : A) → take (length (xs ++ a ∷ []) - 1) (xs ++ a ∷ []) ≡ xs
push_back xs a = take_at xs (a ∷ []) (length (xs ++ a ∷ []) - 1) (omega (arith, length_push xs a))

-- an element by its index, in a list without its first n elements
pub slice_get-drop : {A : Type 0} (n : ℕ) (xs : List A) (i : ℕ) → slice_get (drop n xs) i ≡ slice_get xs (n + i)
slice_get-drop zero xs i = rw zero-add refl
slice_get-drop (suc n) [] i = refl
slice_get-drop (suc n) (x ∷ xs) i = rw suc-add (slice_get-drop n xs i)
