-- The least position of the receivers is the same under other numbers.
use Rattle.std.proofs.Common.{◌≡◌, ℕ, ◌+◌, ◌<◌, ◌≤◌, min, Bool, false, cond, List, [], ◌∷◌, fold, refl, ap, sym, ◌∙◌, arith, inl, inr}
use Rattle.std.specs.Prelude.{Some, nat_le, count_by, ◌⊎◌}
use Rattle.std.proofs.lemmas.Bool.{cases_lt, le-leb, lt-leb}
use Rattle.std.proofs.lemmas.List.Sums.{sum_by-cons}
use Rattle.rw_handles.specs.declared.kinds.Kind.TheVariants.{Sender, Receiver, Weak}
use Rattle.rw_handles.specs.declared.kinds.Slot.{Slot}
use Rattle.rw_handles.specs.declared.kinds.Slot.TheVariants.{Live, Spent}
use Rattle.rw_handles.specs.Slots.{values}
use Rattle.rw_handles.specs.Renaming.{IsRenaming}
use Rattle.rw_broadcast.specs.Arithmetic.{least}

-- 1 for a position up to k, else 0
bit : ℕ → ℕ → ℕ
bit k p = cond (nat_le p k) 1 0

bit-yes : (k p : ℕ) → p ≤ k → bit k p ≡ 1
unfolding bit
bit-yes k p le = ap (λ b. cond b 1 0) (le-leb p k le)

bit-no : (k p : ℕ) → k < p → bit k p ≡ 0
unfolding bit
bit-no k p more = ap (λ b. cond b 1 0) (lt-leb p k more)

bit-falls : (k p q : ℕ) → p ≤ q → bit k q ≤ bit k p
bit-falls k p q le = by_order (cases_lt k q) where
  by_order : (k < q) ⊎ (q ≤ k) → bit k q ≤ bit k p
  by_order (inl more) = omega (arith, bit-no k q more)
  by_order (inr less) = omega (arith, bit-yes k q less, bit-yes k p (omega (arith, less, le)))

bit-either : (k p q : ℕ) → bit k (min p q) ≤ bit k p + bit k q
bit-either k p q = by_order (cases_lt p q) where
  by_order : (p < q) ⊎ (q ≤ p) → bit k (min p q) ≤ bit k p + bit k q
  by_order (inl less) = let is : min p q ≡ p = omega (arith, less) in omega (arith, ap (bit k) is)
  by_order (inr more) = let is : min p q ≡ q = omega (arith, more) in omega (arith, ap (bit k) is)

-- how many positions are up to k
abbrev count : ℕ → List ℕ → ℕ
count k ps = count_by (λ p. nat_le p k) ps

count-cons : (k p : ℕ) (ps : List ℕ) → count k (p ∷ ps) ≡ bit k p + count k ps
unfolding bit
count-cons k p ps = sum_by-cons (λ q. cond (nat_le q k) 1 0) p ps

some_up_to : (k p : ℕ) (ps : List ℕ) → fold min p ps ≤ k → 0 < count k (p ∷ ps)
some_up_to k p [] le = omega (arith, count-cons k p [], bit-yes k p le)
some_up_to k p (q ∷ ps) le =
    omega (arith, some_up_to k (min p q) ps le, count-cons k (min p q) ps, count-cons k p (q ∷ ps), count-cons k q ps, bit-either k p q)

least_up_to : (k p : ℕ) (ps : List ℕ) → 0 < count k (p ∷ ps) → fold min p ps ≤ k
least_up_to k p [] some = by_order (cases_lt k p) where
  by_order : (k < p) ⊎ (p ≤ k) → p ≤ k
  by_order (inl more) = absurd (omega (arith, some, count-cons k p [], bit-no k p more))
  by_order (inr less) = less
least_up_to k p (q ∷ ps) some =
    let first = bit-falls k (min p q) p (omega arith) in
    let second = bit-falls k (min p q) q (omega arith) in
    least_up_to k (min p q) ps (omega (arith, some, count-cons k (min p q) ps, count-cons k p (q ∷ ps), count-cons k q ps, first, second))

least_by_counts : (ps qs : List ℕ) → ((k : ℕ) → count k ps ≡ count k qs) → least ps ≡ least qs
least_by_counts [] [] same = refl
least_by_counts [] (q ∷ qs) same = let k = fold min q qs in absurd (omega (arith, same k, some_up_to k q qs (omega arith)))
least_by_counts (p ∷ ps) [] same = let k = fold min p ps in absurd (omega (arith, same k, some_up_to k p ps (omega arith)))
least_by_counts (p ∷ ps) (q ∷ qs) same =
    let m = fold min p ps in
    let n = fold min q qs in
    let below = least_up_to m q qs (omega (arith, same m, some_up_to m p ps (omega arith))) in
    let above = least_up_to n p ps (omega (arith, same n, some_up_to n q qs (omega arith))) in
    let one : m ≡ n = omega (arith, below, above) in
    ap Some one

-- whether a slot has a receiver at a position up to k
abbrev is_up_to : ℕ → Slot ℕ → Bool
is_up_to k (Live Receiver p) = nat_le p k
is_up_to k (Live Sender p) = false
is_up_to k (Live Weak p) = false
is_up_to k Spent = false

first_receiver : (k p : ℕ) (slots : List (Slot ℕ)) → count_by (is_up_to k) (Live Receiver p ∷ slots) ≡ bit k p + count_by (is_up_to k) slots
unfolding bit
first_receiver k p slots = sum_by-cons (λ s. cond (is_up_to k s) 1 0) (Live Receiver p) slots

count_of_slots : (k : ℕ) (slots : List (Slot ℕ)) → count_by (is_up_to k) slots ≡ count k (values Receiver slots)
count_of_slots k [] = refl
count_of_slots k (Live Receiver p ∷ slots) = omega (arith, first_receiver k p slots, count-cons k p (values Receiver slots), count_of_slots k slots)
count_of_slots k (Live Sender p ∷ slots) = omega (arith, sum_by-cons (λ s. cond (is_up_to k s) 1 0) (Live Sender p) slots, count_of_slots k slots)
count_of_slots k (Live Weak p ∷ slots) = omega (arith, sum_by-cons (λ s. cond (is_up_to k s) 1 0) (Live Weak p) slots, count_of_slots k slots)
count_of_slots k (Spent ∷ slots) = omega (arith, sum_by-cons (λ s. cond (is_up_to k s) 1 0) Spent slots, count_of_slots k slots)

pub least_renamed : (to : ℕ → ℕ) (xs ys : List (Slot ℕ)) → IsRenaming to xs ys → least (values Receiver ys) ≡ least (values Receiver xs)
least_renamed to xs ys is =
    least_by_counts (values Receiver ys) (values Receiver xs) (λ k. sym (count_of_slots k ys) ∙ is.counted (is_up_to k) refl ∙ count_of_slots k xs)
