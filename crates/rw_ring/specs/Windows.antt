-- The last values of all that were put, as many as the capacity: their window after one more value, and before it.
use Rattle.std.proofs.Common.{◌≡◌, ℕ, ◌+◌, ◌-◌, ◌<◌, ◌≤◌, min, Bool, true, false, cond, List, []}
use Rattle.std.proofs.Common.{◌∷◌, ◌++◌, length, take, drop, refl, ap, sym, ◌∙◌, arith, length-drop}
use Rattle.std.specs.Prelude.{Option, Some, None, if◌then◌else◌, slice_get, nat_lt, is_some}
use Rattle.std.proofs.lemmas.Bool.{cond_both, ltb-true, ltb-false, le-ltb, lt-ltb}
use Rattle.std.proofs.lemmas.List.{length_push, drop-drop, drop-append-le}
use Rattle.rw_law.proofs.Lists.{push_back}

-- what a ring shows
pub record Ring (V : Type 0) : Type 0 where
  -- how many values are retained at most
  pub capacity : ℕ
  -- how many were ever put
  pub count : ℕ
  -- the last of them, as many as are retained, oldest first
  pub values : List V

-- before the first value
abbrev pub empty_window : {V : Type 0} → ℕ → Ring V
empty_window capacity = record { capacity = capacity; count = 0; values = [] }

-- the position of the oldest retained value
abbrev pub oldest : {V : Type 0} → Ring V → ℕ
oldest w = w.count - w.capacity

-- the last values of all that were put, as many as the capacity
abbrev pub last_values : {V : Type 0} → ℕ → List V → List V
last_values capacity all = drop (length all - capacity) all

-- the window after one more value
abbrev pub window_after : {V : Type 0} → ℕ → List V → V → List V
window_after capacity window v = if nat_lt (length window) capacity then window ++ v ∷ [] else drop 1 window ++ v ∷ []

-- the value that is evicted for it
abbrev pub eviction : {V : Type 0} → ℕ → List V → Option V
eviction capacity window = if nat_lt (length window) capacity then None else slice_get window 0

-- the window before a put, given the value that it evicted
abbrev pub window_before : {V : Type 0} → Option V → List V → List V
window_before None window = take (length window - 1) window
window_before (Some v) window = v ∷ take (length window - 1) window

-- in both cases: with room, and without
window_before-after_by : {V : Type 0} (b : Bool) (w : List V) (v : V)
    → (b ≡ false → 0 < length w)
    → window_before (cond b None (slice_get w 0)) (cond b (w ++ v ∷ []) (drop 1 w ++ v ∷ [])) ≡ w
window_before-after_by true w v some = push_back w v
window_before-after_by false [] v some = absurd (omega (arith, some refl))
window_before-after_by false (x ∷ xs) v some = ap (λ ys. x ∷ ys) (push_back xs v)

-- undoing a put gives the window before it
pub window_before-after : {V : Type 0} (capacity : ℕ) (w : List V) (v : V) → 0 < capacity → window_before (eviction capacity w) (window_after capacity w v) ≡ w
window_before-after capacity w v some = window_before-after_by (nat_lt (length w) capacity) w v (λ full. omega (arith, ltb-false (length w) capacity full))

-- a window grows up to its capacity
pub length-window_after : {V : Type 0} (capacity : ℕ) (w : List V) (v : V) (n : ℕ)
    → 0 < capacity
    → length w ≡ min n capacity
    → length (window_after capacity w v) ≡ min (n + 1) capacity
length-window_after capacity w v n some is =
    let P = λ (l : List _). length l ≡ min (n + 1) capacity in
    cond_both (nat_lt (length w) capacity) _ _ P
    (λ room. omega (arith, ltb-true (length w) capacity room, length_push w v))
    (λ full. omega (arith, ltb-false (length w) capacity full, length_push (drop 1 w) v, length-drop 1 w))

-- the last values of a list with one more value
pub window_after-drop : {V : Type 0} (capacity : ℕ) (s : List V) (v : V)
    → 0 < capacity
    → window_after capacity (drop (length s - capacity) s) v ≡ drop (length (s ++ v ∷ []) - capacity) (s ++ v ∷ [])
window_after-drop capacity s v some =
    let P = λ (l : List _). l ≡ drop (length (s ++ v ∷ []) - capacity) (s ++ v ∷ []) in
    let w = drop (length s - capacity) s in
    cond_both (nat_lt (length w) capacity) _ _ P
    (λ room. let short : length s < capacity = omega (arith, ltb-true (length w) capacity room, length-drop (length s - capacity) s) in
    let none_before : length s - capacity ≡ 0 = omega arith in
    let none_after : length (s ++ v ∷ []) - capacity ≡ 0 = omega (arith, length_push s v) in
    rw (none_before, none_after) refl)
    (λ full. let long : capacity ≤ length s = omega (arith, ltb-false (length w) capacity full, length-drop (length s - capacity) s) in
    let one_more : length (s ++ v ∷ []) - capacity ≡ length s - capacity + 1 = omega (arith, length_push s v) in
    let within : length s - capacity + 1 ≤ length s = omega arith in
    rw (one_more, drop-append-le, drop-drop) refl)

-- a value is evicted where more are put than the capacity
pub is_some-eviction : {V : Type 0} (capacity : ℕ) (w : List V) (n : ℕ)
    → 0 < capacity
    → length w ≡ min n capacity
    → is_some (eviction capacity w) ≡ nat_lt capacity (n + 1)
is_some-eviction capacity w n some is =
    let P = λ (o : Option _). is_some o ≡ nat_lt capacity (n + 1) in
    cond_both (nat_lt (length w) capacity) _ _ P
    (λ room. sym (le-ltb capacity (n + 1) (omega (arith, ltb-true (length w) capacity room))))
    (λ full. some_first w (omega (arith, ltb-false (length w) capacity full))
    ∙ sym (lt-ltb capacity (n + 1) (omega (arith, ltb-false (length w) capacity full))))
  where
    some_first : {V : Type 0} (w : List V) → 0 < length w → is_some (slice_get w 0) ≡ true
    some_first [] h = absurd (omega (arith, h))
    some_first (x ∷ xs) h = refl
