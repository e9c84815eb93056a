-- What a write to the cells does to the values in order.
use Rattle.std.proofs.Common.{◌≡◌, ℕ, zero, suc, ◌+◌, ◌-◌, ◌*◌, ◌/◌, ◌%◌, ◌<◌, ◌≤◌, List, [], ◌∷◌, ◌++◌, length, take, drop, set}
use Rattle.std.proofs.Common.{get_or, refl, ap, sym, ◌∙◌, arith, inl, inr, min, length-set, length-drop, length-take}
use Rattle.std.specs.Prelude.{Some, slice_get}
use Rattle.std.proofs.Math.Nat.{mod-eq_of_lt, mod_self, add-mod_right, mul-add-mod_self_right}
use Rattle.std.proofs.lemmas.Nat.{mod_below, div-add-mod'}
use Rattle.std.proofs.lemmas.Bool.{le-ltb, lt-ltb, cases_lt}
use Rattle.std.proofs.lemmas.List.{append_assoc, append-nil, length_push, length-append, take_at, drop_at, set_at}
use Rattle.std.proofs.lemmas.List.{get_or_append_left, get_or-append_right, get_or-take, get_or-drop}
use Rattle.std.proofs.lemmas.Option.{slice_get-get_or}
use Rattle.rw_ring.specs.Cells.{rotation, in_order}
use Rattle.rw_law.proofs.Lists.{push_back}
use Rattle.rw_ring.specs.Windows.{window_after, window_before}

-- a list split at one element, into it and those before and after it
record Split {V : Type 0} (cells : List V) (i : ℕ) : Type 0 where
  before : List V
  at : V
  behind : List V
  is : cells ≡ before ++ at ∷ behind
  long : length before ≡ i

split : {V : Type 0} (cells : List V) (i : ℕ) → i < length cells → Split cells i
split [] i within = absurd (omega arith)
split (x ∷ xs) zero within = record { before = []; at = x; behind = xs; is = refl; long = refl }
split (x ∷ xs) (suc i) within = let s = split xs i (omega arith) in
    record { before = x ∷ s.before; at = s.at; behind = s.behind; is = ap (λ l. x ∷ l) s.is; long = ap suc s.long }

rotated_at : {V : Type 0} (n : ℕ) (a b : List V) → length a ≡ n → rotation n (a ++ b) ≡ b ++ a
rotated_at n a b long = rw (drop_at a b n long, take_at a b n long) refl

-- the last cell is followed by the first
rotated_whole : {V : Type 0} (cells : List V) → rotation (length cells) cells ≡ rotation 0 cells
rotated_whole cells = ap (rotation (length cells)) (sym (append-nil cells)) ∙ (rotated_at (length cells) cells [] refl ∙ sym (append-nil cells))

-- the remainder of a sum
mod_sum : (n i k : ℕ) → (n + i) % k ≡ (n % k + i) % k
mod_sum n i k =
    let split_n : n / k * k + n % k ≡ n = div-add-mod' n k in
    let moved : n + i ≡ n / k * k + (n % k + i) = omega (arith, split_n) in
    ap (λ m. m % k) moved ∙ mul-add-mod_self_right (n / k) k (n % k + i)

-- the cell i further on, where the end isn't reached
cell_on : (n i k : ℕ) → n % k + i < k → (n + i) % k ≡ n % k + i
cell_on n i k short = mod_sum n i k ∙ mod-eq_of_lt short

-- and where it is
cell_round : (n i k : ℕ) → k ≤ n % k + i → n % k + i - k < k → (n + i) % k ≡ n % k + i - k
cell_round n i k long short =
    let once : n % k + i ≡ n % k + i - k + k = omega arith in
    mod_sum n i k ∙ (ap (λ m. m % k) once ∙ (add-mod_right (n % k + i - k) k ∙ mod-eq_of_lt short))

rotated_next : {V : Type 0} (k n : ℕ) (cells : List V) → 0 < k → length cells ≡ k → rotation ((n + 1) % k) cells ≡ rotation (n % k + 1) cells
rotated_next k n cells some full = elim (cases_lt (n % k + 1) k) [
  | inl short ↦ ap (λ m. rotation m cells) (cell_on n 1 k short)
  | inr long ↦
      let last : n % k + 1 ≡ length cells = omega (arith, mod_below n k some) in
      let first : n % k + 1 - k ≡ 0 = omega (arith, mod_below n k some) in
      ap (λ m. rotation m cells) (cell_round n 1 k long (omega arith) ∙ first) ∙ (sym (rotated_whole cells) ∙ ap (λ m. rotation m cells) (sym last))
]

-- before the first eviction, the cells have the values in order
pub young : {V : Type 0} (k n : ℕ) (cells : List V) → n ≤ k → length cells ≡ n → in_order k n cells ≡ cells
young k n cells few long = elim (cases_lt n k) [
  | inl short ↦ ap (λ m. rotation m cells) (mod-eq_of_lt short ∙ sym long) ∙ (rotated_whole cells ∙ append-nil cells)
  | inr whole ↦
      let same : n ≡ k = omega arith in
      ap (λ m. rotation m cells) (ap (λ m. m % k) same ∙ mod_self k) ∙ append-nil cells
]

put_room : {V : Type 0} (k : ℕ) (w : List V) (v : V) → length w < k → window_after k w v ≡ w ++ v ∷ []
put_room k w v room = rw (lt-ltb (length w) k room) refl

put_evicting : {V : Type 0} (k : ℕ) (w : List V) (v : V) → k ≤ length w → window_after k w v ≡ drop 1 w ++ v ∷ []
put_evicting k w v full = rw (le-ltb (length w) k full) refl

-- one more value, where there is still an unused cell
pub push_puts : {V : Type 0} (k n : ℕ) (cells : List V) (v : V) → n < k → length cells ≡ n
    → in_order k (n + 1) (cells ++ v ∷ []) ≡ window_after k (in_order k n cells) v
push_puts k n cells v room long =
    young k (n + 1) (cells ++ v ∷ []) (omega arith) (omega (arith, length_push cells v))
    ∙ (sym (put_room k cells v (omega arith)) ∙ ap (λ w. window_after k w v) (sym (young k n cells (omega arith) long)))

-- the order of full cells, before and after a write to the cell of the next value
oldest_first : {V : Type 0} (k n : ℕ) (cells : List V) (s : Split cells (n % k)) → in_order k n cells ≡ s.at ∷ s.behind ++ s.before
oldest_first k n cells s = ap (rotation (n % k)) s.is ∙ rotated_at (n % k) s.before (s.at ∷ s.behind) s.long

written : {V : Type 0} (i : ℕ) (cells : List V) (s : Split cells i) (v : V) → set cells i v ≡ s.before ++ v ∷ s.behind
written i cells s v = ap (λ l. set l i v) s.is ∙ set_at s.before s.at s.behind v i s.long

newest_last : {V : Type 0} (k n : ℕ) (cells : List V) (s : Split cells (n % k)) → 0 < k → length cells ≡ k
    → in_order k (n + 1) cells ≡ s.behind ++ (s.before ++ s.at ∷ [])
newest_last k n cells s some full =
    let split_behind : cells ≡ (s.before ++ s.at ∷ []) ++ s.behind = s.is ∙ sym (append_assoc s.before (s.at ∷ []) s.behind) in
    let long : length (s.before ++ s.at ∷ []) ≡ n % k + 1 = omega (arith, length_push s.before s.at, s.long) in
    rotated_next k n cells some full ∙ (ap (rotation (n % k + 1)) split_behind ∙ rotated_at (n % k + 1) (s.before ++ s.at ∷ []) s.behind long)

-- one more value, where all cells are full: it overwrites the oldest one
pub write_puts : {V : Type 0} (k n : ℕ) (cells : List V) (v : V) → 0 < k → k ≤ n → length cells ≡ k
    → in_order k (n + 1) (set cells (n % k) v) ≡ window_after k (in_order k n cells) v
write_puts k n cells v some many full =
    let s = split cells (n % k) (omega (arith, mod_below n k some)) in
    let now : Split (set cells (n % k) v) (n % k) = record { before = s.before; at = v; behind = s.behind; is = written (n % k) cells s v; long = s.long } in
    let w = s.at ∷ s.behind ++ s.before in
    let long : k ≤ length w = omega (arith, length-append (s.at ∷ s.behind) s.before, length-append s.before (s.at ∷ s.behind), ap length s.is) in
    newest_last k n (set cells (n % k) v) now some (omega (arith, length-set cells (n % k) v))
    ∙ (sym (append_assoc s.behind s.before (v ∷ []))
    ∙ (sym (put_evicting k w v long) ∙ ap (λ l. window_after k l v) (sym (oldest_first k n cells s))))

-- and undone: the evicted value overwrites it
pub write_unputs : {V : Type 0} (k n : ℕ) (cells : List V) (v : V) → 0 < k → length cells ≡ k
    → in_order k n (set cells (n % k) v) ≡ window_before (Some v) (in_order k (n + 1) cells)
write_unputs k n cells v some full =
    let s = split cells (n % k) (omega (arith, mod_below n k some)) in
    let now : Split (set cells (n % k) v) (n % k) = record { before = s.before; at = v; behind = s.behind; is = written (n % k) cells s v; long = s.long } in
    let last = sym (append_assoc s.behind s.before (s.at ∷ [])) in
    oldest_first k n (set cells (n % k) v) now
    ∙ (ap (λ l. v ∷ l) (sym (push_back (s.behind ++ s.before) s.at))
    ∙ ap (window_before (Some v)) (sym (newest_last k n cells s some full ∙ last)))

-- the value at index i, in order, is in the cell i further on
rotated_get : {V : Type 0} (k n i : ℕ) (cells : List V) (d : V) → 0 < k → length cells ≡ k → i < k
    → get_or (in_order k n cells) i d ≡ get_or cells ((n + i) % k) d
rotated_get k n i cells d some full within =
    let first = n % k in
    let left : length (drop first cells) ≡ k - first = omega (arith, length-drop first cells) in
    elim (cases_lt (first + i) k) [
      | inl short ↦
          get_or_append_left (drop first cells) (take first cells) d i (omega arith)
          ∙ (get_or-drop first cells i d ∙ ap (λ m. get_or cells m d) (sym (cell_on n i k short)))
      | inr long ↦
          let below = mod_below n k some in
          let round : i - (k - first) ≡ first + i - k = omega (arith, below) in
          get_or-append_right (drop first cells) (take first cells) (k - first) i d left (omega arith)
          ∙ (get_or-take first cells (i - (k - first)) d (omega (arith, below))
          ∙ ap (λ m. get_or cells m d) (round ∙ sym (cell_round n i k long (omega (arith, below)))))
    ]

-- the cell of a retained position
pub cell_at : {V : Type 0} (k n position : ℕ) (cells : List V) (d : V) → 0 < k → length cells ≡ min n k → n - k ≤ position → position < n
    → slice_get (in_order k n cells) (position - (n - k)) ≡ Some (get_or cells (position % k) d)
cell_at k n position cells d some long kept before = elim (cases_lt k n) [
  | inl many ↦
      let i = position - (n - k) in
      let within : i < length (in_order k n cells) =
      omega (arith, length-append (drop (n % k) cells) (take (n % k) cells), length-drop (n % k) cells, length-take (n % k) cells, mod_below n k some) in
      let once : n + i ≡ position + k = omega arith in
      slice_get-get_or (in_order k n cells) i d within
      ∙ ap Some (rotated_get k n i cells d some (omega arith) (omega arith) ∙ ap (λ m. get_or cells m d) (ap (λ m. m % k) once ∙ add-mod_right position k))
  | inr few ↦
      let there : position - (n - k) ≡ position % k =
      (let none : n - k ≡ 0 = omega arith in let short : position < k = omega arith in omega (arith, mod-eq_of_lt short)) in
      ap (λ l. slice_get l (position - (n - k))) (young k n cells few (omega arith))
      ∙ (ap (slice_get cells) there ∙ slice_get-get_or cells (position % k) d (omega arith))
]
