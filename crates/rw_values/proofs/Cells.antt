-- The values in order, of the cells of a ring: how one is read, written and overwritten.
use Rattle.std.proofs.Common.{◌≡◌, ℕ, ◌+◌, ◌-◌, ◌%◌, ◌<◌, ◌≤◌, cond, List, [], ◌∷◌, ◌++◌, length, take, drop, set}
use Rattle.std.proofs.Common.{get_or, ap, sym, ◌∙◌, arith, inl, inr, length-drop, length-take}
use Rattle.std.proofs.Math.Nat.{mod-eq_of_lt, mod_self, add-mod_right}
use Rattle.std.proofs.lemmas.Bool.{lt-ltb, le-ltb, cases_lt}
use Rattle.std.proofs.lemmas.List.{append-nil, length-append, get_or_append_left, get_or-append_right, get_or-take, get_or-drop}
use Rattle.std.proofs.lemmas.List.{drop-set-add, drop-set-lt, take-set-le, set-append_left, set-append_right}
use Rattle.std.proofs.Math.Seq.{take-set-lt}
use Rattle.rw_ring.specs.Cells.{rotation}
use Rattle.rw_ring.specs.Windows.{window_after}
use Rattle.rw_ring.proofs.Cells.{write_puts}
use Rattle.rw_values.specs.Cells.{cell_of}

pub cell_short : (first count age : ℕ) → first + age < count → cell_of first count age ≡ first + age
cell_short first count age short = ap (λ b. cond b (first + age) (first + age - count)) (lt-ltb (first + age) count short)

pub cell_round : (first count age : ℕ) → count ≤ first + age → cell_of first count age ≡ first + age - count
cell_round first count age long = ap (λ b. cond b (first + age) (first + age - count)) (le-ltb (first + age) count long)

pub length_rotation : {V : Type 0} (first : ℕ) (cells : List V) → length (rotation first cells) ≡ length cells
length_rotation first cells =
    omega (arith, length-append (drop first cells) (take first cells), length-drop first cells, length-take first cells)

-- the value that comes after this many older ones is in the cell that comes this many after the first
pub rotated_get : {V : Type 0} (first age : ℕ) (cells : List V) (d : V) → first < length cells → age < length cells
    → get_or (rotation first cells) age d ≡ get_or cells (cell_of first (length cells) age) d
rotated_get first age cells d within young =
    let left : length (drop first cells) ≡ length cells - first = length-drop first cells in
    elim (cases_lt (first + age) (length cells)) [
      | inl short ↦
          get_or_append_left (drop first cells) (take first cells) d age (omega arith)
          ∙ (get_or-drop first cells age d ∙ ap (λ m. get_or cells m d) (sym (cell_short first (length cells) age short)))
      | inr long ↦
          let there : age - (length cells - first) ≡ first + age - length cells = omega arith in
          get_or-append_right (drop first cells) (take first cells) (length cells - first) age d left (omega arith)
          ∙ (get_or-take first cells (age - (length cells - first)) d (omega arith)
          ∙ ap (λ m. get_or cells m d) (there ∙ sym (cell_round first (length cells) age long)))
    ]

-- and written there
pub rotated_set : {V : Type 0} (first age : ℕ) (cells : List V) (x : V) → first < length cells → age < length cells
    → rotation first (set cells (cell_of first (length cells) age) x) ≡ set (rotation first cells) age x
rotated_set first age cells x within young =
    let left : length (drop first cells) ≡ length cells - first = length-drop first cells in
    elim (cases_lt (first + age) (length cells)) [
      | inl short ↦
          ap (λ m. rotation first (set cells m x)) (cell_short first (length cells) age short)
          ∙ (ap (λ l. l ++ take first (set cells (first + age) x)) (drop-set-add first cells age x)
          ∙ (ap (λ l. set (drop first cells) age x ++ l) (take-set-le first cells (first + age) x (omega arith))
          ∙ sym (set-append_left (drop first cells) (take first cells) age x (omega arith))))
      | inr long ↦
          let cell = first + age - length cells in
          let there : age - (length cells - first) ≡ cell = omega arith in
          ap (λ m. rotation first (set cells m x)) (cell_round first (length cells) age long)
          ∙ (ap (λ l. l ++ take first (set cells cell x)) (drop-set-lt first cells cell x (omega arith))
          ∙ (ap (λ l. drop first cells ++ l) (take-set-lt first cells cell x (omega arith))
          ∙ (ap (λ m. drop first cells ++ set (take first cells) m x) (sym there)
          ∙ sym (set-append_right (drop first cells) (take first cells) (length cells - first) age x left (omega arith)))))
    ]

-- one more value, where not all cells are used
pub pushed : {V : Type 0} (capacity : ℕ) (cells : List V) (x : V) → length cells < capacity
    → rotation 0 (cells ++ x ∷ []) ≡ window_after capacity (rotation 0 cells) x
pushed capacity cells x room =
    append-nil (cells ++ x ∷ [])
    ∙ (sym (ap (λ b. cond b (cells ++ x ∷ []) (drop 1 cells ++ x ∷ [])) (lt-ltb (length cells) capacity room))
    ∙ ap (λ l. window_after capacity l x) (sym (append-nil cells)))

-- one more value, where all are: it overwrites the oldest, and the next one is the oldest
pub overwrote : {V : Type 0} (capacity first : ℕ) (cells : List V) (x : V) → first < capacity → length cells ≡ capacity
    → rotation (cell_of first capacity 1) (set cells first x) ≡ window_after capacity (rotation first cells) x
overwrote capacity first cells x within full =
    let now : (first + capacity) % capacity ≡ first = add-mod_right first capacity ∙ mod-eq_of_lt within in
    let next : (first + capacity + 1) % capacity ≡ cell_of first capacity 1 = elim (cases_lt (first + 1) capacity) [
      | inl short ↦
          (let on : first + capacity + 1 ≡ first + 1 + capacity = omega arith in
          ap (λ n. n % capacity) on ∙ (add-mod_right (first + 1) capacity ∙ (mod-eq_of_lt short ∙ sym (cell_short first capacity 1 short))))
      | inr long ↦
          (let on : first + capacity + 1 ≡ capacity + capacity = omega arith in
          let none : first + 1 - capacity ≡ 0 = omega arith in
          ap (λ n. n % capacity) on ∙ (add-mod_right capacity capacity ∙ (mod_self capacity ∙ (sym none ∙ sym (cell_round first capacity 1 long)))))
    ] in
    ap (λ n. rotation n (set cells first x)) (sym next)
    ∙ (ap (λ n. rotation ((first + capacity + 1) % capacity) (set cells n x)) (sym now)
    ∙ (write_puts capacity (first + capacity) cells x (omega arith) (omega arith) full
    ∙ ap (λ n. window_after capacity (rotation n cells) x) now))
