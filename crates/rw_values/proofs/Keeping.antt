-- What a store does with the value under a number, in its cells.
use Rattle.std.proofs.Common.{◌≡◌, ◌≢◌, Bool, true, false, cond, ℕ, zero, suc, ◌+◌, ◌-◌, ◌<◌, List}
use Rattle.std.proofs.Common.{[], ◌∷◌, length, set, get_or, refl, ap, sym, ◌∙◌, arith, subst, inl, inr}
use Rattle.std.specs.Prelude.{◌==◌, Some, None, slice_get, nat_lt, is_some}
use Rattle.std.proofs.lemmas.Bool.{lt-ltb, le-ltb, eqb-true, eqb-false, cases_lt}
use Rattle.std.proofs.lemmas.List.Elements.{All-get_or}
use Rattle.std.proofs.lemmas.Option.{slice_get-get_or}
use Rattle.rw_ring.specs.Cells.{rotation}
use Rattle.rw_values.specs.declared.values.Kept.{Kept}
use Rattle.rw_values.specs.Cells.{cell_of}
use Rattle.rw_values.specs.Stored.{Store, Awaits, IsKept, IsAwaited, age, kept_at, sent_to, one_less, one_less_at, receivers_of}
use Rattle.rw_values.specs.Inside.{IsRing, store_of_cells}
use Rattle.rw_values.proofs.Cells.{cell_short, cell_round, length_rotation, rotated_get, rotated_set}

-- one less at an index is a write there
pub one_less_is_set : {V : Type 0} (ks : List (Kept V)) (i : ℕ) (d : Kept V) → i < length ks → one_less_at ks i ≡ set ks i (one_less (get_or ks i d))
one_less_is_set [] i d within = absurd (omega arith)
one_less_is_set (k ∷ ks) zero d within = refl
one_less_is_set (k ∷ ks) (suc i) d within = ap (λ l. k ∷ l) (one_less_is_set ks i d (omega arith))

-- what is kept stays so with one receiver less
pub less_kept : {V : Type 0} (k : Kept V) → IsKept k → IsAwaited k → IsKept (one_less k)
less_kept {V} k is some = by_test (k.receivers == 1) (eqb-true k.receivers 1) (eqb-false k.receivers 1) where
  by_test : (b : Bool) → (b ≡ true → k.receivers ≡ 1) → (b ≡ false → k.receivers ≢ 1)
      → is_some (cond b None k.value) ≡ nat_lt 0 (k.receivers - 1)
  by_test true one other = sym (le-ltb 0 (k.receivers - 1) (omega (arith, one refl)))
  by_test false one other = is ∙ (lt-ltb 0 k.receivers some ∙ sym (lt-ltb 0 (k.receivers - 1) (omega (arith, some, other refl))))

-- what is kept of a value that was just sent
pub sent_kept : {V : Type 0} (receivers : ℕ) (value : V) → 0 < receivers → IsKept (sent_to receivers value)
sent_kept receivers value some = sym (lt-ltb 0 receivers some)

-- what a call reads: the cell of a value that somebody has yet to receive, and what is in it
module _ {V : Type 0} (capacity first next room : ℕ) (cells : List (Kept V)) (number count cell : ℕ) (k : Kept V)
    (ring : IsRing capacity first next cells) (awaits : Awaits (store_of_cells capacity first next cells room) number)
    (counted : count ≡ length cells) (there : cell ≡ cell_of first count (count - (next - number))) (read : k ≡ get_or cells cell k) where
  abbrev s : Store V
  s = store_of_cells capacity first next cells room

  abbrev place : ℕ
  place = length cells - (next - number)

  as_long : length (rotation first cells) ≡ length cells
  as_long = length_rotation first cells

  some_cells : 0 < length cells
  some_cells = omega (arith, as_long, awaits.kept, awaits.sent)

  ages : place ≡ age s number
  ages = omega (arith, as_long, awaits.kept, awaits.sent, ring.numbered)

  young : place < length cells
  young = omega (arith, some_cells, as_long, awaits.kept, awaits.sent)

  within : first < length cells
  within = elim (cases_lt (length cells) capacity) [
    | inl few ↦ (let none = ring.young few in omega (arith, none, some_cells))
    | inr full ↦ omega (arith, full, ring.within)
  ]

  is_cell : cell ≡ cell_of first (length cells) place
  is_cell = there ∙ ap (λ n. cell_of first n (n - (next - number))) counted

  in_order : get_or (rotation first cells) place k ≡ k
  in_order = rotated_get first place cells k within young ∙ (ap (λ m. get_or cells m k) (sym is_cell) ∙ sym read)

  -- it is what the store keeps under the number
  pub kept_is : kept_at s number ≡ Some k
  kept_is =
      ap (slice_get (rotation first cells)) (sym ages)
      ∙ (slice_get-get_or (rotation first cells) place k (omega (arith, as_long, young)) ∙ ap Some in_order)

  pub awaited : IsAwaited k
  awaited = subst (λ o. 0 < receivers_of o) kept_is awaits.some

  pub is_kept : IsKept k
  is_kept = subst IsKept (sym read) (All-get_or IsKept cells cell k (omega (arith, is_cell, cell_within)) ring.kept) where
    cell_within : cell_of first (length cells) place < length cells
    cell_within = elim (cases_lt (first + place) (length cells)) [
      | inl short ↦ omega (arith, cell_short first (length cells) place short, short)
      | inr long ↦ omega (arith, cell_round first (length cells) place long, within, young)
    ]

  -- with one receiver less there, the store has one less under the number
  pub less_is : rotation first (set cells cell (one_less k)) ≡ one_less_at (rotation first cells) (age s number)
  less_is =
      ap (λ m. rotation first (set cells m (one_less k))) is_cell
      ∙ (rotated_set first place cells (one_less k) within young
      ∙ (ap (λ l. set (rotation first cells) place (one_less l)) (sym in_order)
      ∙ (sym (one_less_is_set (rotation first cells) place k (omega (arith, as_long, young)))
      ∙ ap (one_less_at (rotation first cells)) ages)))
