-- A map by numbers, and the list of its items with their numbers.
use Rattle.std.proofs.Common.{◌≡◌, ℕ, ◌+◌, ◌<◌, Bool, true, false, cond, not, List, [], ◌∷◌, ◌++◌, nat_cmp, is_eq, Less, Greater}
use Rattle.std.proofs.Common.{refl, sym, ap, ap₂, subst, ◌∙◌, arith, true≢false}
use Rattle.std.specs.Prelude.{Some, All, ◌==◌}
use Rattle.std.specs.List.{AllByRecursion, filter}
use Rattle.std.specs.List.Sorted.{IsStrictlySortedBy}
use Rattle.std.specs.Map.{keys_of, lookup, remove_entry, set_value}
use Rattle.std.specs.BTreeMap.{insert_entry, is_at}
use Rattle.std.specs.Ordering.{match_ordering}
use Rattle.std.specs.Cmp.{nat_cmp_is, unsigned_tied}
use Rattle.std.proofs.lemmas.Map.{keys-set_value}
use Rattle.std.proofs.lemmas.Map.Keys.{sorted_head, sorted_tail}
use Rattle.std.proofs.lemmas.Map.Views.{All-keys-insert_entry, All-map-remove_entry}
use Rattle.std.proofs.lemmas.List.{map-append}
use Rattle.std.proofs.lemmas.List.Elements.{All-nil, All-head, All-tail, All-weaker}
use Rattle.std.proofs.lemmas.Bool.{eqb-true, eqb-false}
use Rattle.rw_waiting.specs.declared.queue.Entry.{Entry}
use Rattle.rw_waiting.specs.Queue.{AreBelow, entries_of, item_among, other_among}

turned : (n k : ℕ) → (n == k) ≡ (k == n)
turned n k = by (n == k) (k == n) (eqb-true n k) (eqb-false n k) (eqb-true k n) (eqb-false k n) where
  by : (a b : Bool) → (a ≡ true → n ≡ k) → (a ≡ false → n ≡ k → ⊥) → (b ≡ true → k ≡ n) → (b ≡ false → k ≡ n → ⊥) → a ≡ b
  by true true _ _ _ _ = refl
  by true false a _ _ b = absurd (b refl (sym (a refl)))
  by false true _ a b _ = absurd (a refl (sym (b refl)))
  by false false _ _ _ _ = refl

same : (n k : ℕ) → is_at (nat_cmp n) k ≡ (k == n)
same n k = unsigned_tied n k ∙ turned n k

module _ {T : Type 0} where
  abbrev entry : ℕ × T → Entry T
  entry e = record { number = e.0; item = e.1 }

  pub found : (n : ℕ) (es : List (ℕ × T)) → lookup (is_at (nat_cmp n)) es ≡ item_among (entries_of es) n
  found n [] = refl
  found n (e ∷ es) = ap₂ (λ b r. cond b (Some e.1) r) (same n e.0) (found n es)

  pub replaced : (n : ℕ) (es : List (ℕ × T)) (w : T) → entries_of (set_value (is_at (nat_cmp n)) es w) ≡ other_among (entries_of es) n w
  replaced n [] w = refl
  replaced n (e ∷ es) w = by (is_at (nat_cmp n) e.0) (e.0 == n) (same n e.0) (replaced n es w) where
    by : (a b : Bool) → a ≡ b → entries_of (set_value (is_at (nat_cmp n)) es w) ≡ other_among (entries_of es) n w
        → entries_of (cond a ((e.0, w) ∷ es) (e ∷ set_value (is_at (nat_cmp n)) es w))
        ≡ cond b (record { number = e.0; item = w } ∷ entries_of es) (record { number = e.0; item = e.1 } ∷ other_among (entries_of es) n w)
    by true true _ _ = refl
    by false false _ rest = ap (λ ks. record { number = e.0; item = e.1 } ∷ ks) rest
    by true false is _ = absurd (true≢false is)
    by false true is _ = absurd (true≢false (sym is))

  -- items with greater numbers stay
  others_stay : (n : ℕ) (es : List (ℕ × T)) → AllByRecursion (λ y. nat_cmp n y ≡ Less) (keys_of es)
      → filter (λ k. not (k.number == n)) (entries_of es) ≡ entries_of es
  others_stay n [] above = refl
  others_stay n (e ∷ es) above =
      ap₂ (λ b ks. cond (not b) (record { number = e.0; item = e.1 } ∷ ks) ks) (sym (same n e.0) ∙ ap is_eq above.0) (others_stay n es above.1)

  pub left : (n : ℕ) (es : List (ℕ × T)) → IsStrictlySortedBy nat_cmp (keys_of es)
      → entries_of (remove_entry (is_at (nat_cmp n)) es) ≡ filter (λ k. not (k.number == n)) (entries_of es)
  left n [] s = refl
  left n (e ∷ es) s = by (is_at (nat_cmp n) e.0) (e.0 == n) (same n e.0) (eqb-true e.0 n) (left n es (sorted_tail nat_cmp e.0 (keys_of es) s)) where
    apart : e.0 ≡ n → filter (λ k. not (k.number == n)) (entries_of es) ≡ entries_of es
    apart is =
        let above = sorted_head nat_cmp e.0 (keys_of es) s in
        others_stay n es (subst (λ m. AllByRecursion (λ y. nat_cmp m y ≡ Less) (keys_of es)) is above)

    by : (a b : Bool) → a ≡ b → (b ≡ true → e.0 ≡ n)
        → entries_of (remove_entry (is_at (nat_cmp n)) es) ≡ filter (λ k. not (k.number == n)) (entries_of es)
        → entries_of (cond a es (e ∷ remove_entry (is_at (nat_cmp n)) es))
        ≡ cond (not b) (record { number = e.0; item = e.1 } ∷ filter (λ k. not (k.number == n)) (entries_of es))
        (filter (λ k. not (k.number == n)) (entries_of es))
    by true true _ is _ = sym (apart (is refl))
    by false false _ _ rest = ap (λ ks. record { number = e.0; item = e.1 } ∷ ks) rest
    by true false is _ _ = absurd (true≢false is)
    by false true is _ _ = absurd (true≢false (sym is))

  -- an item with a greater number than the others comes last
  last : (n : ℕ) (es : List (ℕ × T)) (w : T) → AreBelow n es → insert_entry nat_cmp es n w ≡ es ++ (n, w) ∷ []
  last n [] w below = refl
  last n (e ∷ es) w below =
      ap (λ r. match_ordering r ((n, w) ∷ e ∷ es) ((e.0, w) ∷ es) (e ∷ insert_entry nat_cmp es n w))
      (sym (nat_cmp_is n e.0 Greater (All-head (λ k. k < n) e.0 (keys_of es) below)))
      ∙ ap (λ l. e ∷ l) (last n es w (All-tail (λ k. k < n) e.0 (keys_of es) below))

  pub added : (n : ℕ) (es : List (ℕ × T)) (w : T) → AreBelow n es
      → entries_of (insert_entry nat_cmp es n w) ≡ entries_of es ++ record { number = n; item = w } ∷ []
  added n es w below = ap entries_of (last n es w below) ∙ map-append entry es ((n, w) ∷ [])

  pub below_next : (n : ℕ) (es : List (ℕ × T)) (w : T) → AreBelow n es → AreBelow (n + 1) (insert_entry nat_cmp es n w)
  below_next n es w below =
      let still = All-weaker (λ k. k < n) (λ k. k < n + 1) (λ k is. omega (arith, is)) (keys_of es) below in
      All-keys-insert_entry nat_cmp n w (λ k. k < n + 1) es still (omega arith)

  pub below_left : (n next : ℕ) (es : List (ℕ × T)) → AreBelow next es → AreBelow next (remove_entry (is_at (nat_cmp n)) es)
  below_left n next es below = All-map-remove_entry (is_at (nat_cmp n)) (λ e. e.0) (λ k. k < next) es below

  pub below_replaced : (n next : ℕ) (es : List (ℕ × T)) (w : T) → AreBelow next es → AreBelow next (set_value (is_at (nat_cmp n)) es w)
  below_replaced n next es w below = subst (All (λ k. k < next)) (sym (keys-set_value (is_at (nat_cmp n)) es w)) below

  pub none_below : (next : ℕ) (es : List (ℕ × T)) → es ≡ [] → AreBelow next es
  none_below next es none = subst (AreBelow next) (sym none) (All-nil (λ k. k < next))
