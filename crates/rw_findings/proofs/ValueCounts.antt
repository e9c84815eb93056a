-- How many values a channel had had at a place, by the places since when they are there.
use Rattle.std.proofs.Common.{◌≡◌, ℕ, ◌-◌, ◌<◌, ◌≤◌, true, false, List, [], ◌∷◌, length, get_or, inl, inr, arith}
use Rattle.std.specs.Prelude.{nat_le}
use Rattle.std.specs.List.Sorted.{IsNonDecreasingBy, IsPartitionPoint, IsPartitionedBy}
use Rattle.std.proofs.lemmas.Bool.{cases_lt, cases_order, leb-false, leb-true}
use Rattle.std.proofs.lemmas.List.Sorted.{IsPartitionedBy-leb}
use Rattle.std.proofs.lemmas.Option.{slice_get-get_or}
use Rattle.rw_journal.specs.Run.{Run}
use Rattle.rw_world.proofs.Places.{shows_at_places}
use Rattle.rw_navigator.specs.Places.{last_place}
use Rattle.rw_findings.specs.Values.{AreValues, IsValue, count_at}
use Rattle.rw_findings.specs.declared.values.value.ChannelValue.{ChannelValue}
use Rattle.rw_findings.proofs.UniqueLives.{comes_there, rises_to}

module _ {V : Type 0} (run : Run V) (c : ℕ) (values : List (ChannelValue V)) (are : AreValues run c values) where
  rises : (p q : ℕ) → p ≤ q → q ≤ last_place run → count_at run c p ≤ count_at run c q
  rises p q below within = rises_to (count_at run c) (last_place run) (λ r inside. (comes_there (shows_at_places V) run c r inside).0) p q below within

  is_value : (n : ℕ) (d : ChannelValue V) → n < length values → IsValue run c n (last_place run) (get_or values n d)
  is_value n d within = are.each n (get_or values n d) (slice_get-get_or values n d within)

  -- a value that came after a place wasn't there
  after : (n p : ℕ) (v : ChannelValue V) → IsValue run c n (last_place run) v → p < v.since → count_at run c p ≤ n
  after n p v is later =
      elim is.fresh [
        | inl opening ↦ absurd (omega (arith, opening, later))
        | inr before ↦ omega (arith, before, rises p (v.since - 1) (omega (arith, later)) (omega (arith, is.inside)))
      ]

  -- and one that came by then was
  before : (n p : ℕ) (v : ChannelValue V) → IsValue run c n (last_place run) v → v.since ≤ p → p ≤ last_place run → n < count_at run c p
  before n p v is earlier within = omega (arith, is.came, rises v.since p earlier within)

  in_order : IsNonDecreasingBy (λ (v : ChannelValue V). v.since) values
  in_order i j d below within =
      let first = is_value i d (omega (arith, below, within)) in
      let second = is_value j d within in
      elim (cases_lt (get_or values j d).since (get_or values i d).since) [
        | inl later ↦ absurd (omega (arith, below, after i (get_or values j d).since (get_or values i d) first later, second.came))
        | inr fine ↦ omega (arith, fine)
      ]

  pub parted : (p : ℕ) → IsPartitionedBy (λ (v : ChannelValue V). nat_le v.since p) values
  parted p = IsPartitionedBy-leb (λ (v : ChannelValue V). v.since) values p in_order

  pub cut_is : (p k : ℕ) → p ≤ last_place run → k ≤ length values
      → IsPartitionPoint (λ (v : ChannelValue V). nat_le v.since p ≡ true) (λ (v : ChannelValue V). nat_le v.since p ≡ false) values k
      → k ≡ count_at run c p
  cut_is p k within bound cut =
      let all : count_at run c p ≤ length values = omega (arith, are.many, rises p (last_place run) within (omega arith)) in
      elim (cases_order k (count_at run c p)) [
        | inl same ↦ same
        | inr (inl below) ↦
            let inside : k < length values = omega (arith, below, all) in
            let v = get_or values k (element values k inside) in
            let fails = leb-false v.since p (cut.1 k (element values k inside) (omega arith) inside) in
            absurd (omega (arith, below, after k p v (is_value k (element values k inside) inside) fails))
        | inr (inr above) ↦
            let inside : count_at run c p < length values = omega (arith, above, bound) in
            let n = count_at run c p in
            let v = get_or values n (element values n inside) in
            let passes = leb-true v.since p (cut.0 n (element values n inside) (omega arith) above) in
            absurd (omega (arith, before n p v (is_value n (element values n inside) inside) passes within))
      ] where
        element : {X : Type 0} (xs : List X) (i : ℕ) → i < length xs → X
        element [] i inside = absurd (omega (arith, inside))
        element (x ∷ xs) i inside = x
