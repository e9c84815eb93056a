-- The retained capacity is the least power of two that is at least the requested one.
use Rattle.std.proofs.Common.{◌≡◌, ℕ, zero, suc, ◌*◌, ◌/◌, ◌^◌, ◌<◌, ◌≤◌, max, [], refl, ap, sym, ◌∙◌, arith, inl, inr}
use Rattle.std.specs.Prelude.{nat_le, ◌⊎◌, ◌-◌}
use Rattle.std.specs.Int.{IsPowerOfTwo, IsNextPowerOfTwo}
use Rattle.std.proofs.Math.Nat.{two-pow-succ, pow-le-pow_right}
use Rattle.std.proofs.Math.Seq.{drop-nil}
use Rattle.std.proofs.lemmas.Nat.{pow_pos}
use Rattle.std.proofs.lemmas.Bool.{cond_both, leb-true, leb-false, cases_order}
use Rattle.rw_ring.specs.declared.ring.TheConstants.{MOST_CAPACITY}
use Rattle.rw_broadcast.specs.Arithmetic.{power_from, retained_capacity}
use Rattle.rw_broadcast.specs.Record.{first_slots, opening_record}
use Rattle.rw_broadcast.specs.Shown.{shown}
use Rattle.rw_broadcast.specs.Laws.{RetainsNextPower}

-- p doubled this many times
doubled : ℕ → ℕ → ℕ
doubled zero p = p
doubled (suc k) p = doubled k (2 * p)

next_power_from : (k p n : ℕ) → IsPowerOfTwo p → p / 2 < max 1 n → n ≤ doubled k p → IsNextPowerOfTwo n (power_from k p n)
unfolding doubled
next_power_from zero p n power low high = (power, high, low)
next_power_from (suc k) p n power low high =
    cond_both (nat_le n p) _ _ (IsNextPowerOfTwo n)
    (λ enough. (power, leb-true n p enough, low))
    (λ short. let above : p < n = leb-false n p short in
    let twice : 2 * p ≡ 2 ^ suc power.0 = omega (arith, two-pow-succ power.0, power.1) in
    next_power_from k (2 * p) n (suc power.0, twice) (omega arith) high)

pub retains_next_power : RetainsNextPower
unfolding doubled retained_capacity
retains_next_power asked some small = next_power_from 16 1 asked (0, refl) (omega arith) small

-- there is only one such power
no_power_between : (n a b : ℕ) → a < b → n ≤ 2 ^ a → 2 ^ b / 2 < max 1 n → ⊥
no_power_between n a zero h low high = omega (arith, h)
no_power_between n a (suc c) h low high =
    let step : 2 ^ a ≤ 2 ^ c = pow-le-pow_right (omega arith) (omega arith) in
    omega (arith, two-pow-succ c, pow_pos a)

power_order : (n p q a b : ℕ) → p ≡ 2 ^ a → q ≡ 2 ^ b → n ≤ p → n ≤ q → p / 2 < max 1 n → q / 2 < max 1 n → (a ≡ b) ⊎ ((a < b) ⊎ (b < a)) → p ≡ q
power_order n p q a b p_is q_is np nq ph qh (inl e) = p_is ∙ ap (λ k. 2 ^ k) e ∙ sym q_is
power_order n p q a b p_is q_is np nq ph qh (inr (inl lt)) = absurd (no_power_between n a b lt (rw p_is at np) (rw q_is at qh))
power_order n p q a b p_is q_is np nq ph qh (inr (inr gt)) = absurd (no_power_between n b a gt (rw q_is at nq) (rw p_is at ph))

pub one_next_power : (n p q : ℕ) → IsNextPowerOfTwo n p → IsNextPowerOfTwo n q → p ≡ q
one_next_power n p q h k = power_order n p q h.0.0 k.0.0 h.0.1 k.0.1 h.1 k.1 h.2 k.2 (cases_order h.0.0 k.0.0)

doubled-ge : (k p : ℕ) → p ≤ doubled k p
unfolding doubled
doubled-ge zero p = omega arith
doubled-ge (suc k) p = omega (arith, doubled-ge k (2 * p))

power_from-le : (k p n : ℕ) → 0 < p → (0 < power_from k p n) × (power_from k p n ≤ doubled k p)
unfolding doubled
power_from-le zero p n some = (some, omega arith)
power_from-le (suc k) p n some =
    let P = λ (r : ℕ). (0 < r) × (r ≤ doubled k (2 * p)) in
    cond_both (nat_le n p) _ _ P (λ _. (some, omega (arith, doubled-ge k (2 * p)))) (λ _. power_from-le k (2 * p) n (omega arith))

pub retained-bounds : (asked : ℕ) → (0 < retained_capacity asked) × (retained_capacity asked ≤ MOST_CAPACITY)
unfolding doubled retained_capacity
retained-bounds asked = power_from-le 16 1 asked (omega arith)

-- what a channel shows at its opening
pub shown-opened : {V : Type 0} (asked : ℕ) → shown (opening_record {V = V} asked)
    ≡ record { capacity = retained_capacity asked; sent = 0; window = []; slots = first_slots }
shown-opened {V} asked = ap (λ w. record { capacity = retained_capacity asked; sent = 0; window = w; slots = first_slots })
    (drop-nil (0 - retained_capacity asked))
