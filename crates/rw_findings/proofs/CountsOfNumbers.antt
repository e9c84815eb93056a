-- How many numbers meet a condition.
use Rattle.std.proofs.Common.{◌≡◌, ℕ, zero, suc, ◌+◌, ◌-◌, ◌<◌, ◌≤◌, sym, subst, arith, add-one}
use Rattle.rw_findings.specs.Totals.{IsCount, none, one, other}

pub count_same : {P Q : ℕ → Type 0} {n count : ℕ} → ((v : ℕ) → v ≤ n → P v → Q v) → ((v : ℕ) → v ≤ n → Q v → P v) → IsCount P n count → IsCount Q n count
count_same on back none = none
count_same on back (one {n = n} rest here) =
    one (count_same (λ v below. on v (omega (arith, below))) (λ v below. back v (omega (arith, below))) rest) (on (suc n) (omega arith) here)
count_same on back (other {n = n} rest not_here) =
    other (count_same (λ v below. on v (omega (arith, below))) (λ v below. back v (omega (arith, below))) rest)
    (λ here. not_here (back (suc n) (omega arith) here))

pub count_none : {P : ℕ → Type 0} → ((v : ℕ) → P v → ⊥) → (n : ℕ) → IsCount P n 0
count_none never zero = none
count_none never (suc n) = other (count_none never n) (never (suc n))

count_up : {P : ℕ → Type 0} {a count : ℕ} → IsCount P a count → (d : ℕ) → ((v : ℕ) → a < v → v ≤ a + d → P v) → IsCount P (a + d) (count + d)
count_up {P = P} {a = a} {count = count} is zero all =
    let same : a ≡ a + 0 = omega arith in
    let same_count : count ≡ count + 0 = omega arith in
    subst (λ k. IsCount P (a + 0) k) same_count (subst (λ m. IsCount P m count) same is)
count_up {P = P} {a = a} {count = count} is (suc d) all =
    let next : suc (a + d) ≡ a + suc d = omega arith in
    let next_count : suc (count + d) ≡ count + suc d = omega arith in
    subst (λ k. IsCount P (a + suc d) k) next_count (subst (λ m. IsCount P m (suc (count + d))) next
    (one (count_up is d (λ v above below. all v above (omega (arith, below)))) (all (suc (a + d)) (omega arith) (omega arith))))

-- where all above the first a meet it
pub count_all : {P : ℕ → Type 0} {a count : ℕ} → IsCount P a count → (n : ℕ) → a ≤ n → ((v : ℕ) → a < v → v ≤ n → P v) → IsCount P n (count + (n - a))
count_all {P = P} {a = a} {count = count} is n within all =
    let whole : a + (n - a) ≡ n = omega (arith, within) in
    subst (λ m. IsCount P m (count + (n - a))) whole (count_up is (n - a) (λ v above below. all v above (omega (arith, below, whole))))

pub count_other : {P : ℕ → Type 0} {n count : ℕ} → IsCount P n count → (P (n + 1) → ⊥) → IsCount P (n + 1) count
count_other {P = P} {n = n} {count = count} is not_here =
    subst (λ m. IsCount P m count) (sym (add-one n)) (other is (λ here. not_here (subst P (sym (add-one n)) here)))
