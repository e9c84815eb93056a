-- How a number grew over the places, and its greatest.
use Rattle.std.proofs.Common.{◌≡◌, ℕ, zero, suc, ◌+◌, ◌-◌, ◌<◌, ◌≤◌, ◌⊎◌, true, false, cond, inl, inr, refl, sym, subst, arith, add-one}
use Rattle.std.specs.Prelude.{nat_lt}
use Rattle.std.proofs.lemmas.Bool.{cases_lt}
use Rattle.std.proofs.lemmas.Bool.Decides.{nat_tests}
use Rattle.rw_findings.specs.Totals.{growth, IsGreatest}

pub lt_is : (m n : ℕ) → m < n → nat_lt m n ≡ true
lt_is m n h = grind (arith, nat_tests)

pub not_lt_is : (m n : ℕ) → n ≤ m → nat_lt m n ≡ false
not_lt_is m n h = grind (arith, nat_tests)

module _ (at : ℕ → ℕ) where
  growth_next : (n : ℕ) → growth at (n + 1) ≡ growth at n + (at (n + 1) - at n)
  growth_next n = rw add-one refl

  still : (n g place : ℕ) → IsGreatest at n g place → at (n + 1) ≤ g → IsGreatest at (n + 1) g place
  still n g place is small = record {
    within = omega (arith, is.within);
    reached = is.reached;
    most = λ p below.
        elim (cases_lt p (n + 1)) [
          | inl inside ↦ is.most p (omega (arith, inside))
          | inr past ↦ let here : n + 1 ≡ p = omega (arith, below, past) in subst (λ k. at k ≤ g) here small
        ];
    first = is.first;
  }

  more : (n g place : ℕ) → IsGreatest at n g place → g < at (n + 1) → IsGreatest at (n + 1) (at (n + 1)) (n + 1)
  more n g place is above = record {
    within = omega arith;
    reached = refl;
    most = λ p below.
        elim (cases_lt p (n + 1)) [
          | inl inside ↦ omega (arith, is.most p (omega (arith, inside)), above)
          | inr past ↦ let here : n + 1 ≡ p = omega (arith, below, past) in subst (λ k. at k ≤ at (n + 1)) here (omega arith)
        ];
    first = λ p below. omega (arith, is.most p (omega (arith, below)), above);
  }

  -- ---- what is kept of a number that only grows until it falls to 0

  -- the greatest so far: what it is now, reached at the last step up, or what it was before it fell
  abbrev pub Tops : (n step now worst place : ℕ) → Type 0
  Tops n step now worst place = ((worst < now) × IsGreatest at n now step) ⊎ ((now ≤ worst) × IsGreatest at n worst place)

  -- it is `now` at place n, and fell from `lost` in all before
  pub record Stands (n step lost worst place now : ℕ) : Type 0 where
    pub now_is : at n ≡ now
    pub lost_is : lost + now ≡ growth at n
    pub small : lost + now ≤ n
    pub tops : Tops n step now worst place

  pub stands_first : (n : ℕ) → ((p : ℕ) → p ≤ n → at p ≡ 0) → (step : ℕ) → Stands n step 0 0 0 0
  stands_first n none step = record {
    now_is = none n (omega arith);
    lost_is = sym (nothing n none);
    small = omega arith;
    tops = inr (
      omega arith,
      record {
        within = omega arith;
        reached = none 0 (omega arith);
        most = λ p below. omega (arith, none p below);
        first = λ p below. absurd (omega (arith, below));
      },
    );
  } where
    nothing : (n : ℕ) → ((p : ℕ) → p ≤ n → at p ≡ 0) → growth at n ≡ 0
    nothing zero none = refl
    nothing (suc n) none = omega (arith, nothing n (λ p below. none p (omega (arith, below))), none (suc n) (omega arith))

  module _ (n step lost worst place now : ℕ) (is : Stands n step lost worst place now) where
    -- it stays as it is, and no step up comes, or it is 0
    pub stays : (next : ℕ) → (next ≡ step) ⊎ (now ≡ 0) → at (n + 1) ≡ now → Stands (n + 1) next lost worst place now
    stays next steps same = record {
      now_is = same;
      lost_is = omega (arith, is.lost_is, growth_next n, is.now_is, same);
      small = omega (arith, is.small);
      tops = elim is.tops [
        | inl up ↦ elim steps [
          | inl no_step ↦ inl (up.0, subst (λ s. IsGreatest at (n + 1) now s) (sym no_step) (still n now step up.1 (omega (arith, same))))
          | inr none ↦ absurd (omega (arith, up.0, none))
        ]
        | inr before ↦ inr (before.0, still n worst place before.1 (omega (arith, same, before.0)))
      ];
    }

    -- it grows by one
    pub grows : at (n + 1) ≡ now + 1 → Stands (n + 1) (n + 1) lost worst place (now + 1)
    grows up = record {
      now_is = up;
      lost_is = omega (arith, is.lost_is, growth_next n, is.now_is, up);
      small = omega (arith, is.small);
      tops = elim is.tops [
        | inl over ↦ inl (omega (arith, over.0), subst (λ g. IsGreatest at (n + 1) g (n + 1)) up (more n now step over.1 (omega (arith, up))))
        | inr before ↦ elim (cases_lt worst (now + 1)) [
          | inl over ↦ inl (over, subst (λ g. IsGreatest at (n + 1) g (n + 1)) up (more n worst place before.1 (omega (arith, over, up))))
          | inr under ↦ inr (under, still n worst place before.1 (omega (arith, under, up)))
        ]
      ];
    }

    -- where it ends, its greatest is known
    pub settled_top : IsGreatest at n (cond (nat_lt worst now) now worst) (cond (nat_lt worst now) step place)
    settled_top = elim is.tops [
      | inl over ↦ subst (λ b. IsGreatest at n (cond b now worst) (cond b step place)) (sym (lt_is worst now over.0)) over.1
      | inr before ↦ subst (λ b. IsGreatest at n (cond b now worst) (cond b step place)) (sym (not_lt_is worst now before.0)) before.1
    ]

    -- it falls to 0
    pub falls : (next : ℕ) → at (n + 1) ≡ 0 → Stands (n + 1) next (lost + now) (cond (nat_lt worst now) now worst) (cond (nat_lt worst now) step place) 0
    falls next none = record {
      now_is = none;
      lost_is = omega (arith, is.lost_is, growth_next n, none);
      small = omega (arith, is.small);
      tops = inr (omega arith, still n _ _ settled_top (omega (arith, none)));
    }
