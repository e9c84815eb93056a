-- Rows of peaks that are raised, and the greatest number at some places.
use Rattle.std.proofs.Common.{◌≡◌, ◌≢◌, ℕ, zero, suc, ◌+◌, ◌-◌, ◌*◌, ◌<◌, ◌≤◌, ◌⊎◌, max, min, Bool, true, false, cond, List, []}
use Rattle.std.proofs.Common.{◌∷◌, ◌++◌, length, inl, inr, refl, ap, sym, ◌∙◌, subst, add-mul, one-mul, arith}
use Rattle.std.specs.Prelude.{nat_eq, nat_lt, slice_index_or, slice_set}
use Rattle.std.proofs.lemmas.Bool.{cases_eq, cases_lt}
use Rattle.std.proofs.lemmas.Bool.Decides.{nat_tests}
use Rattle.rw_findings.specs.Peaks.{IsGreatest, IsSoFar, Raised, alone, peak_in, raised_to}

-- ---- lists with a default

pub push_default : {X : Type 0} (xs : List X) (i : ℕ) (d : X) → slice_index_or (xs ++ d ∷ []) i d ≡ slice_index_or xs i d
push_default [] zero d = refl
push_default [] (suc i) d = refl
push_default (x ∷ xs) zero d = refl
push_default (x ∷ xs) (suc i) d = push_default xs i d

pub at_set : {X : Type 0} (xs : List X) (i : ℕ) (x d : X) → i < length xs → slice_index_or (slice_set xs i x) i d ≡ x
at_set [] i x d within = absurd (omega arith)
at_set (y ∷ xs) zero x d within = refl
at_set (y ∷ xs) (suc i) x d within = at_set xs i x d (omega arith)

pub at_set_other : {X : Type 0} (xs : List X) (i j : ℕ) (x d : X) → j ≢ i → slice_index_or (slice_set xs i x) j d ≡ slice_index_or xs j d
at_set_other [] i j x d apart = refl
at_set_other (y ∷ xs) zero zero x d apart = absurd (apart refl)
at_set_other (y ∷ xs) zero (suc j) x d apart = refl
at_set_other (y ∷ xs) (suc i) zero x d apart = refl
at_set_other (y ∷ xs) (suc i) (suc j) x d apart = at_set_other xs i j x d (λ same. apart (ap suc same))

-- ---- raised peaks

eq_is : (m n : ℕ) → m ≡ n → nat_eq m n ≡ true
eq_is m n same = grind (arith, nat_tests)

eq_not : (m n : ℕ) → m ≢ n → nat_eq m n ≡ false
eq_not m n apart = grind (arith, nat_tests)

pub raised_here : (stretch before level : ℕ) → raised_to stretch stretch before level ≡ max before level
raised_here stretch before level = ap (λ k. cond k (max before level) before) (eq_is stretch stretch refl)

pub raised_there : (stretch other before level : ℕ) → other ≢ stretch → raised_to stretch other before level ≡ before
raised_there stretch other before level apart = ap (λ k. cond k (max before level) before) (eq_not other stretch apart)

raised_by_none : (stretch other before : ℕ) → raised_to stretch other before 0 ≡ before
raised_by_none stretch other before = by_test (nat_eq other stretch) where
  by_test : (k : Bool) → cond k (max before 0) before ≡ before
  by_test true = omega arith
  by_test false = refl

raised_twice : (stretch other before level more : ℕ)
    → raised_to stretch other (raised_to stretch other before level) more ≡ raised_to stretch other before (max level more)
raised_twice stretch other before level more = by_test (nat_eq other stretch) where
  by_test : (k : Bool) → cond k (max (cond k (max before level) before) more) (cond k (max before level) before) ≡ cond k (max before (max level more)) before
  by_test true = omega arith
  by_test false = refl

pub not_raised : (rows : List (List ℕ)) (stretch : ℕ) (level : ℕ → ℕ) → ((receiver : ℕ) → level receiver ≡ 0) → Raised rows rows stretch level
not_raised rows stretch level none receiver other =
    sym (ap (raised_to stretch other (peak_in rows receiver other)) (none receiver) ∙ raised_by_none stretch other (peak_in rows receiver other))

-- the same levels in another form
pub raised_same : (old new : List (List ℕ)) (stretch : ℕ) (level same : ℕ → ℕ) → ((receiver : ℕ) → level receiver ≡ same receiver)
    → Raised old new stretch level → Raised old new stretch same
raised_same old new stretch level same are raised receiver other =
    raised receiver other ∙ ap (raised_to stretch other (peak_in old receiver other)) (are receiver)

-- raised once more
pub raised_more : (old mid new : List (List ℕ)) (stretch : ℕ) (level more both : ℕ → ℕ)
    → ((receiver : ℕ) → max (level receiver) (more receiver) ≡ both receiver)
    → Raised old mid stretch level → Raised mid new stretch more → Raised old new stretch both
raised_more old mid new stretch level more both are first second receiver other =
    second receiver other
    ∙ ap (λ n. raised_to stretch other n (more receiver)) (first receiver other)
    ∙ raised_twice stretch other (peak_in old receiver other) (level receiver) (more receiver)
    ∙ ap (raised_to stretch other (peak_in old receiver other)) (are receiver)

-- a row with one peak raised
pub raised_at : (before mid : List ℕ) (stretch level value : ℕ) → ((other : ℕ) → slice_index_or mid other 0 ≡ slice_index_or before other 0)
    → stretch < length mid → value ≡ max (slice_index_or mid stretch 0) level
    → (other : ℕ) → slice_index_or (slice_set mid stretch value) other 0 ≡ raised_to stretch other (slice_index_or before other 0) level
raised_at before mid stretch level value same within is other =
    elim (cases_eq other stretch) [
      | inl here ↦
          ap (λ k. slice_index_or (slice_set mid stretch value) k 0) here ∙ at_set mid stretch value 0 within ∙ is ∙ ap (λ n. max n level) (same stretch)
          ∙ sym (raised_here stretch (slice_index_or before stretch 0) level) ∙ ap (λ k. raised_to stretch k (slice_index_or before k 0) level) (sym here)
      | inr apart ↦ at_set_other mid stretch other value 0 apart ∙ same other ∙ sym (raised_there stretch other (slice_index_or before other 0) level apart)
    ]

alone_here : (receiver level : ℕ) → alone receiver level receiver ≡ level
alone_here receiver level = ap (λ k. cond k level 0) (eq_is receiver receiver refl)

alone_there : (receiver level other : ℕ) → other ≢ receiver → alone receiver level other ≡ 0
alone_there receiver level other apart = ap (λ k. cond k level 0) (eq_not other receiver apart)

pub alone_none : (receiver level other : ℕ) → level ≡ 0 → alone receiver level other ≡ 0
alone_none receiver level other none = by_test (nat_eq other receiver) where
  by_test : (k : Bool) → cond k level 0 ≡ 0
  by_test true = none
  by_test false = refl

-- rows with one row raised
pub raised_rows : (before mid : List (List ℕ)) (receiver stretch level : ℕ) (row : List ℕ)
    → ((other : ℕ) → slice_index_or mid other [] ≡ slice_index_or before other []) → receiver < length mid
    → ((other : ℕ) → slice_index_or row other 0 ≡ raised_to stretch other (peak_in mid receiver other) level)
    → Raised before (slice_set mid receiver row) stretch (alone receiver level)
raised_rows before mid receiver stretch level row same within is reader other =
    elim (cases_eq reader receiver) [
      | inl here ↦
          ap (λ k. peak_in (slice_set mid receiver row) k other) here
          ∙ ap (λ r. slice_index_or r other 0) (at_set mid receiver row [] within)
          ∙ is other
          ∙ ap (λ r. raised_to stretch other (slice_index_or r other 0) level) (same receiver)
          ∙ ap (raised_to stretch other (peak_in before receiver other)) (sym (alone_here receiver level))
          ∙ ap (λ k. raised_to stretch other (peak_in before k other) (alone receiver level k)) (sym here)
      | inr apart ↦
          ap (λ r. slice_index_or r other 0) (at_set_other mid receiver reader row [] apart ∙ same reader)
          ∙ sym (raised_by_none stretch other (peak_in before reader other))
          ∙ ap (raised_to stretch other (peak_in before reader other)) (sym (alone_there receiver level reader apart))
    ]

-- the levels of the first receivers, with one more
abbrev pub first_levels : (level : ℕ → ℕ) → (receivers : ℕ) → ℕ → ℕ
first_levels level receivers receiver = cond (nat_lt receiver receivers) (level receiver) 0

pub one_more_level : (level : ℕ → ℕ) (n receiver : ℕ) → max (first_levels level n receiver) (alone n (level n) receiver) ≡ first_levels level (n + 1) receiver
one_more_level level n receiver =
    elim (cases_eq receiver n) [
      | inl same ↦ subst (λ k. max (first_levels level n k) (alone n (level n) k) ≡ first_levels level (n + 1) k) (sym same) (at_last n)
      | inr apart ↦ elim (cases_lt receiver n) [
        | inl below ↦
            let one : nat_lt receiver n ≡ true = grind (arith, nat_tests) in
            let two : nat_eq receiver n ≡ false = eq_not receiver n apart in
            let three : nat_lt receiver (n + 1) ≡ true = grind (arith, nat_tests) in
            values (nat_lt receiver n) (nat_eq receiver n) (nat_lt receiver (n + 1)) (level receiver) (level n) true false true one two three (omega arith)
        | inr above ↦
            let over : n < receiver = omega (arith, apart, above) in
            let one : nat_lt receiver n ≡ false = grind (arith, nat_tests) in
            let two : nat_eq receiver n ≡ false = eq_not receiver n apart in
            let three : nat_lt receiver (n + 1) ≡ false = grind (arith, nat_tests) in
            values (nat_lt receiver n) (nat_eq receiver n) (nat_lt receiver (n + 1)) (level receiver) (level n) false false false one two three (omega arith)
      ]
    ] where
      values : (a b c : Bool) (x y : ℕ) (p q r : Bool) → a ≡ p → b ≡ q → c ≡ r → max (cond p x 0) (cond q y 0) ≡ cond r x 0
          → max (cond a x 0) (cond b y 0) ≡ cond c x 0
      values a b c x y p q r one two three is =
          subst (λ k. max (cond k x 0) (cond b y 0) ≡ cond c x 0) (sym one)
          (subst (λ k. max (cond p x 0) (cond k y 0) ≡ cond c x 0) (sym two)
          (subst (λ k. max (cond p x 0) (cond q y 0) ≡ cond k x 0) (sym three) is))

      at_last : (k : ℕ) → max (first_levels level k k) (alone k (level k) k) ≡ first_levels level (k + 1) k
      at_last k =
          let one : nat_lt k k ≡ false = grind (arith, nat_tests) in
          let three : nat_lt k (k + 1) ≡ true = grind (arith, nat_tests) in
          values (nat_lt k k) (nat_eq k k) (nat_lt k (k + 1)) (level k) (level k) false true true one (eq_is k k refl) three (omega arith)

pub no_levels : (level : ℕ → ℕ) (receiver : ℕ) → first_levels level 0 receiver ≡ 0
no_levels level receiver = let none : nat_lt receiver 0 ≡ false = grind (arith, nat_tests) in ap (λ k. cond k (level receiver) 0) none

pub all_levels : (level : ℕ → ℕ) (n : ℕ) → ((receiver : ℕ) → n ≤ receiver → level receiver ≡ 0) → (receiver : ℕ)
    → first_levels level n receiver ≡ level receiver
all_levels level n none receiver =
    elim (cases_lt receiver n) [
      | inl below ↦ let is : nat_lt receiver n ≡ true = grind (arith, nat_tests) in ap (λ k. cond k (level receiver) 0) is
      | inr above ↦ let is : nat_lt receiver n ≡ false = grind (arith, nat_tests) in ap (λ k. cond k (level receiver) 0) is ∙ sym (none receiver above)
    ]

-- ---- the greatest

module _ (at : ℕ → ℕ) where
  pub so_far_first : (from : ℕ) → IsSoFar at from from 0
  so_far_first from = record {
    most = λ other above below. let same : other ≡ from = omega (arith, above, below) in let is : at other ≡ at from = ap at same in omega (arith, is);
    reached = inl refl;
  }

  -- one place more, where the number rose, or the last one was taken in
  pub so_far_on : (from place greatest more level : ℕ) → from ≤ place → IsSoFar at from place greatest → more ≡ max greatest level
      → (level ≡ at place) ⊎ ((level ≡ 0) × (at place ≤ at (place + 1))) → IsSoFar at from (place + 1) more
  so_far_on from place greatest more level within far is how = record {
    most = λ other above below.
        elim (cases_lt place other) [
          | inl over ↦ let same : other ≡ place + 1 = omega (arith, over, below) in let here : at other ≡ at (place + 1) = ap at same in omega (arith, here)
          | inr under ↦ elim how [
            | inl taken ↦ omega (arith, far.most other above under, is, taken)
            | inr rose ↦ omega (arith, far.most other above under, is, rose.0, rose.1)
          ]
        ];
    reached = elim (cases_eq more greatest) [
      | inl same ↦ elim far.reached [
        | inl none ↦ inl (same ∙ none)
        | inr there ↦ inr (there.0, there.1, omega (arith, there.2), there.3 ∙ sym same)
      ]
      | inr apart ↦ elim how [
        | inl taken ↦ inr (place, within, omega arith, let e : at place ≡ more = omega (arith, taken, is, apart) in e)
        | inr rose ↦ absurd (apart (omega (arith, is, rose.0)))
      ]
    ];
  }

  -- the last place is taken in
  pub greatest_is : (last from place greatest more : ℕ) → from ≤ place → place ≤ last → IsSoFar at from place greatest → more ≡ max greatest (at place)
      → IsGreatest at last from (place + 1) more
  greatest_is last from place greatest more within inside far is = record {
    most = λ other old above below. omega (arith, far.most other above (omega (arith, below)), is);
    reached = elim (cases_eq more greatest) [
      | inl same ↦ elim far.reached [
        | inl none ↦ inl (same ∙ none)
        | inr there ↦ inr (there.0, omega (arith, there.2, inside), there.1, omega (arith, there.2), there.3 ∙ sym same)
      ]
      | inr apart ↦ inr (place, inside, within, omega arith, let e : at place ≡ more = omega (arith, is, apart) in e)
    ];
  }

  -- places past the last are none
  pub greatest_wide : (last from to wide greatest : ℕ) → to ≤ wide → ((to ≡ wide) ⊎ (last < to)) → IsGreatest at last from to greatest
      → IsGreatest at last from wide greatest
  greatest_wide last from to wide greatest wider cut is = record {
    most = λ place old above below. is.most place old above (elim cut [ inl same ↦ omega (arith, same, below) | inr past ↦ omega (arith, past, old) ]);
    reached = elim is.reached [
      | inl none ↦ inl none
      | inr there ↦ inr (there.0, there.1, there.2, omega (arith, there.3, wider), there.4)
    ];
  }

  -- where there is no place, or only zeros
  pub greatest_none : (last from to : ℕ) → ((place : ℕ) → place ≤ last → from ≤ place → place < to → at place ≡ 0) → IsGreatest at last from to 0
  greatest_none last from to none = record { most = λ place old above below. omega (arith, none place old above below); reached = inl refl }

  -- ---- stretches

  -- a stretch of no places
  pub none_each : (last from each stretch : ℕ) → each ≡ 0 → IsGreatest at last (from + stretch * each) (from + (stretch + 1) * each) 0
  none_each last from each stretch none =
      let first : stretch * each ≡ 0 = ap (λ n. stretch * n) none ∙ omega arith in
      let second : (stretch + 1) * each ≡ 0 = ap (λ n. (stretch + 1) * n) none ∙ omega arith in
      greatest_none last (from + stretch * each) (from + (stretch + 1) * each) (λ place old above below. absurd (omega (arith, first, second, above, below)))

  -- a stretch past the last place
  pub none_past : (last from to : ℕ) → last < from → IsGreatest at last from to 0
  none_past last from to past = greatest_none last from to (λ place old above below. absurd (omega (arith, past, old, above)))

-- each stretch begins no earlier than those before it
pub later_start : (from each stretch later : ℕ) → stretch ≤ later → from + stretch * each ≤ from + later * each
later_start from each stretch later order =
    let more : later ≡ stretch + (later - stretch) = omega (arith, order) in
    let sum : later * each ≡ stretch * each + (later - stretch) * each = ap (λ n. n * each) more ∙ add-mul stretch (later - stretch) each in
    omega (arith, sum)

-- where the next stretch begins
pub next_start : (from each stretch start last end : ℕ) → start ≡ min (from + stretch * each) (last + 1) → start ≤ last → end ≡ min (start + each) (last + 1)
    → end ≡ min (from + (stretch + 1) * each) (last + 1)
next_start from each stretch start last end is inside ends =
    let one : (stretch + 1) * each ≡ stretch * each + each = add-mul stretch 1 each ∙ ap (λ n. stretch * each + n) (one-mul each) in
    omega (arith, one, is, inside, ends)
