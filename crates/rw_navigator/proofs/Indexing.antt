-- The places that are hits as a list, and what a binary search finds there.
use Rattle.std.proofs.Common.{◌≡◌, ◌≢◌, ℕ, zero, suc, ◌+◌, ◌-◌, ◌<◌, ◌≤◌, Bool, true, false, cond, List, [], ◌∷◌, ◌++◌}
use Rattle.std.proofs.Common.{length, get_or, Some, None, inl, inr, refl, sym, ◌∙◌, ap, subst, arith, add-one}
use Rattle.std.specs.Prelude.{nat_lt, nat_le}
use Rattle.std.specs.List.{All, Contains, filter, range_with_len}
use Rattle.std.specs.List.Sorted.{IsNonDecreasingBy, IsPartitionPoint}
use Rattle.std.proofs.lemmas.Bool.{cases_Bool, cases_lt, leb-true, leb-false, ltb-true, ltb-false}
use Rattle.std.proofs.lemmas.List.{append-nil, get_or_default, length-append, map-id}
use Rattle.std.proofs.lemmas.List.Elements.{All-cons, All-contains, All-nil, Contains-append_cases, Contains-append_left, Contains-append_right, filter_passes}
use Rattle.std.proofs.lemmas.List.FromFn.{filter_of_map_range_with_len_more, get_or-range_with_len, length-range_with_len}
use Rattle.std.proofs.lemmas.List.Kept.{IsNonDecreasingBy-filter}
use Rattle.rw_navigator.specs.Search.{last_below, first_of_next, first_above}

-- ---- the hits among the first places

-- the hits among the first n places
abbrev pub hits_to : (ℕ → Bool) → ℕ → List ℕ
hits_to hit n = filter hit (range_with_len 1 n)

hits_to-more : (hit : ℕ → Bool) (n : ℕ) → hits_to hit (n + 1) ≡ hits_to hit n ++ cond (hit (n + 1)) ((n + 1) ∷ []) []
hits_to-more hit n =
    ap (filter hit) (sym (map-id (range_with_len 1 (n + 1))))
    ∙ filter_of_map_range_with_len_more hit (λ x. x) 1 n (n + 1) (omega arith)
    ∙ ap (λ xs. filter hit xs ++ cond (hit (n + 1)) ((n + 1) ∷ []) []) (map-id (range_with_len 1 n))

pub hits_to-hit : (hit : ℕ → Bool) (n : ℕ) → hit (n + 1) ≡ true → hits_to hit (n + 1) ≡ hits_to hit n ++ (n + 1) ∷ []
hits_to-hit hit n passes = hits_to-more hit n ∙ ap (λ b. hits_to hit n ++ cond b ((n + 1) ∷ []) []) passes

pub hits_to-miss : (hit : ℕ → Bool) (n : ℕ) → hit (n + 1) ≡ false → hits_to hit (n + 1) ≡ hits_to hit n
hits_to-miss hit n fails = hits_to-more hit n ∙ ap (λ b. hits_to hit n ++ cond b ((n + 1) ∷ []) []) fails ∙ append-nil (hits_to hit n)

-- more places have no fewer hits
pub hits_to-grow : (hit : ℕ → Bool) (n m : ℕ) → n ≤ m → length (hits_to hit n) ≤ length (hits_to hit m)
hits_to-grow hit n zero h = let same : n ≡ 0 = omega (arith, h) in rw same (omega arith)
hits_to-grow hit n (suc m) h =
    elim (cases_lt m n) [
      | inl last ↦ let same : n ≡ suc m = omega (arith, last, h) in rw same (omega arith)
      | inr before ↦ let more : hits_to hit (suc m) ≡ hits_to hit m ++ cond (hit (m + 1)) ((m + 1) ∷ []) [] =
          ap (hits_to hit) (sym (add-one m)) ∙ hits_to-more hit m in
          omega (arith, hits_to-grow hit n m before, ap length more, length-append (hits_to hit m) (cond (hit (m + 1)) ((m + 1) ∷ []) []))
    ]

-- ---- nothing passes in between

module _ (test : ℕ → Bool) where
  pub last_below-at : (p q : ℕ) → q < p → test q ≡ true → ((k : ℕ) → q < k → k < p → test k ≡ false) → last_below test p ≡ Some q
  last_below-at zero q below passes rest = absurd (omega (arith, below))
  last_below-at (suc p) q below passes rest =
      elim (cases_lt q p) [
        | inl under ↦ rw (rest p under (omega arith)) (last_below-at p q under passes (λ k a b. rest k a (omega (arith, b))))
        | inr over ↦ let same : p ≡ q = omega (arith, below, over) in rw (same, passes) refl
      ]

  pub last_below-none : (p : ℕ) → ((k : ℕ) → k < p → test k ≡ false) → last_below test p ≡ None
  last_below-none zero rest = refl
  last_below-none (suc p) rest = rw (rest p (omega arith)) (last_below-none p (λ k b. rest k (omega (arith, b))))

  pub first_of_next-at : (p n q : ℕ) → p < q → q ≤ p + n → test q ≡ true → ((k : ℕ) → p < k → k < q → test k ≡ false) → first_of_next test p n ≡ Some q
  first_of_next-at p zero q above inside passes rest = absurd (omega (arith, above, inside))
  first_of_next-at p (suc n) q above inside passes rest =
      elim (cases_lt (p + 1) q) [
        | inl over ↦ rw (rest (p + 1) (omega arith) over)
            (first_of_next-at (p + 1) n q over (omega (arith, inside)) passes (λ k a b. rest k (omega (arith, a)) b))
        | inr under ↦ let same : p + 1 ≡ q = omega (arith, above, under) in rw (same, passes) refl
      ]

  pub first_of_next-none : (p n : ℕ) → ((k : ℕ) → p < k → test k ≡ false) → first_of_next test p n ≡ None
  first_of_next-none p zero rest = refl
  first_of_next-none p (suc n) rest = rw (rest (p + 1) (omega arith)) (first_of_next-none (p + 1) n (λ k a. rest k (omega (arith, a))))

-- ---- a list of all hits

-- a filter retains each item that passes
pub Contains-filter : {X : Type 0} (test : X → Bool) (xs : List X) (x : X) → test x ≡ true → Contains xs x → Contains (filter test xs) x
Contains-filter test [] x passes c = absurd (omega (arith, c.1))
Contains-filter test (y ∷ ys) x passes c =
    elim (cases_Bool (test y)) [
      | inl kept ↦ elim (Contains-append_cases (y ∷ []) ys x c) [
        | inl first ↦ rw kept (Contains-append_left (y ∷ []) (filter test ys) x first)
        | inr later ↦ rw kept (Contains-append_right (y ∷ []) (filter test ys) x (Contains-filter test ys x passes later))
      ]
      | inr gone ↦ elim (Contains-append_cases (y ∷ []) ys x c) [
        | inl first ↦ let same : x ≡ y = All-contains (λ z. z ≡ y) (y ∷ []) x (All-cons (λ z. z ≡ y) y [] refl (All-nil (λ z. z ≡ y))) first in
            absurd (cc (sym (ap test same ∙ gone) ∙ passes))
        | inr later ↦ rw gone (Contains-filter test ys x passes later)
      ]
    ]

-- all hits, in order
pub record IsAllHits (hit : ℕ → Bool) (places : List ℕ) : Type 0 where
  pub rising : IsNonDecreasingBy (λ p. p) places
  pub passes : All (λ p. hit p ≡ true) places
  pub each : (p : ℕ) → hit p ≡ true → Contains places p

-- a list of all hits, each of them a place from 1 to the last
module _ (hit : ℕ → Bool) (last : ℕ) (inside : (p : ℕ) → hit p ≡ true → (0 < p) × (p ≤ last)) where
  range_rises : IsNonDecreasingBy (λ p. p) (range_with_len 1 last)
  range_rises i j d order below =
      let n : length (range_with_len 1 last) ≡ last = length-range_with_len 1 last in
      omega (arith, order, get_or-range_with_len 1 last i d (omega (arith, n, order, below)), get_or-range_with_len 1 last j d (omega (arith, n, below)))

  in_range : (p : ℕ) → 0 < p → p ≤ last → Contains (range_with_len 1 last) p
  in_range p above below = (
    p - 1,
    omega (arith, above, below, length-range_with_len 1 last),
    get_or-range_with_len 1 last (p - 1) p (omega (arith, above, below))
        ∙ omega (arith, above),
  )

  pub all_hits : IsAllHits hit (hits_to hit last)
  all_hits = record {
    rising = IsNonDecreasingBy-filter (λ p. p) hit (range_with_len 1 last) range_rises;
    passes = filter_passes hit (range_with_len 1 last);
    each = λ p passes. let h = inside p passes in Contains-filter hit (range_with_len 1 last) p passes (in_range p h.0 h.1);
  }

  -- a list of all hits that a test of numbers splits at index i
  module _ (places : List ℕ) (all : IsAllHits hit places) (i : ℕ) where
    passes_at : (j e : ℕ) → j < length places → e ≡ get_or places j e → hit e ≡ true
    passes_at j e left read = subst (λ q. hit q ≡ true) (sym read) (all.passes j e left)

    -- the last hit before the split is the greatest below p, where the test is `< p`
    module _ (p : ℕ) (cut : IsPartitionPoint (λ q. nat_lt q p ≡ true) (λ q. nat_lt q p ≡ false) places i) where
      none_from_cut : (k : ℕ) → k < p → ((j : ℕ) → j < i → get_or places j k < k) → hit k ≡ false
      none_from_cut k below front =
          elim (cases_Bool (hit k)) [
            | inr fails ↦ fails
            | inl passes ↦ let at = all.each k passes in
                elim (cases_lt at.0 i) [
                  | inl before ↦ absurd (omega (arith, front at.0 before, at.2))
                  | inr behind ↦ absurd (omega (arith, ltb-false (get_or places at.0 k) p (cut.1 at.0 k behind at.1), at.2, below))
                ]
          ]

      pub before_cut : (e : ℕ) → i ≢ 0 → i ≤ length places → e ≡ get_or places (i - 1) e → (last_below hit p ≡ Some e) × (0 < e) × (e < p) × (e ≤ last)
      before_cut e some bound read =
          let above : 0 < i = omega (arith, some) in
          let passes : hit e ≡ true = passes_at (i - 1) e (omega (arith, above, bound)) read in
          let below : e < p = omega (arith, ltb-true (get_or places (i - 1) e) p (cut.0 (i - 1) e (omega arith) (omega (arith, above))), read) in (
            last_below-at hit p e below passes
                (λ k over under. none_from_cut k under (λ j left.
                omega (
                  arith,
                  all.rising j (i - 1) e (omega (arith, left)) (omega (arith, above, bound)),
                  read,
                  over,
                  get_or_default places j e k (omega (arith, left, bound)),
                ))),
            (inside e passes).0,
            below,
            (inside e passes).1,
          )

      pub none_before : i ≡ 0 → last_below hit p ≡ None
      none_before first = last_below-none hit p (λ k below. none_from_cut k below (λ j left. absurd (omega (arith, left, first))))

    -- the first hit after the split is the least above p, where the test is `<= p`
    module _ (p : ℕ) (cut : IsPartitionPoint (λ q. nat_le q p ≡ true) (λ q. nat_le q p ≡ false) places i) where
      none_up_to_cut : (k : ℕ) → p < k → ((j : ℕ) → i ≤ j → j < length places → k < get_or places j k) → hit k ≡ false
      none_up_to_cut k above back =
          elim (cases_Bool (hit k)) [
            | inr fails ↦ fails
            | inl passes ↦ let at = all.each k passes in
                elim (cases_lt at.0 i) [
                  | inl before ↦ absurd (omega (arith, leb-true (get_or places at.0 k) p (cut.0 at.0 k (omega arith) before), at.2, above))
                  | inr behind ↦ absurd (omega (arith, back at.0 behind at.1, at.2))
                ]
          ]

      pub behind_cut : (e : ℕ) → i < length places → e ≡ get_or places i e → (first_above hit p last ≡ Some e) × (p < e) × (e ≤ last)
      behind_cut e bound read =
          let passes : hit e ≡ true = passes_at i e bound read in
          let above : p < e = omega (arith, leb-false (get_or places i e) p (cut.1 i e (omega arith) bound), read) in (
            first_of_next-at hit p (last - p) e above (omega (arith, (inside e passes).1, above)) passes
                (λ k over below. none_up_to_cut k over (λ j behind left.
                omega (arith, all.rising i j e behind left, read, below, get_or_default places j e k left))),
            above,
            (inside e passes).1,
          )

      pub none_behind : length places ≤ i → first_above hit p last ≡ None
      none_behind over = first_of_next-none hit p (last - p) (λ k above. none_up_to_cut k above (λ j behind left. absurd (omega (arith, over, behind, left))))
