-- One receiver of a broadcast from one place to the next, and what is kept of it.
use Rattle.std.proofs.Common.{◌≡◌, ℕ, ◌+◌, ◌-◌, ◌≤◌, Bool, true, false, cond, inl, inr, refl, ap, sym, ◌∙◌, subst, arith}
use Rattle.std.specs.Prelude.{Option, Some, None, IsSome, unwrap_or, option_map, nat_lt}
use Rattle.std.proofs.lemmas.Bool.{cases_lt}
use Rattle.rw_findings.specs.declared.totals.broadcast.Reader.{Reader}
use Rattle.rw_findings.specs.BroadcastTallies.{BroadcastTally, new_reader, oldest_of, lag_from, lag_of_reader, settled, after_value, after_lag, after_drop}
use Rattle.rw_findings.proofs.Greatest.{Stands, stands_first, stays, grows, falls}

-- the tallies have the same numbers
pub record IsSameOf (t u : BroadcastTally) : Type 0 where
  pub capacity : u.capacity ≡ t.capacity
  pub sent : u.sent ≡ t.sent
  pub last_send : u.last_send ≡ t.last_send

lag_from_same : (t u : BroadcastTally) → IsSameOf t u → (o : Option ℕ) → lag_from u o ≡ lag_from t o
lag_from_same t u same None = refl
lag_from_same t u same (Some p) = omega (arith, same.capacity, same.sent)

-- a receiver with its lag among its losses, which is its greatest or not
abbrev settled_by : BroadcastTally → Reader → Bool → Reader
settled_by t r b = cond b (record r { lost = r.lost + lag_of_reader t r; worst = lag_of_reader t r; worst_place = t.last_send })
    (record r { lost = r.lost + lag_of_reader t r })

pub settled_parts : (t : BroadcastTally) (r : Reader)
    → ((settled t r).received ≡ r.received) × ((settled t r).told ≡ r.told) × ((settled t r).lost ≡ r.lost + lag_of_reader t r)
    × ((settled t r).worst ≡ cond (nat_lt r.worst (lag_of_reader t r)) (lag_of_reader t r) r.worst)
    × ((settled t r).worst_place ≡ cond (nat_lt r.worst (lag_of_reader t r)) t.last_send r.worst_place)
settled_parts t r = by_test (nat_lt r.worst (lag_of_reader t r)) where
  by_test : (b : Bool) → ((settled_by t r b).received ≡ r.received) × ((settled_by t r b).told ≡ r.told)
      × ((settled_by t r b).lost ≡ r.lost + lag_of_reader t r)
      × ((settled_by t r b).worst ≡ cond b (lag_of_reader t r) r.worst) × ((settled_by t r b).worst_place ≡ cond b t.last_send r.worst_place)
  by_test true = (refl, refl, refl, refl, refl)
  by_test false = (refl, refl, refl, refl, refl)

-- where these are the lag of a receiver at each place, and how many values it had received and how often it was told
module _ (lag : ℕ → Option ℕ) (received told : ℕ → ℕ) where
  abbrev pub lag_or_0 : ℕ → ℕ
  lag_or_0 place = unwrap_or (lag place) 0

  -- what is kept of a receiver at place n
  pub record Counted (n : ℕ) (t : BroadcastTally) (r : Reader) : Type 0 where
    pub there : (place : ℕ) × (place ≤ n) × IsSome (lag place)
    pub received_is : r.received ≡ received n
    pub told_is : r.told ≡ told n
    pub few_received : r.received ≤ n
    pub few_told : r.told ≤ n
    pub stands : Stands lag_or_0 n t.last_send r.lost r.worst r.worst_place (lag_of_reader t r)

  -- there has been no such receiver
  pub record Uncounted (n : ℕ) : Type 0 where
    pub absent : (place : ℕ) → place ≤ n → lag place ≡ None
    pub received_is : received n ≡ 0
    pub told_is : told n ≡ 0

  abbrev pub IsCounted : (n : ℕ) → BroadcastTally → Option Reader → Type 0
  IsCounted n t None = Uncounted n
  IsCounted n t (Some r) = Counted n t r

  -- the counts of entries stay as they are
  pub record IsIdle (n : ℕ) : Type 0 where
    pub received_is : received (n + 1) ≡ received n
    pub told_is : told (n + 1) ≡ told n

  absent_on : (n : ℕ) → ((place : ℕ) → place ≤ n → lag place ≡ None) → lag (n + 1) ≡ None → (place : ℕ) → place ≤ n + 1 → lag place ≡ None
  absent_on n absent none place within =
      elim (cases_lt place (n + 1)) [
        | inl inside ↦ absent place (omega (arith, inside))
        | inr past ↦ let here : n + 1 ≡ place = omega (arith, within, past) in subst (λ k. lag k ≡ None) here none
      ]

  still_uncounted : (n : ℕ) → IsIdle n → Uncounted n → lag (n + 1) ≡ None → Uncounted (n + 1)
  still_uncounted n idle is none = record {
    absent = absent_on n is.absent none;
    received_is = idle.received_is ∙ is.received_is;
    told_is = idle.told_is ∙ is.told_is;
  }

  there_on : (n : ℕ) → (place : ℕ) × (place ≤ n) × IsSome (lag place) → (place : ℕ) × (place ≤ n + 1) × IsSome (lag place)
  there_on n there = (there.0, omega (arith, there.1), there.2)

  -- a receiver for which nothing happens
  pub rests : (n : ℕ) (t u : BroadcastTally) (o : Option Reader) → IsSameOf t u → IsIdle n → lag (n + 1) ≡ lag n → IsCounted n t o → IsCounted (n + 1) u o
  rests n t u None same idle lag_is is = still_uncounted n idle is (lag_is ∙ is.absent n (omega arith))
  rests n t u (Some r) same idle lag_is is = record {
    there = there_on n is.there;
    received_is = is.received_is ∙ sym idle.received_is;
    told_is = is.told_is ∙ sym idle.told_is;
    few_received = omega (arith, is.few_received);
    few_told = omega (arith, is.few_told);
    stands = subst (λ now. Stands lag_or_0 (n + 1) u.last_send r.lost r.worst r.worst_place now) (sym (lag_from_same t u same r.position))
        (stays lag_or_0 n t.last_send r.lost r.worst r.worst_place (lag_of_reader t r) is.stands u.last_send (inl same.last_send)
        (ap (λ o. unwrap_or o 0) lag_is ∙ is.stands.now_is));
  }

  -- one more value was sent
  pub record IsSentTo (t u : BroadcastTally) (n : ℕ) : Type 0 where
    pub capacity : u.capacity ≡ t.capacity
    pub sent : u.sent ≡ t.sent + 1
    pub last_send : u.last_send ≡ n + 1

  pub is_sent : (n : ℕ) (t u : BroadcastTally) (o : Option Reader) → IsSentTo t u n → IsIdle n
      → ((r : Reader) → o ≡ Some r → lag (n + 1) ≡ option_map (λ p. oldest_of u - p) r.position) → (o ≡ None → lag (n + 1) ≡ None)
      → IsCounted n t o → IsCounted (n + 1) u o
  is_sent n t u None sent idle then none is = still_uncounted n idle is (none refl)
  is_sent n t u (Some r) sent idle then none is = record {
    there = there_on n is.there;
    received_is = is.received_is ∙ sym idle.received_is;
    told_is = is.told_is ∙ sym idle.told_is;
    few_received = omega (arith, is.few_received);
    few_told = omega (arith, is.few_told);
    stands = subst (λ step. Stands lag_or_0 (n + 1) step r.lost r.worst r.worst_place (lag_of_reader u r)) (sym sent.last_send)
        (by_position r.position refl is.stands);
  } where
    by_position : (o : Option ℕ) → r.position ≡ o → Stands lag_or_0 n t.last_send r.lost r.worst r.worst_place (lag_from t r.position)
        → Stands lag_or_0 (n + 1) (n + 1) r.lost r.worst r.worst_place (lag_from u r.position)
    by_position None at stands =
        let now_none : lag_from t r.position ≡ 0 = ap (lag_from t) at in
        let then_none : lag_from u r.position ≡ 0 = ap (lag_from u) at in
        let lag_none : lag_or_0 (n + 1) ≡ 0 = ap (λ o. unwrap_or o 0) (then r refl ∙ ap (λ o. option_map (λ p. oldest_of u - p) o) at) in
        subst (λ now. Stands lag_or_0 (n + 1) (n + 1) r.lost r.worst r.worst_place now) (now_none ∙ sym then_none)
        (stays lag_or_0 n t.last_send r.lost r.worst r.worst_place (lag_from t r.position) stands (n + 1) (inr now_none) (lag_none ∙ sym now_none))
    by_position (Some p) at stands =
        let now_is : lag_from t r.position ≡ oldest_of t - p = ap (lag_from t) at in
        let then_is : lag_from u r.position ≡ oldest_of u - p = ap (lag_from u) at in
        let lag_is : lag_or_0 (n + 1) ≡ oldest_of u - p = ap (λ o. unwrap_or o 0) (then r refl ∙ ap (λ o. option_map (λ p. oldest_of u - p) o) at) in
        elim (cases_lt 0 (oldest_of u - p)) [
          | inl lags ↦ let up : lag_or_0 (n + 1) ≡ lag_from t r.position + 1 = omega (arith, lag_is, now_is, lags, sent.sent, sent.capacity) in
              let then_up : lag_from t r.position + 1 ≡ lag_from u r.position = omega (arith, then_is, now_is, lags, sent.sent, sent.capacity) in
              subst (λ now. Stands lag_or_0 (n + 1) (n + 1) r.lost r.worst r.worst_place now) then_up
              (grows lag_or_0 n t.last_send r.lost r.worst r.worst_place (lag_from t r.position) stands up)
          | inr none ↦ let now_none : lag_from t r.position ≡ 0 = omega (arith, now_is, none, sent.sent, sent.capacity) in
              let same : lag_from t r.position ≡ lag_from u r.position = omega (arith, then_is, now_none, none) in
              let lag_none : lag_or_0 (n + 1) ≡ lag_from t r.position = omega (arith, lag_is, now_none, none) in
              subst (λ now. Stands lag_or_0 (n + 1) (n + 1) r.lost r.worst r.worst_place now) same
              (stays lag_or_0 n t.last_send r.lost r.worst r.worst_place (lag_from t r.position) stands (n + 1) (inr now_none) lag_none)
        ]

  -- it is made
  pub is_made : (n : ℕ) (u : BroadcastTally) → IsIdle n → lag (n + 1) ≡ Some (oldest_of u - u.sent) → Uncounted n → Counted (n + 1) u (new_reader u.sent)
  is_made n u idle lag_is is =
      let none : oldest_of u - u.sent ≡ 0 = omega arith in
      let now_none : lag_or_0 (n + 1) ≡ 0 = ap (λ o. unwrap_or o 0) lag_is ∙ none in
      record {
        there = (n + 1, omega arith, subst (λ o. IsSome o) (sym lag_is) refl);
        received_is = sym (idle.received_is ∙ is.received_is);
        told_is = sym (idle.told_is ∙ is.told_is);
        few_received = omega arith;
        few_told = omega arith;
        stands = subst (λ now. Stands lag_or_0 (n + 1) u.last_send 0 0 0 now) (sym none)
            (stands_first lag_or_0 (n + 1) (λ p below. elim (cases_lt p (n + 1)) [
              | inl inside ↦ ap (λ o. unwrap_or o 0) (is.absent p (omega (arith, inside)))
              | inr past ↦ let here : n + 1 ≡ p = omega (arith, below, past) in subst (λ k. lag_or_0 k ≡ 0) here now_none
            ]) u.last_send);
      }

  module _ (n : ℕ) (t u : BroadcastTally) (r : Reader) (same : IsSameOf t u) (is : Counted n t r) where
    -- it receives a value
    pub is_read : (p : ℕ) → r.position ≡ Some p → oldest_of t - p ≡ 0 → received (n + 1) ≡ received n + 1 → told (n + 1) ≡ told n → lag_or_0 (n + 1) ≡ 0
        → Counted (n + 1) u (after_value t r)
    is_read p at none more_received told_same lag_none =
        let next = λ (o : Option ℕ). option_map (λ position. cond (nat_lt position t.sent) (position + 1) position) o in
        let now_none : lag_of_reader t r ≡ 0 = ap (lag_from t) at ∙ none in
        let after_none : lag_from u (next r.position) ≡ 0 =
        ap (λ o. lag_from u (next o)) at ∙ lag_from_same t u same (Some (cond (nat_lt p t.sent) (p + 1) p)) ∙ by_test (nat_lt p t.sent) in
        record {
          there = there_on n is.there;
          received_is = ap (λ k. k + 1) is.received_is ∙ sym more_received;
          told_is = is.told_is ∙ sym told_same;
          few_received = omega (arith, is.few_received);
          few_told = omega (arith, is.few_told);
          stands = subst (λ now. Stands lag_or_0 (n + 1) u.last_send r.lost r.worst r.worst_place now) (now_none ∙ sym after_none)
              (stays lag_or_0 n t.last_send r.lost r.worst r.worst_place (lag_of_reader t r) is.stands u.last_send (inl same.last_send)
              (lag_none ∙ sym now_none));
        } where
          by_test : (b : Bool) → oldest_of t - cond b (p + 1) p ≡ 0
          by_test true = omega (arith, none)
          by_test false = none

    -- what it lagged is among its losses then
    falls_to : (position : Option ℕ) → lag_from u position ≡ 0 → lag_or_0 (n + 1) ≡ 0
        → Stands lag_or_0 (n + 1) u.last_send (settled t r).lost (settled t r).worst (settled t r).worst_place (lag_from u position)
    falls_to position none lag_none =
        let stands = falls lag_or_0 n t.last_send r.lost r.worst r.worst_place (lag_of_reader t r) is.stands u.last_send lag_none in
        subst (λ now. Stands lag_or_0 (n + 1) u.last_send (settled t r).lost (settled t r).worst (settled t r).worst_place now) (sym none)
        (subst (λ lost. Stands lag_or_0 (n + 1) u.last_send lost (settled t r).worst (settled t r).worst_place 0) (sym (settled_parts t r).2)
        (subst (λ worst. Stands lag_or_0 (n + 1) u.last_send (r.lost + lag_of_reader t r) worst (settled t r).worst_place 0) (sym (settled_parts t r).3)
        (subst (λ place. Stands lag_or_0 (n + 1) u.last_send (r.lost + lag_of_reader t r)
        (cond (nat_lt r.worst (lag_of_reader t r)) (lag_of_reader t r) r.worst) place 0) (sym (settled_parts t r).4) stands)))

    -- it is told that it lags
    pub is_told : received (n + 1) ≡ received n → told (n + 1) ≡ told n + 1 → lag_or_0 (n + 1) ≡ 0 → Counted (n + 1) u (after_lag t r)
    is_told received_same more_told lag_none =
        let parts = settled_parts t r in
        let none : lag_from u (Some (oldest_of t)) ≡ 0 = lag_from_same t u same (Some (oldest_of t)) ∙ omega arith in
        record {
          there = there_on n is.there;
          received_is = parts.0 ∙ is.received_is ∙ sym received_same;
          told_is = ap (λ k. k + 1) is.told_is ∙ sym more_told;
          few_received = omega (arith, parts.0, is.few_received);
          few_told = omega (arith, is.few_told);
          stands = falls_to (Some (oldest_of t)) none lag_none;
        }

    -- it is dropped
    pub is_dropped : IsIdle n → lag_or_0 (n + 1) ≡ 0 → Counted (n + 1) u (after_drop t r)
    is_dropped idle lag_none = let parts = settled_parts t r in record {
      there = there_on n is.there;
      received_is = parts.0 ∙ is.received_is ∙ sym idle.received_is;
      told_is = parts.1 ∙ is.told_is ∙ sym idle.told_is;
      few_received = omega (arith, parts.0, is.few_received);
      few_told = omega (arith, parts.1, is.few_told);
      stands = falls_to None refl lag_none;
    }
