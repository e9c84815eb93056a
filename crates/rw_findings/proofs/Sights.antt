-- One way in which a receiver of a watch sees versions, from one place to the next, and what is kept of it.
use Rattle.std.proofs.Common.{◌≡◌, ℕ, ◌+◌, ◌-◌, ◌<◌, ◌≤◌, ◌⊎◌, Bool, true, false, cond, inl, inr, sym, ◌∙◌, subst, arith}
use Rattle.std.specs.Prelude.{Option, Some, None, IsSome}
use Rattle.std.proofs.lemmas.Bool.{cases_lt}
use Rattle.rw_findings.specs.declared.totals.sight.Sight.{Sight}
use Rattle.rw_findings.specs.Totals.{Arrived, IsCount}
use Rattle.rw_findings.specs.WatchTallies.{new_sight, after_sight, unseen_at, ended_sight}
use Rattle.rw_findings.proofs.Greatest.{lt_is, not_lt_is}
use Rattle.rw_findings.proofs.CountsOfNumbers.{count_same, count_none, count_all, count_other}

-- the version only rises
abbrev pub Rises : (version : ℕ → ℕ) → ℕ → Type 0
Rises version n = (place : ℕ) → place ≤ n → version place ≤ version n

-- it stays as it is, or rises by one
abbrev pub IsNext : (version : ℕ → ℕ) → ℕ → Type 0
IsNext version n = (version (n + 1) ≡ version n) ⊎ (version (n + 1) ≡ version n + 1)

-- where these are the mark of a receiver and the version at each place, and this says which versions are seen at which place
module _ (mark : ℕ → Option (Option ℕ)) (version : ℕ → ℕ) (Sees : (place v : ℕ) → Type 0) where
  -- a change that came, and was seen at no place up to this one
  abbrev pub IsUnseen : ℕ → ℕ → Type 0
  IsUnseen n v = Arrived mark version n v × ((place : ℕ) → place ≤ n → Sees place v → ⊥)

  -- what is kept of a receiver that is there: up to the newest version that it has seen, what it hasn't is counted
  pub record IsOpen (n : ℕ) (s : Sight) : Type 0 where
    pub settled : IsCount (IsUnseen n) s.newest s.unseen
    pub newest_is : IsUnseen n s.newest → ⊥
    pub came : (v : ℕ) → s.newest < v → v ≤ version n → Arrived mark version n v
    pub seen : (place v : ℕ) → place ≤ n → Sees place v → v ≤ s.newest
    pub few_newest : s.newest ≤ version n
    pub few_unseen : s.unseen ≤ s.newest

  -- and of one that was dropped
  pub record IsEnded (n : ℕ) (s : Sight) : Type 0 where
    pub settled : IsCount (IsUnseen n) (version n) s.unseen
    pub few_newest : s.newest ≤ version n
    pub few_unseen : s.unseen ≤ version n

  abbrev pub IsSightOf : (alive : Bool) → ℕ → Sight → Type 0
  IsSightOf true n s = IsOpen n s
  IsSightOf false n s = IsEnded n s

  -- what is seen at the next place was seen at this one
  abbrev pub IsSeenBefore : ℕ → Type 0
  IsSeenBefore n = (v : ℕ) → Sees (n + 1) v → Sees n v

  came_on : (n v : ℕ) → Arrived mark version n v → Arrived mark version (n + 1) v
  came_on n v is = record { place = is.place; within = omega (arith, is.within); there = is.there; before = is.before; after = is.after }

  came_back : (n v : ℕ) → v ≤ version n → Arrived mark version (n + 1) v → Arrived mark version n v
  came_back n v old is =
      elim (cases_lt is.place n) [
        | inl inside ↦ record { place = is.place; within = inside; there = is.there; before = is.before; after = is.after }
        | inr past ↦ let here : is.place ≡ n = omega (arith, is.within, past) in
            let below : version n < v = subst (λ k. version k < v) here is.before in absurd (omega (arith, below, old))
      ]

  unseen_on : (n v : ℕ) → (Sees (n + 1) v → IsUnseen n v → ⊥) → IsUnseen n v → IsUnseen (n + 1) v
  unseen_on n v apart is = (
    came_on n v is.0,
    λ place within seen.
        elim (cases_lt place (n + 1)) [
          | inl inside ↦ is.1 place (omega (arith, inside)) seen
          | inr past ↦ let here : place ≡ n + 1 = omega (arith, within, past) in apart (subst (λ k. Sees k v) here seen) is
        ],
  )

  unseen_back : (n v : ℕ) → v ≤ version n → IsUnseen (n + 1) v → IsUnseen n v
  unseen_back n v old is = (came_back n v old is.0, λ place within seen. is.1 place (omega (arith, within)) seen)

  -- what was settled is settled at the next place
  settled_on : (n m count : ℕ) → m ≤ version n → ((v : ℕ) → v ≤ m → Sees (n + 1) v → IsUnseen n v → ⊥) → IsCount (IsUnseen n) m count
      → IsCount (IsUnseen (n + 1)) m count
  settled_on n m count old apart is =
      count_same {P = IsUnseen n} {Q = IsUnseen (n + 1)} (λ v below. unseen_on n v (apart v below)) (λ v below. unseen_back n v (omega (arith, below, old))) is

  seen_apart : (n : ℕ) → IsSeenBefore n → (v : ℕ) → Sees (n + 1) v → IsUnseen n v → ⊥
  seen_apart n before v seen is = is.1 n (omega arith) (before v seen)

  -- a receiver that is there sees nothing new, while the version may rise
  pub open_on : (n : ℕ) (s : Sight) → IsSeenBefore n → IsSome (mark n) → IsNext version n → IsOpen n s → IsOpen (n + 1) s
  open_on n s before there rise is = record {
    settled = settled_on n s.newest s.unseen is.few_newest (λ v below. seen_apart n before v) is.settled;
    newest_is = λ unseen. is.newest_is (unseen_back n s.newest is.few_newest unseen);
    came = λ v above below.
        elim (cases_lt (version n) v) [
          | inl new ↦ record {
            place = n;
            within = omega arith;
            there = there;
            before = new;
            after = elim rise [ inl same ↦ absurd (omega (arith, same, new, below)) | inr up ↦ omega (arith, up, new, below) ];
          }
          | inr old ↦ came_on n v (is.came v above old)
        ];
    seen = λ place v within seen.
        elim (cases_lt place (n + 1)) [
          | inl inside ↦ is.seen place v (omega (arith, inside)) seen
          | inr past ↦ let here : place ≡ n + 1 = omega (arith, within, past) in is.seen n v (omega arith) (before v (subst (λ k. Sees k v) here seen))
        ];
    few_newest = elim rise [ inl same ↦ omega (arith, same, is.few_newest) | inr up ↦ omega (arith, up, is.few_newest) ];
    few_unseen = is.few_unseen;
  }

  -- nothing comes to one that was dropped
  never_came : (n v : ℕ) → Rises version n → mark n ≡ None → version n < v → Arrived mark version (n + 1) v → ⊥
  never_came n v rises gone new is =
      elim (cases_lt is.place n) [
        | inl inside ↦ omega (arith, rises (is.place + 1) (omega (arith, inside)), is.after, new)
        | inr past ↦ let here : is.place ≡ n = omega (arith, is.within, past) in some_none (mark n) gone (subst (λ k. IsSome (mark k)) here is.there)
      ] where
        some_none : (o : Option (Option ℕ)) → o ≡ None → IsSome o → ⊥
        some_none None none some = absurd cc
        some_none (Some m) none some = absurd cc

  pub ended_on : (n : ℕ) (s : Sight) → IsSeenBefore n → Rises version n → mark n ≡ None → IsNext version n → IsEnded n s → IsEnded (n + 1) s
  ended_on n s before rises gone rise is =
      let settled : IsCount (IsUnseen (n + 1)) (version n) s.unseen =
      settled_on n (version n) s.unseen (omega arith) (λ v below. seen_apart n before v) is.settled in
      record {
        settled = elim rise [
          | inl same ↦ subst (λ m. IsCount (IsUnseen (n + 1)) m s.unseen) (sym same) settled
          | inr up ↦ subst (λ m. IsCount (IsUnseen (n + 1)) m s.unseen) (sym up)
              (count_other settled (λ unseen. never_came n (version n + 1) rises gone (omega arith) unseen.0))
        ];
        few_newest = elim rise [ inl same ↦ omega (arith, same, is.few_newest) | inr up ↦ omega (arith, up, is.few_newest) ];
        few_unseen = elim rise [ inl same ↦ omega (arith, same, is.few_unseen) | inr up ↦ omega (arith, up, is.few_unseen) ];
      }

  -- a receiver is made, to which nothing came
  pub begins : (n : ℕ) → ((v : ℕ) → Arrived mark version n v → ⊥) → ((place v : ℕ) → place ≤ n → Sees place v → v ≤ version n)
      → IsOpen n (new_sight (version n))
  begins n nothing small = record {
    settled = count_none (λ v unseen. nothing v unseen.0) (version n);
    newest_is = λ unseen. nothing (version n) unseen.0;
    came = λ v above below. absurd (omega (arith, above, below));
    seen = small;
    few_newest = omega arith;
    few_unseen = omega arith;
  }

  -- it sees the value
  pub sees : (n : ℕ) (s : Sight) → Sees (n + 1) (version n) → ((v : ℕ) → Sees (n + 1) v → version n ≡ v) → version (n + 1) ≡ version n → IsOpen n s
      → IsOpen (n + 1) (after_sight (version n) s)
  sees n s here only same is =
      elim (cases_lt s.newest (version n)) [
        | inl new ↦ subst (λ b. IsOpen (n + 1) (cond b (record { newest = version n; unseen = s.unseen + (version n - s.newest - 1) }) s))
            (sym (lt_is s.newest (version n) new)) (record {
              settled = counted new;
              newest_is = λ unseen. unseen.1 (n + 1) (omega arith) here;
              came = λ v above below. absurd (omega (arith, above, below, same));
              seen = seen_now (version n) (omega arith) is.few_newest;
              few_newest = omega (arith, same);
              few_unseen = omega (arith, is.few_unseen, new);
            })
        | inr old ↦ let newest : s.newest ≡ version n = omega (arith, old, is.few_newest) in
            subst (λ b. IsOpen (n + 1) (cond b (record { newest = version n; unseen = s.unseen + (version n - s.newest - 1) }) s))
            (sym (not_lt_is s.newest (version n) old)) (record {
              settled = settled_on n s.newest s.unseen is.few_newest
                  (λ v below seen unseen. is.newest_is (subst (IsUnseen n) (sym (only v seen) ∙ sym newest) unseen)) is.settled;
              newest_is = λ unseen. unseen.1 (n + 1) (omega arith) (subst (Sees (n + 1)) (sym newest) here);
              came = λ v above below. absurd (omega (arith, above, below, same, newest));
              seen = seen_now s.newest (omega (arith, newest)) (omega arith);
              few_newest = omega (arith, same, newest);
              few_unseen = is.few_unseen;
            })
      ] where
        seen_now : (newest : ℕ) → version n ≤ newest → s.newest ≤ newest → (place v : ℕ) → place ≤ n + 1 → Sees place v → v ≤ newest
        seen_now newest fits more place v within seen =
            elim (cases_lt place (n + 1)) [
              | inl inside ↦ omega (arith, is.seen place v (omega (arith, inside)) seen, more)
              | inr past ↦ let at : place ≡ n + 1 = omega (arith, within, past) in omega (arith, only v (subst (λ k. Sees k v) at seen), fits)
            ]

        counted : s.newest < version n → IsCount (IsUnseen (n + 1)) (version n) (s.unseen + (version n - s.newest - 1))
        counted new =
            let below : IsCount (IsUnseen n) (version n - 1) (s.unseen + (version n - 1 - s.newest)) =
            count_all is.settled (version n - 1) (omega (arith, new))
            (λ v above under. (is.came v above (omega (arith, under, new)), λ place within seen. omega (arith, is.seen place v within seen, above))) in
            let on : IsCount (IsUnseen (n + 1)) (version n - 1) (s.unseen + (version n - 1 - s.newest)) =
            settled_on n (version n - 1) _ (omega arith) (λ v under seen unseen. omega (arith, only v seen, under, new)) below in
            let whole : version n - 1 + 1 ≡ version n = omega (arith, new) in
            let count : s.unseen + (version n - 1 - s.newest) ≡ s.unseen + (version n - s.newest - 1) = omega arith in
            subst (λ k. IsCount (IsUnseen (n + 1)) (version n) k) count
            (subst (λ m. IsCount (IsUnseen (n + 1)) m (s.unseen + (version n - 1 - s.newest))) whole
            (count_other on (λ unseen. unseen.1 (n + 1) (omega arith) (subst (Sees (n + 1)) (sym whole) here))))

  -- what one that is there hasn't seen
  open_count : (n : ℕ) (s : Sight) → IsOpen n s → IsCount (IsUnseen n) (version n) (s.unseen + (version n - s.newest))
  open_count n s is =
      count_all is.settled (version n) is.few_newest
      (λ v above under. (is.came v above under, λ place within seen. omega (arith, is.seen place v within seen, above)))

  pub unseen_count : (alive : Bool) (n : ℕ) (s : Sight) → IsSightOf alive n s → IsCount (IsUnseen n) (version n) (unseen_at alive (version n) s)
  unseen_count true n s is = open_count n s is
  unseen_count false n s is = is.settled

  -- its receiver is dropped
  pub ends : (n : ℕ) (s : Sight) → IsSeenBefore n → version (n + 1) ≡ version n → IsOpen n s → IsEnded (n + 1) (ended_sight true (version n) s)
  ends n s before same is = record {
    settled = subst (λ m. IsCount (IsUnseen (n + 1)) m (s.unseen + (version n - s.newest))) (sym same)
        (settled_on n (version n) _ (omega arith) (λ v below. seen_apart n before v) (open_count n s is));
    few_newest = omega (arith, same, is.few_newest);
    few_unseen = omega (arith, same, is.few_unseen, is.few_newest);
  }

  -- there is room for more
  pub few_in : (alive : Bool) (n : ℕ) (s : Sight) → IsSightOf alive n s → (s.newest ≤ version n) × (s.unseen ≤ version n)
  few_in true n s is = (is.few_newest, omega (arith, is.few_unseen, is.few_newest))
  few_in false n s is = (is.few_newest, is.few_unseen)
