-- One receiver of a watch from one place to the next, and what is kept of it.
use Rattle.std.proofs.Common.{◌≡◌, ℕ, ◌+◌, ◌<◌, ◌≤◌, Bool, true, false, inl, inr, refl, ap, sym, ◌∙◌, subst, arith}
use Rattle.std.specs.Prelude.{Option, Some, None, IsSome}
use Rattle.std.proofs.lemmas.Bool.{cases_lt}
use Rattle.rw_findings.specs.declared.totals.watch.Watcher.{Watcher}
use Rattle.rw_findings.specs.Totals.{Arrived, IsMissed, IsUnlooked, IsCount}
use Rattle.rw_findings.specs.WatchTallies.{new_watcher, after_look, after_mark, after_update, after_change, after_end, ended_sight, unseen_at}
use Rattle.rw_findings.proofs.CountsOfNumbers.{count_same}
use Rattle.rw_findings.proofs.Sights.{Rises, IsNext, IsUnseen, IsOpen, IsEnded, IsSightOf, IsSeenBefore, open_on, ended_on, begins, sees, unseen_count}
use Rattle.rw_findings.proofs.Sights.{ends, few_in}

-- where these are the mark of a receiver, the version, the count of changes and whether it looks at each place
module _ (mark : ℕ → Option (Option ℕ)) (version changes : ℕ → ℕ) (looked : ℕ → Bool) where
  -- this version is its mark
  abbrev pub Marks : (place v : ℕ) → Type 0
  Marks place v = mark place ≡ Some (Some v)

  -- the call that leads to this place looked at this version
  abbrev pub LookedAt : (place v : ℕ) → Type 0
  LookedAt place v = (p : ℕ) × (p + 1 ≡ place) × (looked p ≡ true) × (version p ≡ v)

  abbrev pub IsThere : ℕ → (alive : Bool) → Type 0
  IsThere n true = IsSome (mark n)
  IsThere n false = mark n ≡ None

  pub record Watched (n : ℕ) (w : Watcher) : Type 0 where
    pub was_there : (place : ℕ) × (place ≤ n) × IsSome (mark place)
    pub changes_is : w.changes ≡ changes n
    pub few_changes : w.changes ≤ n
    pub there : IsThere n w.alive
    pub marks : IsSightOf mark version Marks w.alive n w.marks
    pub looks : IsSightOf mark version LookedAt w.alive n w.looks

  pub record Unwatched (n : ℕ) : Type 0 where
    pub absent : (place : ℕ) → place ≤ n → mark place ≡ None
    pub changes_is : changes n ≡ 0

  abbrev pub IsWatched : ℕ → Option Watcher → Type 0
  IsWatched n None = Unwatched n
  IsWatched n (Some w) = Watched n w

  -- no change is told to it by the next call, which makes no look
  pub record IsIdle (n : ℕ) : Type 0 where
    pub changes_is : changes (n + 1) ≡ changes n
    pub no_look : looked n ≡ false

  -- ---- marks and looks at the next place

  some_none : (o : Option (Option ℕ)) → o ≡ None → IsSome o → ⊥
  some_none None none some = absurd cc
  some_none (Some m) none some = absurd cc

  some_is : (n : ℕ) (m : Option ℕ) → mark n ≡ Some m → IsSome (mark n)
  some_is n m is = subst (λ o. IsSome o) (sym is) refl

  same_mark : (n : ℕ) → mark (n + 1) ≡ mark n → IsSeenBefore mark version Marks n
  same_mark n same v seen = sym same ∙ seen

  no_mark : (n : ℕ) → mark (n + 1) ≡ None → IsSeenBefore mark version Marks n
  no_mark n gone v seen = let e : ◌≡◌ {A = Option (Option ℕ)} None (Some (Some v)) = sym gone ∙ seen in absurd cc

  unmarked : (n : ℕ) → mark (n + 1) ≡ Some None → IsSeenBefore mark version Marks n
  unmarked n there v seen = let e : ◌≡◌ {A = Option (Option ℕ)} (Some None) (Some (Some v)) = sym there ∙ seen in absurd cc

  marks_is : (n : ℕ) → mark (n + 1) ≡ Some (Some (version n)) → (v : ℕ) → Marks (n + 1) v → version n ≡ v
  marks_is n there v seen = let e : ◌≡◌ {A = Option (Option ℕ)} (Some (Some (version n))) (Some (Some v)) = sym there ∙ seen in cc

  no_look : (n : ℕ) → looked n ≡ false → IsSeenBefore mark version LookedAt n
  no_look n none v seen =
      let at : seen.0 ≡ n = omega (arith, seen.1) in
      let e : true ≡ false = sym seen.2 ∙ ap looked at ∙ none in absurd cc

  look_is : (n : ℕ) → (v : ℕ) → LookedAt (n + 1) v → version n ≡ v
  look_is n v seen = let at : n ≡ seen.0 = omega (arith, seen.1) in ap version at ∙ seen.3

  -- ---- one that is there

  absent_on : (n : ℕ) → ((place : ℕ) → place ≤ n → mark place ≡ None) → mark (n + 1) ≡ None → (place : ℕ) → place ≤ n + 1 → mark place ≡ None
  absent_on n absent none place within =
      elim (cases_lt place (n + 1)) [
        | inl inside ↦ absent place (omega (arith, inside))
        | inr past ↦ let here : n + 1 ≡ place = omega (arith, within, past) in subst (λ k. mark k ≡ None) here none
      ]

  there_on : (n : ℕ) → (place : ℕ) × (place ≤ n) × IsSome (mark place) → (place : ℕ) × (place ≤ n + 1) × IsSome (mark place)
  there_on n there = (there.0, omega (arith, there.1), there.2)

  -- a handle that never was a receiver
  pub stays_unwatched : (n : ℕ) → changes (n + 1) ≡ changes n → mark (n + 1) ≡ mark n → Unwatched n → Unwatched (n + 1)
  stays_unwatched n idle same is = record { absent = absent_on n is.absent (same ∙ is.absent n (omega arith)); changes_is = idle ∙ is.changes_is }

  -- a receiver with which nothing happens, while the version may rise
  pub rests : (n : ℕ) (o : Option Watcher) → Rises version n → IsIdle n → mark (n + 1) ≡ mark n → IsNext version n → IsWatched n o → IsWatched (n + 1) o
  rests n None rises idle same rise is = stays_unwatched n idle.changes_is same is
  rests n (Some w) rises idle same rise is =
      let on = by_alive w.alive is.there is.marks is.looks in
      record {
        was_there = there_on n is.was_there;
        changes_is = is.changes_is ∙ sym idle.changes_is;
        few_changes = omega (arith, is.few_changes);
        there = on.0;
        marks = on.1;
        looks = on.2;
      } where
        by_alive : (b : Bool) → IsThere n b → IsSightOf mark version Marks b n w.marks → IsSightOf mark version LookedAt b n w.looks
            → IsThere (n + 1) b × IsSightOf mark version Marks b (n + 1) w.marks × IsSightOf mark version LookedAt b (n + 1) w.looks
        by_alive true there marks looks = (
          subst (λ o. IsSome o) (sym same) there,
          open_on mark version Marks n w.marks (same_mark n same) there rise marks,
          open_on mark version LookedAt n w.looks (no_look n idle.no_look) there rise looks,
        )
        by_alive false gone marks looks = (
          same ∙ gone,
          ended_on mark version Marks n w.marks (same_mark n same) rises gone rise marks,
          ended_on mark version LookedAt n w.looks (no_look n idle.no_look) rises gone rise looks,
        )

  alive_at : (n : ℕ) (w : Watcher) (m : Option ℕ) → mark n ≡ Some m → Watched n w → w.alive ≡ true
  alive_at n w m here is = by_alive w.alive is.there where
    by_alive : (b : Bool) → IsThere n b → b ≡ true
    by_alive true there = refl
    by_alive false gone = let e : ◌≡◌ {A = Option (Option ℕ)} None (Some m) = sym gone ∙ here in absurd cc

  -- one that stays there
  stays : (n : ℕ) (w u : Watcher) (m : Option ℕ) → mark n ≡ Some m → IsSome (mark (n + 1)) → u.alive ≡ w.alive → u.changes ≡ changes (n + 1)
      → u.changes ≤ n + 1 → (IsOpen mark version Marks n w.marks → IsOpen mark version Marks (n + 1) u.marks)
      → (IsOpen mark version LookedAt n w.looks → IsOpen mark version LookedAt (n + 1) u.looks) → Watched n w → Watched (n + 1) u
  stays n w u m here there same changes_is few marks looks is =
      let alive : w.alive ≡ true = alive_at n w m here is in
      let still : u.alive ≡ true = same ∙ alive in
      record {
        was_there = there_on n is.was_there;
        changes_is = changes_is;
        few_changes = few;
        there = subst (λ b. IsThere (n + 1) b) (sym still) there;
        marks = subst (λ b. IsSightOf mark version Marks b (n + 1) u.marks) (sym still)
            (marks (subst (λ b. IsSightOf mark version Marks b n w.marks) alive is.marks));
        looks = subst (λ b. IsSightOf mark version LookedAt b (n + 1) u.looks) (sym still)
            (looks (subst (λ b. IsSightOf mark version LookedAt b n w.looks) alive is.looks));
      }

  module _ (n : ℕ) (w : Watcher) (m : Option ℕ) (here : mark n ≡ Some m) (same : version (n + 1) ≡ version n) (is : Watched n w) where
    there_now : IsSome (mark n)
    there_now = some_is n m here

    to_mark : mark (n + 1) ≡ Some (Some (version n)) → IsOpen mark version Marks n w.marks
        → IsOpen mark version Marks (n + 1) ((after_mark (version n) w).marks)
    to_mark there were = sees mark version Marks n w.marks there (marks_is n there) same were

    to_look : looked n ≡ true → IsOpen mark version LookedAt n w.looks → IsOpen mark version LookedAt (n + 1) ((after_look (version n) w).looks)
    to_look look were = sees mark version LookedAt n w.looks (n, refl, look, refl) (look_is n) same were

    keep_look : looked n ≡ false → IsOpen mark version LookedAt n w.looks → IsOpen mark version LookedAt (n + 1) w.looks
    keep_look none were = open_on mark version LookedAt n w.looks (no_look n none) there_now (inl same) were

    -- its mark is removed
    pub is_unmarked : IsIdle n → mark (n + 1) ≡ Some None → Watched (n + 1) w
    is_unmarked idle there =
        stays n w w m here (some_is (n + 1) None there) refl (is.changes_is ∙ sym idle.changes_is) (omega (arith, is.few_changes))
        (open_on mark version Marks n w.marks (unmarked n there) there_now (inl same)) (keep_look idle.no_look) is

    -- it looks at the value
    pub is_looked : changes (n + 1) ≡ changes n → looked n ≡ true → mark (n + 1) ≡ mark n → Watched (n + 1) (after_look (version n) w)
    is_looked idle look still =
        stays n w (after_look (version n) w) m here (some_is (n + 1) m (still ∙ here)) refl (is.changes_is ∙ sym idle) (omega (arith, is.few_changes))
        (open_on mark version Marks n w.marks (same_mark n still) there_now (inl same)) (to_look look) is

    -- it marks the value as seen
    pub is_marked : IsIdle n → mark (n + 1) ≡ Some (Some (version n)) → Watched (n + 1) (after_mark (version n) w)
    is_marked idle there =
        stays n w (after_mark (version n) w) m here (some_is (n + 1) (Some (version n)) there) refl (is.changes_is ∙ sym idle.changes_is)
        (omega (arith, is.few_changes)) (to_mark there) (keep_look idle.no_look) is

    -- it does both
    pub is_updated : changes (n + 1) ≡ changes n → looked n ≡ true → mark (n + 1) ≡ Some (Some (version n)) → Watched (n + 1) (after_update (version n) w)
    is_updated idle look there =
        stays n w (after_update (version n) w) m here (some_is (n + 1) (Some (version n)) there) refl (is.changes_is ∙ sym idle)
        (omega (arith, is.few_changes)) (to_mark there) (to_look look) is

    -- it is told of the change, which marks the value as seen
    pub is_changed : changes (n + 1) ≡ changes n + 1 → looked n ≡ false → mark (n + 1) ≡ Some (Some (version n)) → Watched (n + 1) (after_change (version n) w)
    is_changed more none there =
        stays n w (after_change (version n) w) m here (some_is (n + 1) (Some (version n)) there) refl (ap (λ k. k + 1) is.changes_is ∙ sym more)
        (omega (arith, is.few_changes)) (to_mark there) (keep_look none) is

    -- it is dropped
    pub is_ended : IsIdle n → mark (n + 1) ≡ None → Watched (n + 1) (after_end (version n) w)
    is_ended idle gone =
        let alive : w.alive ≡ true = alive_at n w m here is in
        record {
          was_there = there_on n is.was_there;
          changes_is = is.changes_is ∙ sym idle.changes_is;
          few_changes = omega (arith, is.few_changes);
          there = gone;
          marks = subst (λ b. IsEnded mark version Marks (n + 1) (ended_sight b (version n) w.marks)) (sym alive)
              (ends mark version Marks n w.marks (no_mark n gone) same (subst (λ b. IsSightOf mark version Marks b n w.marks) alive is.marks));
          looks = subst (λ b. IsEnded mark version LookedAt (n + 1) (ended_sight b (version n) w.looks)) (sym alive)
              (ends mark version LookedAt n w.looks (no_look n idle.no_look) same (subst (λ b. IsSightOf mark version LookedAt b n w.looks) alive is.looks));
        }

  -- ---- its first place

  -- a receiver to which nothing came and that has seen nothing newer is made
  pub is_new : (n : ℕ) (m : Option ℕ) → mark n ≡ Some m → ((v : ℕ) → m ≡ Some v → v ≤ version n) → Rises version n
      → ((place : ℕ) → place < n → mark place ≡ None) → changes n ≡ 0 → Watched n (new_watcher (version n))
  is_new n m there small rises absent none = record {
    was_there = (n, omega arith, some_is n m there);
    changes_is = sym none;
    few_changes = omega arith;
    there = some_is n m there;
    marks = begins mark version Marks n nothing (λ place v within seen.
        elim (cases_lt place n) [
          | inl inside ↦ let e : ◌≡◌ {A = Option (Option ℕ)} None (Some (Some v)) = sym (absent place inside) ∙ seen in absurd cc
          | inr past ↦ let at : place ≡ n = omega (arith, within, past) in
              let e : ◌≡◌ {A = Option (Option ℕ)} (Some m) (Some (Some v)) = sym there ∙ sym (ap (λ k. mark k) at) ∙ seen in
              let m_is : m ≡ Some v = cc in small v m_is
        ]);
    looks = begins mark version LookedAt n nothing (λ place v within seen. omega (arith, rises seen.0 (omega (arith, seen.1, within)), seen.3));
  } where
    nothing : (v : ℕ) → Arrived mark version n v → ⊥
    nothing v came = some_none (mark came.place) (absent came.place came.within) came.there

  -- a receiver is made
  pub is_made : (n : ℕ) (m : Option ℕ) → changes (n + 1) ≡ changes n → mark (n + 1) ≡ Some m → ((v : ℕ) → m ≡ Some v → v ≤ version (n + 1))
      → Rises version (n + 1) → Unwatched n → Watched (n + 1) (new_watcher (version (n + 1)))
  is_made n m idle there small rises is =
      is_new (n + 1) m there small rises (λ place inside. is.absent place (omega (arith, inside))) (idle ∙ is.changes_is)

  -- ---- what is counted

  pub missed_count : (n : ℕ) (w : Watcher) → Watched n w → IsCount (IsMissed mark version n) (version n) (unseen_at w.alive (version n) w.marks)
  missed_count n w is = unseen_count mark version Marks w.alive n w.marks is.marks

  pub unlooked_count : (n : ℕ) (w : Watcher) → Watched n w → IsCount (IsUnlooked mark version n looked) (version n) (unseen_at w.alive (version n) w.looks)
  unlooked_count n w is =
      count_same {P = IsUnseen mark version LookedAt n} {Q = IsUnlooked mark version n looked}
      (λ v below unseen. (unseen.0, λ place inside look same. unseen.1 (place + 1) (omega (arith, inside)) (place, refl, look, same)))
      (λ v below unlooked. (unlooked.0, λ place within seen. unlooked.1 seen.0 (omega (arith, seen.1, within)) seen.2 seen.3))
      (unseen_count mark version LookedAt w.alive n w.looks is.looks)

  -- there is room for more
  pub few_marks : (n : ℕ) (w : Watcher) → Watched n w → (w.marks.newest ≤ version n) × (w.marks.unseen ≤ version n)
  few_marks n w is = few_in mark version Marks w.alive n w.marks is.marks

  pub few_looks : (n : ℕ) (w : Watcher) → Watched n w → (w.looks.newest ≤ version n) × (w.looks.unseen ≤ version n)
  few_looks n w is = few_in mark version LookedAt w.alive n w.looks is.looks
