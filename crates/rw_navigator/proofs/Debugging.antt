-- A debugger moves as its visit does.
use Rattle.std.proofs.Common.{◌≡◌, ◌+◌, ◌-◌, ℕ, zero, suc, List, [], ◌∷◌, Bool, true, false, Option, Some, None, length, refl, sym, ap, ◌∙◌, subst}
use Rattle.std.specs.Prelude.{slice_get, IfSome, OnOk, OnErr, Result, Ok, Err}
use Rattle.std.proofs.Math.Seq.{take-length}
use Rattle.rw_journal.specs.Run.{Run}
use Rattle.rw_law.specs.declared.machine.Reversible.{Ghosts}
use Rattle.rw_law.specs.declared.journal.Entry.{Entry}
use Rattle.rw_law.specs.Journal.{after_all, after, IsLegal}
use Rattle.rw_world.specs.declared.opening.Spec.{Spec}
use Rattle.rw_world.specs.Machines.{ChanShown, of_world}
use Rattle.rw_world.specs.Openings.{opening_row}
use Rattle.rw_world.specs.Records.{IsDocumented, ShowsAtPlaces, RecordsAsDocumented}
use Rattle.rw_world.specs.Specified.{WorldEntry}
use Rattle.rw_navigator.specs.Debugger.{Visit, as_run, debugger_at, IsDebugger, StandsAt, WentTo}
use Rattle.rw_navigator.specs.Hits.{is_hit, hit_below, hit_above}
use Rattle.rw_navigator.specs.Navigator.{IsNavigator, MovedTo, start_of}
use Rattle.rw_navigator.specs.Places.{last_place}
use Rattle.rw_navigator.specs.Search.{hit, last_below, first_of_next, first_above}

-- equal tests find the same number
last_below-same : (t u : ℕ → Bool) → ((p : ℕ) → t p ≡ u p) → (n : ℕ) → last_below t n ≡ last_below u n
last_below-same t u same zero = refl
last_below-same t u same (suc p) = rw (same p, last_below-same t u same p) refl

first_of_next-same : (t u : ℕ → Bool) → ((p : ℕ) → t p ≡ u p) → (p n : ℕ) → first_of_next t p n ≡ first_of_next u p n
first_of_next-same t u same p zero = refl
first_of_next-same t u same p (suc n) = rw (same (p + 1), first_of_next-same t u same (p + 1) n) refl

module _ {V : Type 0} where
  -- a visit from the opening of the specs
  pub begun : ShowsAtPlaces V → RecordsAsDocumented V → (specs : List (Spec V)) (visit : Visit V) → start_of of_world visit ≡ opening_row specs
      → IsLegal of_world (opening_row specs) visit.entries
      → IsDebugger specs visit None
  begun shows recorded specs visit start legal = record {
    shows = λ n. ap (λ x. after of_world x visit.entries n) start ∙ shows specs visit.entries n;
    documented = recorded specs visit.entries legal;
    indexed = tt;
  }

  -- a visit to a run's entries that is at place p
  pub stands : ShowsAtPlaces V → (specs : List (Spec V)) (visit : Visit V) (run : Run V) (p : ℕ) → specs ≡ run.specs → visit.entries ≡ run.entries
      → visit.place ≡ p
      → (of_world {V = V}).shown visit.machine.state ≡ after of_world (opening_row run.specs) run.entries p → visit.machine.turns ≡ 0
      → StandsAt (debugger_at specs visit) run p
  stands shows specs visit run p same_specs same_entries place shown turns = record {
    run_is =
        ap (λ (s : List (Spec V)). as_run s visit.entries) same_specs ∙ ap (as_run run.specs) same_entries;
    place = place;
    shown = shown ∙ shows run.specs run.entries p;
    turns = turns;
  }

  -- after all entries a world is at the last place
  pub at_last_place : (run : Run V) → after_all of_world (opening_row run.specs) run.entries
      ≡ after of_world (opening_row run.specs) run.entries (last_place run)
  at_last_place run = ap (after_all of_world (opening_row run.specs)) (sym (take-length run.entries))

  module _ {kept : Option (List (WorldEntry V))} (specs : List (Spec V)) (v w : Visit V) (is : IsDebugger specs v kept) (p n : ℕ) where
    -- it is still a debugger, and went where the visit went
    pub still : MovedTo of_world v w p n → IsDebugger specs w kept
    still moved = record {
      shows = λ i. rw (moved.start, moved.entries) (is.shows i);
      documented = subst (λ es. IsDocumented specs es) (sym moved.entries) is.documented;
      indexed = subst (λ us. IfSome kept (λ es. es ≡ us)) (sym moved.entries) is.indexed;
    }

    pub went : MovedTo of_world v w p n → WentTo (debugger_at specs v) (debugger_at specs w) p n
    went moved = record {
      run = ap (as_run specs) moved.entries;
      place = moved.place;
      shown = moved.shows ∙ is.shows p;
      turns = moved.turns;
    }

    -- the same for a call that went there, or failed and left the visit unchanged
    module _ {A E : Type 0} where
      pub still_on : (r : Result A E) → OnOk r (MovedTo of_world v w p n) → OnErr r (w ≡ v) → IsDebugger specs w kept
      still_on (Ok a) moved left = still moved
      still_on (Err e) moved left = subst (λ x. IsDebugger specs x kept) (sym left) is

      pub went_on : (r : Result A E) → OnOk r (MovedTo of_world v w p n) → OnOk r (WentTo (debugger_at specs v) (debugger_at specs w) p n)
      went_on (Ok a) moved = went moved
      went_on (Err e) moved = tt

      pub left_on : (r : Result A E) → OnErr r (w ≡ v) → OnErr r (debugger_at specs w ≡ debugger_at specs v)
      left_on (Ok a) left = tt
      left_on (Err e) left = ap (debugger_at specs) left

  -- the hits of the visit are those of the run
  same_hits : {kept : Option (List (WorldEntry V))} (specs : List (Spec V)) (v : Visit V) → IsDebugger specs v kept
      → (on_step : Bool) (step : WorldEntry V → Bool) (state : List (ChanShown V) → Bool) (p : ℕ)
      → hit of_world on_step step state v p ≡ is_hit (debugger_at specs v).run on_step step state p
  same_hits specs v is true step state p = refl
  same_hits specs v is false step state p = rw (is.shows p, is.shows (p - 1)) refl

  pub found_below : {kept : Option (List (WorldEntry V))} (specs : List (Spec V)) (v : Visit V) → IsDebugger specs v kept
      → (on_step : Bool) (step : WorldEntry V → Bool) (state : List (ChanShown V) → Bool)
      → last_below (hit of_world on_step step state v) v.place ≡ hit_below (debugger_at specs v).run on_step step state v.place
  found_below specs v is on_step step state = last_below-same _ _ (same_hits specs v is on_step step state) v.place

  pub found_above : {kept : Option (List (WorldEntry V))} (specs : List (Spec V)) (v : Visit V) → IsDebugger specs v kept
      → (on_step : Bool) (step : WorldEntry V → Bool) (state : List (ChanShown V) → Bool)
      → first_above (hit of_world on_step step state v) v.place (length v.entries) ≡ hit_above (debugger_at specs v).run on_step step state v.place
  found_above specs v is on_step step state = first_of_next-same _ _ (same_hits specs v is on_step step state) v.place (length v.entries - v.place)

-- ---- recorded replies

module _ {M C R P : Type 0} (m : Ghosts M C R P) where
  -- the reply neither waits nor strays
  pub record IsRecorded (e : Entry M C R P) : Type 0 where
    pub no_wait : m.is_waiting e.reply ≡ false
    pub no_stray : m.is_straying e.reply ≡ false

  recorded_at : (x : m.View) (es : List (Entry M C R P)) (i : ℕ) → IsLegal m x es → IfSome (slice_get es i) IsRecorded
  recorded_at x [] i legal = tt
  recorded_at x (e ∷ es) zero legal = record { no_wait = legal.0.no_wait; no_stray = legal.0.no_stray }
  recorded_at x (e ∷ es) (suc i) legal = recorded_at (m.next x e.call) es i legal.1

-- an entry of a visit is recorded
pub recorded : {V : Type 0} {v : Visit V} → IsNavigator of_world v → (i : ℕ) (e : WorldEntry V) → Some e ≡ slice_get v.entries i → IsRecorded of_world e
recorded {v = v} is i e found = subst (λ o. IfSome o (IsRecorded of_world)) (sym found) (recorded_at of_world (start_of of_world v) v.entries i is.legal)
