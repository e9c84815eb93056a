-- The pass that counts for each receiver, before the first entry.
use Rattle.std.proofs.Common.{◌≡◌, ℕ, zero, suc, ◌≤◌, List, refl, ap, sym, ◌∙◌, subst, arith}
use Rattle.std.specs.Prelude.{Option, Some, None, IsSome, unwrap_or, slice_get, option_map}
use Rattle.std.proofs.lemmas.Option.{slice_get-map}
use Rattle.rw_watch.specs.Record.{first_slots}
use Rattle.rw_world.specs.Machines.{ChanShown}
use Rattle.rw_world.specs.Openings.{opening_row, opened_channel}
use Rattle.rw_world.specs.Specified.{WorldEntry}
use Rattle.rw_world.specs.declared.opening.Spec.{Spec}
use Rattle.rw_world.specs.declared.opening.Spec.TheVariants as spec
use Rattle.rw_findings.specs.Totals.{mark_there, version_there}
use Rattle.rw_findings.specs.BroadcastTallies as broadcast
use Rattle.rw_findings.specs.WatchTallies as watch
use Rattle.rw_findings.specs.Tallies.{tally_of, opened_tallies}
use Rattle.rw_findings.proofs.LossPasses.{lag_in_channel}
use Rattle.rw_findings.proofs.Greatest.{Stands, stands_first}
use Rattle.rw_findings.proofs.BroadcastReaders.{lag_or_0, Uncounted, IsCounted}
use Rattle.rw_findings.proofs.WatchSteps.{IsOther}
use Rattle.rw_findings.proofs.Watchers.{Unwatched, IsWatched, is_new}
use Rattle.rw_findings.proofs.TallyRuns.{IsKept, AreKept, mark_in_channel, version_in_channel, lag_on, received_on, told_on, notified_on, looked_on}

module _ {V : Type 0} (at : ℕ → List (ChanShown V)) (es : List (WorldEntry V)) where
  at_0 : (P : ℕ → Type 0) → P 0 → (place : ℕ) → place ≤ 0 → P place
  at_0 P here place within = let same : 0 ≡ place = omega (arith, within) in subst P same here

  uncounted : (c h : ℕ) → lag_on at es c h 0 ≡ None → Uncounted (lag_on at es c h) (received_on at es c h) (told_on at es c h) 0
  uncounted c h nobody = record { absent = at_0 (λ place. lag_on at es c h place ≡ None) nobody; received_is = refl; told_is = refl }

  unwatched : (c h : ℕ) → mark_there at c h 0 ≡ None → Unwatched (mark_there at c h) (version_there at c) (notified_on at es c h) (looked_on at es c h) 0
  unwatched c h nobody = record { absent = at_0 (λ place. mark_there at c h place ≡ None) nobody; changes_is = refl }

  -- a channel at its opening
  opened_kept : (c : ℕ) (spec : Spec V) → slice_get (at 0) c ≡ Some (opened_channel spec) → IsKept at es c 0 (Some (opened_channel spec)) (Some (tally_of spec))
  opened_kept c (spec.Broadcast capacity) here = (
    record {
      tally = record { capacity = refl; sent = refl; few = omega arith; positions = refl };
      counted = counted;
    },
    λ h. at_0 (λ place. mark_there at c h place ≡ None) (ap (λ o. mark_in_channel o h) here),
  ) where
    counted : (h : ℕ) → IsCounted (lag_on at es c h) (received_on at es c h) (told_on at es c h) 0 (broadcast.opened_broadcast capacity)
        (broadcast.reader_in (broadcast.opened_broadcast capacity) h)
    counted zero = uncounted c zero (ap (λ o. lag_in_channel o zero) here)
    counted (suc zero) =
        let start : lag_on at es c 1 0 ≡ Some (broadcast.lag_of_reader (broadcast.opened_broadcast capacity) (broadcast.new_reader 0)) =
        ap (λ o. lag_in_channel o 1) here in
        let none : broadcast.lag_of_reader (broadcast.opened_broadcast capacity) (broadcast.new_reader 0) ≡ 0 = omega arith in
        let lag_none : lag_or_0 (lag_on at es c 1) (received_on at es c 1) (told_on at es c 1) 0 ≡ 0 = ap (λ o. unwrap_or o 0) start ∙ none in
        record {
          there = (0, omega arith, subst (λ o. IsSome o) (sym start) refl);
          received_is = refl;
          told_is = refl;
          few_received = omega arith;
          few_told = omega arith;
          stands = subst (λ now. Stands (lag_or_0 (lag_on at es c 1) (received_on at es c 1) (told_on at es c 1)) 0 0 0 0 0 now) (sym none)
              (stands_first (lag_or_0 (lag_on at es c 1) (received_on at es c 1) (told_on at es c 1)) 0
              (at_0 (λ place. lag_or_0 (lag_on at es c 1) (received_on at es c 1) (told_on at es c 1) place ≡ 0) lag_none) 0);
        }
    counted (suc (suc h)) = uncounted c (suc (suc h)) (ap (λ o. lag_in_channel o (suc (suc h))) here)
  opened_kept c (spec.Watch init) here = (
    record {
      tally = record { version = refl; few = omega arith; made = refl; others = others };
      rises = at_0 (λ place. version_there at c place ≤ version_there at c 0) (omega arith);
      watched = watched;
    },
    λ h. at_0 (λ place. lag_on at es c h place ≡ None) (ap (λ o. lag_in_channel o h) here),
  ) where
    -- its one sender
    others : (h : ℕ) → IsOther (slice_get first_slots h) → watch.watcher_in watch.opened_watch h ≡ None
    others zero other = refl
    others (suc zero) other = absurd other
    others (suc (suc h)) other = refl

    watched : (h : ℕ) → IsWatched (mark_there at c h) (version_there at c) (notified_on at es c h) (looked_on at es c h) 0
        (watch.watcher_in watch.opened_watch h)
    watched zero = unwatched c zero (ap (λ o. mark_in_channel o zero) here)
    watched (suc zero) =
        let start : mark_there at c 1 0 ≡ Some (Some 0) = ap (λ o. mark_in_channel o 1) here in
        let version_0 : version_there at c 0 ≡ 0 = ap version_in_channel here in
        subst (λ v. IsWatched (mark_there at c 1) (version_there at c) (notified_on at es c 1) (looked_on at es c 1) 0 (Some (watch.new_watcher v))) version_0
        (is_new (mark_there at c 1) (version_there at c) (notified_on at es c 1) (looked_on at es c 1) 0 (Some 0) start
        (λ v is. let e : 0 ≡ v = cc in omega (arith, e)) (at_0 (λ place. version_there at c place ≤ version_there at c 0) (omega arith))
        (λ place below. absurd (omega (arith, below))) refl)
    watched (suc (suc h)) = unwatched c (suc (suc h)) (ap (λ o. mark_in_channel o (suc (suc h))) here)

  pub first_kept : (specs : List (Spec V)) → at 0 ≡ opening_row specs → AreKept at es 0 (opened_tallies specs)
  first_kept specs opened c = by_spec (slice_get specs c) refl where
    by_spec : (o : Option (Spec V)) → slice_get specs c ≡ o → IsKept at es c 0 (slice_get (at 0) c) (slice_get (opened_tallies specs) c)
    by_spec (Some spec) found =
        let shown : slice_get (at 0) c ≡ Some (opened_channel spec) =
        ap (λ xs. slice_get xs c) opened ∙ slice_get-map opened_channel specs c ∙ ap (option_map opened_channel) found in
        let tally : slice_get (opened_tallies specs) c ≡ Some (tally_of spec) = slice_get-map tally_of specs c ∙ ap (option_map tally_of) found in
        subst (λ o. IsKept at es c 0 o (slice_get (opened_tallies specs) c)) (sym shown)
        (subst (λ k. IsKept at es c 0 (Some (opened_channel spec)) k) (sym tally) (opened_kept c spec shown))
    by_spec None found =
        let shown : slice_get (at 0) c ≡ None = ap (λ xs. slice_get xs c) opened ∙ slice_get-map opened_channel specs c
        ∙ ap (option_map opened_channel) found in
        let tally : slice_get (opened_tallies specs) c ≡ None = slice_get-map tally_of specs c ∙ ap (option_map tally_of) found in
        subst (λ o. IsKept at es c 0 o (slice_get (opened_tallies specs) c)) (sym shown) (subst (λ k. IsKept at es c 0 None k) (sym tally) tt)
