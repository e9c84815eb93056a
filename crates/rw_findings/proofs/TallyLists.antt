-- The end of the pass that counts for each receiver: the list of the totals.
use Rattle.std.proofs.Common.{◌≡◌, ℕ, zero, suc, ◌-◌, ◌≤◌, List, [], length, take, inl, inr, refl, ap, sym, ◌∙◌, subst, cond}
use Rattle.std.specs.Prelude.{Option, Some, None, IsSome, slice_get, option_map, option_and_then, nat_lt}
use Rattle.std.specs.List.{Contains}
use Rattle.std.proofs.lemmas.Bool.{cases_lt}
use Rattle.std.proofs.lemmas.Option.{slice_get_past}
use Rattle.std.proofs.Math.Seq.{take-length}
use Rattle.rw_world.specs.Kinds.{broadcast_shown, watch_shown}
use Rattle.rw_world.specs.Machines.{ChanShown}
use Rattle.rw_world.specs.Specified.{WorldEntry}
use Rattle.rw_navigator.specs.Conditions.{lag_at, unread_at, as_broadcast}
use Rattle.rw_findings.specs.declared.totals.total.Counts.{Counts}
use Rattle.rw_findings.specs.declared.totals.total.Counts.TheVariants as counts
use Rattle.rw_findings.specs.declared.totals.total.Totals.{Totals}
use Rattle.rw_findings.specs.declared.totals.broadcast.Reader.{Reader}
use Rattle.rw_findings.specs.declared.totals.watch.Watcher.{Watcher}
use Rattle.rw_findings.specs.declared.totals.tally.Tally.{Tally}
use Rattle.rw_findings.specs.declared.totals.tally.Tally.TheVariants.{Broadcast, Watch}
use Rattle.rw_findings.specs.Totals.{receives, is_told, is_notified, looks, passes_at, count_on, IsGreatest, IsMissed, IsUnlooked, IsCount, lag_there}
use Rattle.rw_findings.specs.Totals.{mark_there}
use Rattle.rw_findings.specs.Totals.{version_there, AreCounts, AreBroadcastCounts, AreWatchCounts, WasThere, AreTotalsOf}
use Rattle.rw_findings.specs.BroadcastTallies as broadcast
use Rattle.rw_findings.specs.BroadcastTallies.{BroadcastTally}
use Rattle.rw_findings.specs.WatchTallies as watch
use Rattle.rw_findings.specs.WatchTallies.{WatchTally}
use Rattle.rw_findings.specs.Tallies.{made_in, counts_in, with_totals, with_receivers, with_channel, with_channels}
use Rattle.rw_findings.proofs.LossSteps.{position}
use Rattle.rw_findings.proofs.LossPasses.{lag_in_channel}
use Rattle.rw_findings.proofs.Listed.{IsListed, none_listed, skipped, pushed, next_channel}
use Rattle.rw_findings.proofs.Greatest.{settled_top}
use Rattle.rw_findings.proofs.BroadcastReaders.{settled_parts, Counted, Uncounted, IsCounted}
use Rattle.rw_findings.proofs.BroadcastTallying.{reader_position, position_is, get_or_past}
use Rattle.rw_findings.proofs.Watchers.{Watched, Unwatched, IsWatched, missed_count, unlooked_count}
use Rattle.rw_findings.proofs.TallyRuns.{IsKept, AreKept, mark_in_channel, version_in_channel, lag_on, received_on, told_on, notified_on, looked_on}

module _ {V : Type 0} (at : ℕ → List (ChanShown V)) (es : List (WorldEntry V)) where
  abbrev last : ℕ
  last = length es

  abbrev unread_in_channel : Option (ChanShown V) → ℕ → Option ℕ
  unread_in_channel o h = option_and_then (λ x. option_map (λ p. x.sent - p) (position x h)) (option_and_then as_broadcast o)

  -- ---- one receiver

  -- all entries are those up to the last place
  all_counted : (c : ℕ) (test : _) → count_on c test (take last es) ≡ count_on c test es
  all_counted c test = ap (λ fs. count_on c test fs) (take-length es)

  -- the counts of a receiver of a broadcast
  broadcast_counts : (c h : ℕ) (t : BroadcastTally) (r : Reader) → unread_at (at last) c h ≡ broadcast.unread_of_reader t r
      → Counted (lag_on at es c h) (received_on at es c h) (told_on at es c h) last t r
      → AreBroadcastCounts at es last c h (broadcast.counts_from t r)
  broadcast_counts c h t r unread is =
      let parts = settled_parts t r in
      record {
        there = is.there;
        received = parts.0 ∙ is.received_is ∙ all_counted c (receives h);
        told = parts.1 ∙ is.told_is ∙ all_counted c (is_told h);
        lost = parts.2 ∙ is.stands.lost_is;
        worst = subst (λ worst. IsGreatest (lag_there at c h) last worst (broadcast.settled t r).worst_place) (sym parts.3)
            (subst (λ place. IsGreatest (lag_there at c h) last (cond (nat_lt r.worst (broadcast.lag_of_reader t r)) (broadcast.lag_of_reader t r) r.worst)
            place) (sym parts.4)
            (settled_top (lag_there at c h) last t.last_send r.lost r.worst r.worst_place (broadcast.lag_of_reader t r) is.stands));
        unread = sym unread;
      }

  -- and of a watch
  watch_counts : (c h : ℕ) (t : WatchTally) (w : Watcher) → t.version ≡ version_there at c last
      → Watched (mark_there at c h) (version_there at c) (notified_on at es c h) (looked_on at es c h) last w
      → AreWatchCounts at es last c h (watch.counts_from t w)
  watch_counts c h t w version_is is = record {
    there = is.was_there;
    changes = is.changes_is ∙ all_counted c (is_notified h);
    missed = subst (λ v. IsCount (IsMissed (mark_there at c h) (version_there at c) last) (version_there at c last) (watch.unseen_at w.alive v w.marks))
        (sym version_is) (missed_count (mark_there at c h) (version_there at c) (notified_on at es c h) (looked_on at es c h) last w is);
    unlooked = subst (λ v. IsCount (IsUnlooked (mark_there at c h) (version_there at c) last (passes_at c (looks h) es)) (version_there at c last)
        (watch.unseen_at w.alive v w.looks)) (sym version_is)
        (unlooked_count (mark_there at c h) (version_there at c) (notified_on at es c h) (looked_on at es c h) last w is);
  }

  -- the counts that are found, or none where there never was such a receiver
  abbrev IsFound : (c h : ℕ) → Option Counts → Type 0
  IsFound c h None = WasThere at es last c h → ⊥
  IsFound c h (Some counts) = AreCounts at es last c h counts

  some_none : {A : Type 0} (o : Option A) → o ≡ None → IsSome o → ⊥
  some_none None none some = absurd cc
  some_none (Some a) none some = absurd cc

  nowhere : (c h : ℕ) → ((place : ℕ) → place ≤ last → lag_on at es c h place ≡ None) → ((place : ℕ) → place ≤ last → mark_there at c h place ≡ None)
      → WasThere at es last c h → ⊥
  nowhere c h no_lag no_mark (place, within, inl some) = some_none (lag_at (at place) c h) (no_lag place within) some
  nowhere c h no_lag no_mark (place, within, inr some) = some_none (mark_there at c h place) (no_mark place within) some

  found_in : (c h : ℕ) (o : Option (ChanShown V)) (t : Tally) → slice_get (at last) c ≡ o → IsKept at es c last o (Some t) → IsFound c h (counts_in t h)
  found_in c h (Some (broadcast_shown x)) (Broadcast t) here kept = by_reader (broadcast.reader_in t h) refl (kept.0.counted h) where
    by_reader : (o : Option Reader) → broadcast.reader_in t h ≡ o → IsCounted (lag_on at es c h) (received_on at es c h) (told_on at es c h) last t o
        → IsFound c h (option_map (λ r. counts.Broadcast (broadcast.counts_from t r)) o)
    by_reader None found is = nowhere c h is.absent (kept.1 h)
    by_reader (Some r) found is =
        let position_of_r : position x h ≡ r.position = sym (position_is x t last kept.0.tally h) ∙ ap reader_position found in
        let unread : unread_at (at last) c h ≡ broadcast.unread_of_reader t r =
        ap (λ o. unread_in_channel o h) here ∙ ap (λ o. option_map (λ p. x.sent - p) o) position_of_r
        ∙ ap (λ s. option_map (λ p. s - p) r.position) (sym kept.0.tally.sent) in
        broadcast_counts c h t r unread is
  found_in c h (Some (broadcast_shown x)) (Watch t) here kept = absurd kept
  found_in c h (Some (watch_shown y)) (Watch t) here kept = by_watcher (watch.watcher_in t h) (kept.0.watched h) where
    by_watcher : (o : Option Watcher) → IsWatched (mark_there at c h) (version_there at c) (notified_on at es c h) (looked_on at es c h) last o
        → IsFound c h (option_map (λ w. counts.Watch (watch.counts_from t w)) o)
    by_watcher None is = nowhere c h (kept.1 h) is.absent
    by_watcher (Some w) is = watch_counts c h t w (kept.0.tally.version ∙ sym (ap version_in_channel here)) is
  found_in c h (Some (watch_shown y)) (Broadcast t) here kept = absurd kept
  found_in c h None t here kept = absurd kept

  -- a handle that was never made
  not_made : (c h : ℕ) (o : Option (ChanShown V)) (t : Tally) → IsKept at es c last o (Some t) → made_in t ≤ h → WasThere at es last c h → ⊥
  not_made c h (Some (broadcast_shown x)) (Broadcast t) kept past =
      let nobody : broadcast.reader_in t h ≡ None = get_or_past t.readers h None past in
      let is : Uncounted (lag_on at es c h) (received_on at es c h) (told_on at es c h) last =
      subst (λ o. IsCounted (lag_on at es c h) (received_on at es c h) (told_on at es c h) last t o) nobody (kept.0.counted h) in
      nowhere c h is.absent (kept.1 h)
  not_made c h (Some (broadcast_shown x)) (Watch t) kept past = absurd kept
  not_made c h (Some (watch_shown y)) (Watch t) kept past =
      let nobody : watch.watcher_in t h ≡ None = get_or_past t.watchers h None past in
      let is : Unwatched (mark_there at c h) (version_there at c) (notified_on at es c h) (looked_on at es c h) last =
      subst (λ o. IsWatched (mark_there at c h) (version_there at c) (notified_on at es c h) (looked_on at es c h) last o) nobody (kept.0.watched h) in
      nowhere c h (kept.1 h) is.absent
  not_made c h (Some (watch_shown y)) (Broadcast t) kept past = absurd kept
  not_made c h None t kept past = absurd kept

  -- ---- the list

  abbrev channel_of : Totals → ℕ
  channel_of t = t.channel

  abbrev receiver_of : Totals → ℕ
  receiver_of t = t.receiver

  abbrev Fits : Totals → Type 0
  Fits t = AreCounts at es last t.channel t.receiver t.counts

  -- the list has the totals of all receivers before this one
  abbrev AreListed : (c h : ℕ) → List Totals → Type 0
  AreListed c h totals = IsListed channel_of receiver_of Fits (WasThere at es last) c h totals

  one_receiver : (c h : ℕ) (totals : List Totals) (o : Option Counts) → IsFound c h o → AreListed c h totals → AreListed c (suc h) (with_totals totals c h o)
  one_receiver c h totals None nobody is = skipped channel_of receiver_of Fits (WasThere at es last) c h totals nobody is
  one_receiver c h totals (Some counts) found is =
      pushed channel_of receiver_of Fits (WasThere at es last) c h totals (record { channel = c; receiver = h; counts = counts }) refl refl found is

  more_of : (c : ℕ) (o : Option (ChanShown V)) (t : Tally) (totals : List Totals) → slice_get (at last) c ≡ o → IsKept at es c last o (Some t)
      → AreListed c 0 totals → (h : ℕ) → AreListed c h (with_receivers totals t c h)
  more_of c o t totals here kept is zero = is
  more_of c o t totals here kept is (suc h) = one_receiver c h (with_receivers totals t c h) (counts_in t h) (found_in c h o t here kept)
      (more_of c o t totals here kept is h)

  -- ---- all channels

  module _ (ts : List Tally) (kept : AreKept at es last ts) (same_channels : (place c : ℕ) → slice_get (at last) c ≡ None → slice_get (at place) c ≡ None) where
    nobody_there : (c h : ℕ) → slice_get (at last) c ≡ None → WasThere at es last c h → ⊥
    nobody_there c h none = nowhere c h (λ place within. ap (λ o. lag_in_channel o h) (same_channels place c none))
        (λ place within. ap (λ o. mark_in_channel o h) (same_channels place c none))

    no_tally : (c : ℕ) (o : Option (ChanShown V)) → IsKept at es c last o None → o ≡ None
    no_tally c None kept = refl
    no_tally c (Some (broadcast_shown x)) kept = absurd kept
    no_tally c (Some (watch_shown y)) kept = absurd kept

    at_channel : (c : ℕ) (k : Option Tally) (totals : List Totals) → IsKept at es c last (slice_get (at last) c) k → AreListed c 0 totals
        → AreListed (suc c) 0 (with_channel totals k c)
    at_channel c (Some t) totals kept is =
        next_channel channel_of receiver_of Fits (WasThere at es last) c (made_in t) (with_receivers totals t c (made_in t))
        (λ h past. not_made c h (slice_get (at last) c) t kept past) (more_of c (slice_get (at last) c) t totals refl kept is (made_in t))
    at_channel c None totals kept is = next_channel channel_of receiver_of Fits (WasThere at es last) c 0 totals
        (λ h past. nobody_there c h (no_tally c (slice_get (at last) c) kept)) is

    more_channels : (c : ℕ) → AreListed c 0 (with_channels [] ts c)
    more_channels zero = none_listed channel_of receiver_of Fits (WasThere at es last)
    more_channels (suc c) = at_channel c (slice_get ts c) (with_channels [] ts c) (kept c) (more_channels c)

    -- the totals of all receivers
    pub all_totals : AreTotalsOf at es last (with_channels [] ts (length ts))
    all_totals =
        let is = more_channels (length ts) in
        record {
          each = is.each;
          all = λ channel receiver there.
              elim (cases_lt channel (length ts)) [
                | inl below ↦ let found = is.all channel receiver (inl below) there in (
                  found.0.counts,
                  subst (λ d. Contains (with_channels [] ts (length ts)) (record { channel = d; receiver = receiver; counts = found.0.counts })) found.2
                      (subst (λ g. Contains (with_channels [] ts (length ts)) (record { channel = found.0.channel; receiver = g; counts = found.0.counts }))
                      found.3 found.1),
                )
                | inr past ↦ absurd (nobody_there channel receiver
                    (no_tally channel (slice_get (at last) channel)
                    (subst (λ k. IsKept at es channel last (slice_get (at last) channel) k) (slice_get_past ts channel past) (kept channel))) there)
              ];
          ordered = is.ordered;
        }
