-- The pass that counts for each receiver has room for its counts, and the run of its places.
use Rattle.std.proofs.Common.{◌≡◌, ℕ, zero, suc, ◌<◌, ◌≤◌, ◌^◌, List, [], ◌∷◌, length, refl, ap, sym, ◌∙◌, subst, arith}
use Rattle.std.specs.Prelude.{Option, Some, None, MatchOption, slice_get}
use Rattle.std.proofs.lemmas.Option.{slice_get_past}
use Rattle.rw_handles.specs.declared.table.TheConstants.{MOST_HANDLES}
use Rattle.rw_world.specs.declared.opening.TheConstants.{MOST_CHANNELS}
use Rattle.rw_world.specs.Kinds.{broadcast_shown, watch_shown}
use Rattle.rw_world.specs.Machines.{ChanShown, of_chan, of_world}
use Rattle.rw_world.specs.Specified.{WorldEntry}
use Rattle.rw_findings.specs.declared.totals.broadcast.Reader.{Reader}
use Rattle.rw_findings.specs.declared.totals.watch.Watcher.{Watcher}
use Rattle.rw_findings.specs.declared.totals.tally.Tally.{Tally}
use Rattle.rw_findings.specs.declared.totals.tally.Tally.TheVariants.{Broadcast, Watch}
use Rattle.rw_findings.specs.Totals.{mark_there, version_there}
use Rattle.rw_findings.specs.BroadcastTallies as broadcast
use Rattle.rw_findings.specs.WatchTallies as watch
use Rattle.rw_findings.specs.Tallies.{made_in, HasRoom, HaveRoom, HaveFewHandles}
use Rattle.rw_findings.proofs.LossEntries.{each_at}
use Rattle.rw_findings.proofs.BroadcastReaders.{IsCounted}
use Rattle.rw_findings.proofs.BroadcastTallying.{made_same}
use Rattle.rw_findings.proofs.Watchers.{IsWatched, few_marks, few_looks}
use Rattle.rw_findings.proofs.TallyRuns.{IsKept, AreKept, version_in_channel, lag_on, received_on, told_on, notified_on, looked_on}

-- what isn't there is past the end
pub past_end : {A : Type 0} (xs : List A) (i : ℕ) → slice_get xs i ≡ None → length xs ≤ i
past_end [] i none = omega arith
past_end (x ∷ xs) zero none = absurd cc
past_end (x ∷ xs) (suc i) none = omega (arith, past_end xs i none)

module _ {V : Type 0} (at : ℕ → List (ChanShown V)) (es : List (WorldEntry V)) (n : ℕ) (few : n < 2 ^ 60) where
  room_of : (c : ℕ) (o : Option (ChanShown V)) (t : Tally) → slice_get (at n) c ≡ o → IsKept at es c n o (Some t) → HasRoom t
  room_of c (Some (broadcast_shown x)) (Broadcast t) here kept = record {
    sent = omega (arith, kept.0.tally.few, few);
    readers = λ h r found. by_reader h r found (broadcast.reader_in t h) refl (kept.0.counted h);
  } where
    by_reader : (h : ℕ) (r : Reader) → broadcast.reader_in t h ≡ Some r → (o : Option Reader) → broadcast.reader_in t h ≡ o
        → IsCounted (lag_on at es c h) (received_on at es c h) (told_on at es c h) n t o → broadcast.HasRoomFor t r
    by_reader h r found None is counted = let e : None ≡ Some r = sym is ∙ found in absurd cc
    by_reader h r found (Some s) is counted =
        let same : s ≡ r = let e : Some s ≡ Some r = sym is ∙ found in cc in
        subst (λ q. broadcast.HasRoomFor t q) same (record {
          received = omega (arith, counted.few_received, few);
          told = omega (arith, counted.few_told, few);
          lost = omega (arith, counted.stands.small, few);
        })
  room_of c (Some (broadcast_shown x)) (Watch t) here kept = absurd kept
  room_of c (Some (watch_shown y)) (Watch t) here kept = record {
    version = omega (arith, kept.0.tally.few, few);
    watchers = λ h w found. by_watcher h w found (watch.watcher_in t h) refl (kept.0.watched h);
  } where
    version_is : t.version ≡ version_there at c n
    version_is = kept.0.tally.version ∙ sym (ap version_in_channel here)

    by_watcher : (h : ℕ) (w : Watcher) → watch.watcher_in t h ≡ Some w → (o : Option Watcher) → watch.watcher_in t h ≡ o
        → IsWatched (mark_there at c h) (version_there at c) (notified_on at es c h) (looked_on at es c h) n o → watch.HasRoomFor t w
    by_watcher h w found None is watched = let e : None ≡ Some w = sym is ∙ found in absurd cc
    by_watcher h w found (Some v) is watched =
        let same : v ≡ w = let e : Some v ≡ Some w = sym is ∙ found in cc in
        let marks = few_marks (mark_there at c h) (version_there at c) (notified_on at es c h) (looked_on at es c h) n v watched in
        let looks = few_looks (mark_there at c h) (version_there at c) (notified_on at es c h) (looked_on at es c h) n v watched in
        subst (λ q. watch.HasRoomFor t q) same (record {
          changes = omega (arith, watched.few_changes, few);
          marks = record { newest = omega (arith, marks.0, version_is); unseen = omega (arith, marks.0, marks.1, version_is, kept.0.tally.few, few) };
          looks = record { newest = omega (arith, looks.0, version_is); unseen = omega (arith, looks.0, looks.1, version_is, kept.0.tally.few, few) };
        })
  room_of c (Some (watch_shown y)) (Broadcast t) here kept = absurd kept
  room_of c None t here kept = absurd kept

  pub have_room : (ts : List Tally) → AreKept at es n ts → HaveRoom ts
  have_room ts kept c t there = room_of c (slice_get (at n) c) t refl (subst (λ k. IsKept at es c n (slice_get (at n) c) k) there (kept c))

  handles_of : (c : ℕ) (o : Option (ChanShown V)) (t : Tally) → MatchOption o (Unit {0}) (of_chan {V = V}).allowed → IsKept at es c n o (Some t)
      → made_in t ≤ MOST_HANDLES
  handles_of c (Some (broadcast_shown x)) (Broadcast t) ok kept = let few_slots : length x.slots ≤ MOST_HANDLES = ok.few_slots in
      omega (arith, made_same x t n kept.0.tally, few_slots)
  handles_of c (Some (broadcast_shown x)) (Watch t) ok kept = absurd kept
  handles_of c (Some (watch_shown y)) (Watch t) ok kept = let few_slots : length y.slots ≤ MOST_HANDLES = ok.few_slots in
      omega (arith, kept.0.tally.made, few_slots)
  handles_of c (Some (watch_shown y)) (Broadcast t) ok kept = absurd kept
  handles_of c None t ok kept = absurd kept

  pub few_handles : (ts : List Tally) → (of_world {V = V}).allowed (at n) → AreKept at es n ts → HaveFewHandles ts
  few_handles ts allowed kept c t there =
      handles_of c (slice_get (at n) c) t (each_at (of_chan {V = V}).allowed (at n) c allowed)
      (subst (λ k. IsKept at es c n (slice_get (at n) c) k) there (kept c))

  -- each tally is that of a channel
  pub few_tallies : (ts : List Tally) → length (at n) ≤ MOST_CHANNELS → AreKept at es n ts → length ts ≤ MOST_CHANNELS
  few_tallies ts channels kept = by_channel (slice_get (at n) (length (at n))) (slice_get ts (length (at n)))
      (slice_get_past (at n) (length (at n)) (omega arith)) refl (kept (length (at n))) where
        by_channel : (o : Option (ChanShown V)) (k : Option Tally) → o ≡ None → slice_get ts (length (at n)) ≡ k → IsKept at es (length (at n)) n o k
            → length ts ≤ MOST_CHANNELS
        by_channel None None none there kept = omega (arith, past_end ts (length (at n)) there, channels)
        by_channel None (Some t) none there kept = absurd kept
        by_channel (Some x) k none there kept = absurd cc
