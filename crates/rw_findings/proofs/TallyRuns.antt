-- The pass that counts for each receiver, over a run: its beginning and its entries.
use Rattle.std.proofs.Common.{◌≡◌, ◌≢◌, ℕ, ◌+◌, ◌<◌, ◌≤◌, Bool, true, false, cond, List, length, get_or, take, inl, inr, refl, ap, sym, ◌∙◌, subst, arith}
use Rattle.std.specs.Prelude.{Option, Some, None, MatchOption, unwrap_or, slice_get, option_map, option_and_then, nat_eq, ◌&&◌, count_by}
use Rattle.std.proofs.lemmas.Bool.{cases_lt}
use Rattle.std.proofs.lemmas.Option.{slice_get_read}
use Rattle.std.proofs.lemmas.List.Sums.{count_by_more_yes, count_by_more_no}
use Rattle.rw_broadcast.specs.Channel.{effect as broadcast_effect}
use Rattle.rw_broadcast.specs.Shown.{channel_of}
use Rattle.rw_watch.specs.Channel.{effect as watch_effect}
use Rattle.rw_watch.specs.Machine.{mark_at}
use Rattle.rw_world.specs.Kinds.{broadcast_shown, watch_shown}
use Rattle.rw_world.specs.Machines.{ChanShown, of_chan, of_world}
use Rattle.rw_world.specs.Specified.{WorldEntry}
use Rattle.rw_world.specs.declared.channels.ChanCall.{ChanCall}
use Rattle.rw_world.specs.declared.channels.ChanCall.TheVariants as call_of
use Rattle.rw_world.specs.declared.channels.ChanReply.{ChanReply}
use Rattle.rw_world.proofs.Modifying.{get-modified_other}
use Rattle.rw_navigator.specs.Conditions.{has, lag_at, as_watch}
use Rattle.rw_findings.specs.Totals.{receives, is_told, is_notified, looks, passes_at, count_on, mark_there, version_there}
use Rattle.rw_findings.specs.Tallies.{with_reply, with_entry}
use Rattle.rw_findings.specs.declared.totals.tally.Tally.{Tally}
use Rattle.rw_findings.specs.declared.totals.tally.Tally.TheVariants.{Broadcast, Watch}
use Rattle.rw_findings.proofs.LossPasses.{lag_in_channel, shown_then, reply_to}
use Rattle.rw_findings.proofs.LossEntries.{get-modified, each_at}
use Rattle.rw_findings.proofs.BroadcastSteps as broadcast
use Rattle.rw_findings.proofs.BroadcastReaders as readers
use Rattle.rw_findings.proofs.BroadcastTallying.{AreCounted, counted_on, same_or_apart, eq_is, eq_not}
use Rattle.rw_findings.proofs.WatchSteps as watch
use Rattle.rw_findings.proofs.Watchers as watchers
use Rattle.rw_findings.proofs.WatchTallying.{AreWatched, watched_on}

module _ {V : Type 0} where
  -- the mark of a receiver of a channel, and the version of the channel
  abbrev pub mark_in_channel : Option (ChanShown V) → ℕ → Option (Option ℕ)
  mark_in_channel o h = option_and_then (λ y. mark_at (slice_get y.slots h)) (option_and_then as_watch o)

  abbrev pub version_in_channel : Option (ChanShown V) → ℕ
  version_in_channel o = unwrap_or (option_map (λ y. y.version) (option_and_then as_watch o)) 0

  -- one entry more, in a count
  pub count_next : (c n : ℕ) (test : ChanCall V → ChanReply V → Bool) (es : List (WorldEntry V)) (e : WorldEntry V) → n < length es → e ≡ get_or es n e
      → count_on c test (take (n + 1) es) ≡ cond (nat_eq e.call.channel c && test e.call.call e.reply) (count_on c test (take n es) + 1)
      (count_on c test (take n es))
  count_next c n test es e within read = by_test (passes e) refl where
    passes : WorldEntry V → Bool
    passes f = nat_eq f.call.channel c && test f.call.call f.reply

    by_test : (b : Bool) → passes e ≡ b → count_by passes (take (n + 1) es) ≡ cond b (count_by passes (take n es) + 1) (count_by passes (take n es))
    by_test true is = count_by_more_yes passes es n e within (ap passes (sym read) ∙ is)
    by_test false is = count_by_more_no passes es n e within (ap passes (sym read) ∙ is)

  -- what the entry of a place passes
  pub passes_next : (c n : ℕ) (test : ChanCall V → ChanReply V → Bool) (es : List (WorldEntry V)) (e : WorldEntry V) → n < length es → e ≡ get_or es n e
      → passes_at c test es n ≡ (nat_eq e.call.channel c && test e.call.call e.reply)
  passes_next c n test es e within read =
      ap (λ o. has (λ (f : WorldEntry V). nat_eq f.call.channel c && test f.call.call f.reply) o) (slice_get_read es (length es) n e refl within read)

  -- where this is shown at each place, and these are the entries
  module _ (at : ℕ → List (ChanShown V)) (es : List (WorldEntry V)) where
    abbrev pub lag_on : (channel receiver place : ℕ) → Option ℕ
    lag_on c h place = lag_at (at place) c h

    abbrev pub received_on : (channel receiver place : ℕ) → ℕ
    received_on c h place = count_on c (receives h) (take place es)

    abbrev pub told_on : (channel receiver place : ℕ) → ℕ
    told_on c h place = count_on c (is_told h) (take place es)

    abbrev pub notified_on : (channel receiver place : ℕ) → ℕ
    notified_on c h place = count_on c (is_notified h) (take place es)

    abbrev pub looked_on : (channel receiver place : ℕ) → Bool
    looked_on c h place = passes_at c (looks h) es place

    -- what is kept of channel c at place n, if it is there
    abbrev pub IsKept : (c n : ℕ) → Option (ChanShown V) → Option Tally → Type 0
    IsKept c n (Some (broadcast_shown x)) (Some (Broadcast t)) =
        AreCounted (lag_on c) (received_on c) (told_on c) n x t × ((h place : ℕ) → place ≤ n → mark_there at c h place ≡ None)
    IsKept c n (Some (watch_shown y)) (Some (Watch t)) =
        AreWatched (mark_there at c) (version_there at c) (notified_on c) (looked_on c) n y t × ((h place : ℕ) → place ≤ n → lag_on c h place ≡ None)
    IsKept c n None None = Unit {0}
    IsKept c n _ _ = ⊥

    abbrev pub AreKept : ℕ → List Tally → Type 0
    AreKept n ts = (c : ℕ) → IsKept c n (slice_get (at n) c) (slice_get ts c)

    below_next : (P : ℕ → Type 0) (n : ℕ) → ((place : ℕ) → place ≤ n → P place) → P (n + 1) → (place : ℕ) → place ≤ n + 1 → P place
    below_next P n before here place within =
        elim (cases_lt place (n + 1)) [
          | inl inside ↦ before place (omega (arith, inside))
          | inr past ↦ let same : n + 1 ≡ place = omega (arith, within, past) in subst P same here
        ]

    -- no entry of the channel counts
    pub record AreIdle (c n : ℕ) : Type 0 where
      pub received_is : (h : ℕ) → received_on c h (n + 1) ≡ received_on c h n
      pub told_is : (h : ℕ) → told_on c h (n + 1) ≡ told_on c h n
      pub notified_is : (h : ℕ) → notified_on c h (n + 1) ≡ notified_on c h n
      pub looked_is : (h : ℕ) → looked_on c h n ≡ false

    -- a channel that stays as it is
    idle_kept : (c n : ℕ) (o : Option (ChanShown V)) (k : Option Tally) → slice_get (at n) c ≡ o → slice_get (at (n + 1)) c ≡ o → AreIdle c n → IsKept c n o k
        → IsKept c (n + 1) o k
    idle_kept c n (Some (broadcast_shown x)) (Some (Broadcast t)) now then idle kept = (
      record {
        tally = record {
          capacity = kept.0.tally.capacity;
          sent = kept.0.tally.sent;
          few = omega (arith, kept.0.tally.few);
          positions = kept.0.tally.positions;
        };
        counted = λ h. readers.rests (lag_on c h) (received_on c h) (told_on c h) n t t _ (record { capacity = refl; sent = refl; last_send = refl })
            (record { received_is = idle.received_is h; told_is = idle.told_is h }) (ap (λ o. lag_in_channel o h) (then ∙ sym now)) (kept.0.counted h);
      },
      λ h. below_next (λ place. mark_there at c h place ≡ None) n (kept.1 h) (ap (λ o. mark_in_channel o h) then),
    )
    idle_kept c n (Some (broadcast_shown x)) (Some (Watch t)) now then idle kept = absurd kept
    idle_kept c n (Some (broadcast_shown x)) None now then idle kept = absurd kept
    idle_kept c n (Some (watch_shown y)) (Some (Watch t)) now then idle kept =
        let same : version_there at c (n + 1) ≡ version_there at c n = ap version_in_channel (then ∙ sym now) in (
          record {
            tally = record {
              version = kept.0.tally.version;
              few = omega (arith, kept.0.tally.few);
              made = kept.0.tally.made;
              others = kept.0.tally.others;
            };
            rises = below_next (λ place. version_there at c place ≤ version_there at c (n + 1)) n
                (λ place within. omega (arith, kept.0.rises place within, same)) (omega arith);
            watched = λ h. watchers.rests (mark_there at c h) (version_there at c) (notified_on c h) (looked_on c h) n _ kept.0.rises
                (record { changes_is = idle.notified_is h; no_look = idle.looked_is h })
                (ap (λ o. mark_in_channel o h) (then ∙ sym now)) (inl same) (kept.0.watched h);
          },
          λ h. below_next (λ place. lag_on c h place ≡ None) n (kept.1 h) (ap (λ o. lag_in_channel o h) then),
        )
    idle_kept c n (Some (watch_shown y)) (Some (Broadcast t)) now then idle kept = absurd kept
    idle_kept c n (Some (watch_shown y)) None now then idle kept = absurd kept
    idle_kept c n None (Some k) now then idle kept = absurd kept
    idle_kept c n None None now then idle kept = tt

    -- the counts of a channel's entry
    pub record AreCountsOf (c n : ℕ) (call : ChanCall V) (reply : ChanReply V) : Type 0 where
      pub received_is : (h : ℕ) → received_on c h (n + 1) ≡ cond (receives h call reply) (received_on c h n + 1) (received_on c h n)
      pub told_is : (h : ℕ) → told_on c h (n + 1) ≡ cond (is_told h call reply) (told_on c h n + 1) (told_on c h n)
      pub notified_is : (h : ℕ) → notified_on c h (n + 1) ≡ cond (is_notified h call reply) (notified_on c h n + 1) (notified_on c h n)
      pub looked_is : (h : ℕ) → looked_on c h n ≡ looks h call reply

    -- the channel of the entry
    step_kept : (c n : ℕ) (o : Option (ChanShown V)) (k : Option Tally) (call : ChanCall V) → slice_get (at n) c ≡ o
        → slice_get (at (n + 1)) c ≡ shown_then o call → MatchOption o (Unit {0}) (of_chan {V = V}).allowed
        → AreCountsOf c n call (reply_to o call) → IsKept c n o k
        → IsKept c (n + 1) (shown_then o call) (option_map (λ t. with_reply t call (reply_to o call) (n + 1)) k)
    step_kept c n (Some (broadcast_shown x)) (Some (Broadcast t)) (call_of.B call) now then ok counts kept =
        let e = broadcast_effect (channel_of x) call in (
          counted_on (lag_on c) (received_on c) (told_on c) n x t call e.0 e.1 kept.0 (λ h. ap (λ o. lag_in_channel o h) now) (broadcast.steps x ok call)
              counts.received_is counts.told_is (λ h. ap (λ o. lag_in_channel o h) then),
          λ h. below_next (λ place. mark_there at c h place ≡ None) n (kept.1 h) (ap (λ o. mark_in_channel o h) then),
        )
    step_kept c n (Some (broadcast_shown x)) (Some (Broadcast t)) (call_of.W call) now then ok counts kept =
        idle_kept c n (Some (broadcast_shown x)) (Some (Broadcast t)) now then
        (record {
          received_is = counts.received_is;
          told_is = counts.told_is;
          notified_is = counts.notified_is;
          looked_is = counts.looked_is;
        }) kept
    step_kept c n (Some (broadcast_shown x)) (Some (Watch t)) call now then ok counts kept = absurd kept
    step_kept c n (Some (broadcast_shown x)) None call now then ok counts kept = absurd kept
    step_kept c n (Some (watch_shown y)) (Some (Watch t)) (call_of.W call) now then ok counts kept =
        let e = watch_effect y call in (
          watched_on (mark_there at c) (version_there at c) (notified_on c) (looked_on c) n y t call e.0 e.1 kept.0
              (record { marks = λ h. ap (λ o. mark_in_channel o h) now; version_is = ap version_in_channel now }) (watch.steps y ok call)
              (record { changes_is = counts.notified_is; look_is = counts.looked_is })
              (record { marks = λ h. ap (λ o. mark_in_channel o h) then; version_is = ap version_in_channel then }),
          λ h. below_next (λ place. lag_on c h place ≡ None) n (kept.1 h) (ap (λ o. lag_in_channel o h) then),
        )
    step_kept c n (Some (watch_shown y)) (Some (Watch t)) (call_of.B call) now then ok counts kept =
        idle_kept c n (Some (watch_shown y)) (Some (Watch t)) now then
        (record {
          received_is = counts.received_is;
          told_is = counts.told_is;
          notified_is = counts.notified_is;
          looked_is = counts.looked_is;
        }) kept
    step_kept c n (Some (watch_shown y)) (Some (Broadcast t)) call now then ok counts kept = absurd kept
    step_kept c n (Some (watch_shown y)) None call now then ok counts kept = absurd kept
    step_kept c n None (Some k) call now then ok counts kept = absurd kept
    step_kept c n None None call now then ok counts kept = tt

    -- ---- an entry

    pub kept_on : (n : ℕ) (e : WorldEntry V) (ts : List Tally) → n < length es → e ≡ get_or es n e → (of_world {V = V}).allowed (at n)
        → at (n + 1) ≡ (of_world {V = V}).next (at n) e.call
        → e.reply ≡ (of_world {V = V}).reply_of (at n) e.call → AreKept n ts → AreKept (n + 1) (with_entry ts e (n + 1))
    kept_on n e ts within read allowed next reply_is kept c =
        elim (same_or_apart e.call.channel c) [
          | inl same ↦ subst (λ k. IsKept k (n + 1) (slice_get (at (n + 1)) k) (slice_get (with_entry ts e (n + 1)) k)) same own
          | inr apart ↦ other c apart
        ] where
          step_of : ChanShown V → ChanShown V
          step_of x = (of_chan {V = V}).next x e.call.call

          own : IsKept e.call.channel (n + 1) (slice_get (at (n + 1)) e.call.channel) (slice_get (with_entry ts e (n + 1)) e.call.channel)
          own =
              let k = e.call.channel in
              let shown : slice_get (at (n + 1)) k ≡ shown_then (slice_get (at n) k) e.call.call =
              ap (λ xs. slice_get xs k) next ∙ get-modified step_of (at n) k in
              let tally : slice_get (with_entry ts e (n + 1)) k
              ≡ option_map (λ t. with_reply t e.call.call (reply_to (slice_get (at n) k) e.call.call) (n + 1)) (slice_get ts k) =
              get-modified (λ t. with_reply t e.call.call e.reply (n + 1)) ts k
              ∙ ap (λ r. option_map (λ t. with_reply t e.call.call r (n + 1)) (slice_get ts k)) reply_is in
              let test_is : nat_eq k k ≡ true = eq_is k k refl in
              let counted = λ (test : ChanCall V → ChanReply V → Bool). let step : count_on k test (take (n + 1) es)
              ≡ cond (nat_eq k k && test e.call.call e.reply) (count_on k test (take n es) + 1) (count_on k test (take n es)) =
              count_next k n test es e within read in
              step ∙ ap (λ b. cond (b && test e.call.call e.reply) (count_on k test (take n es) + 1) (count_on k test (take n es))) test_is
              ∙ ap (λ r. cond (test e.call.call r) (count_on k test (take n es) + 1) (count_on k test (take n es))) reply_is in
              subst (λ o. IsKept k (n + 1) o (slice_get (with_entry ts e (n + 1)) k)) (sym shown)
              (subst (λ o. IsKept k (n + 1) (shown_then (slice_get (at n) k) e.call.call) o) (sym tally)
              (step_kept k n (slice_get (at n) k) (slice_get ts k) e.call.call refl shown (each_at (of_chan {V = V}).allowed (at n) k allowed)
              (record {
                received_is = λ h. counted (receives h);
                told_is = λ h. counted (is_told h);
                notified_is = λ h. counted (is_notified h);
                looked_is = λ h. passes_next k n (looks h) es e within read ∙ ap (λ b. b && looks h e.call.call e.reply) test_is
                    ∙ ap (λ r. looks h e.call.call r) reply_is;
              }) (kept k)))

          other : (c : ℕ) → e.call.channel ≢ c → IsKept c (n + 1) (slice_get (at (n + 1)) c) (slice_get (with_entry ts e (n + 1)) c)
          other c apart =
              let shown : slice_get (at (n + 1)) c ≡ slice_get (at n) c =
              ap (λ xs. slice_get xs c) next ∙ get-modified_other step_of (at n) e.call.channel c apart in
              let tally : slice_get (with_entry ts e (n + 1)) c ≡ slice_get ts c =
              get-modified_other (λ t. with_reply t e.call.call e.reply (n + 1)) ts e.call.channel c apart in
              let test_is : nat_eq e.call.channel c ≡ false = eq_not e.call.channel c apart in
              let counted = λ (test : ChanCall V → ChanReply V → Bool). let step : count_on c test (take (n + 1) es)
              ≡ cond (nat_eq e.call.channel c && test e.call.call e.reply) (count_on c test (take n es) + 1) (count_on c test (take n es)) =
              count_next c n test es e within read in
              step ∙ ap (λ b. cond (b && test e.call.call e.reply) (count_on c test (take n es) + 1) (count_on c test (take n es))) test_is in
              subst (λ o. IsKept c (n + 1) o (slice_get (with_entry ts e (n + 1)) c)) (sym shown)
              (subst (λ o. IsKept c (n + 1) (slice_get (at n) c) o) (sym tally)
              (idle_kept c n (slice_get (at n) c) (slice_get ts c) refl shown
              (record {
                received_is = λ h. counted (receives h);
                told_is = λ h. counted (is_told h);
                notified_is = λ h. counted (is_notified h);
                looked_is = λ h. passes_next c n (looks h) es e within read ∙ ap (λ b. b && looks h e.call.call e.reply) test_is;
              })
              (kept c)))
