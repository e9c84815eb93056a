-- What is measured of the receivers of a channel, from place to place.
use Rattle.std.proofs.Common.{◌≡◌, ◌≢◌, ℕ, ◌+◌, ◌<◌, ◌≤◌, ◌⊎◌, true, false, cond, List, length, get_or, inl, inr, refl, ap, sym, ◌∙◌, arith}
use Rattle.std.specs.Prelude.{Some, None, not, ◌&&◌, nat_eq, option_and_then, option_map, slice_get, unwrap_or}
use Rattle.std.proofs.lemmas.Bool.{cases_eq}
use Rattle.std.proofs.lemmas.Bool.Decides.{nat_tests}
use Rattle.rw_broadcast.specs.Arithmetic.{lag, unread}
use Rattle.rw_broadcast.specs.Channel as broadcast
use Rattle.rw_broadcast.specs.Machine.{position_at}
use Rattle.rw_broadcast.specs.Shown.{channel_of}
use Rattle.rw_broadcast.specs.Shown as b
use Rattle.rw_watch.specs.Machine.{is_seen_at}
use Rattle.rw_watch.specs.Shown as w
use Rattle.std.proofs.lemmas.Option.{slice_get_past}
use Rattle.rw_journal.specs.Run.{Run}
use Rattle.rw_world.specs.Kinds.{broadcast_shown, watch_shown}
use Rattle.rw_world.specs.Machines.{ChanShown, of_chan}
use Rattle.rw_world.specs.Records.{ShowsAtPlaces}
use Rattle.rw_world.specs.Specified.{WorldEntry}
use Rattle.rw_world.specs.declared.channels.ChanCall.{ChanCall}
use Rattle.rw_world.specs.declared.rows.RowCall.{RowCall}
use Rattle.rw_navigator.specs.Conditions.{as_broadcast, as_watch, has}
use Rattle.rw_findings.specs.Lives.{made_in}
use Rattle.rw_findings.specs.Peaks.{measured, measured_at, measured_of, named_level}
use Rattle.rw_navigator.specs.Places.{shown_at}
use Rattle.rw_world.specs.Channel.{handle_of}
use Rattle.rw_findings.specs.declared.peaks.measure.Measure.{Measure}
use Rattle.rw_findings.specs.declared.peaks.measure.Measure.TheVariants.{Lag, Unread, Unseen}
use Rattle.rw_findings.proofs.FollowedPlaces.{allowed_is, channel_here, channel_there}
use Rattle.rw_findings.proofs.LossRuns.{length_at}
use Rattle.rw_findings.proofs.PeakSteps.{kept}

module _ {V : Type 0} where
  -- what is measured of a receiver depends on its channel alone
  pub measured_is : (measure : Measure) (xs : List (ChanShown V)) (c h : ℕ) (x : ChanShown V) → slice_get xs c ≡ Some x
      → measured measure xs c h ≡ measured_of measure x h
  measured_is Lag xs c h x here =
      ap (λ o. unwrap_or (option_and_then (λ y. option_map (lag (broadcast.oldest (channel_of y))) (position_at (slice_get y.slots h)))
      (option_and_then as_broadcast o)) 0) here
  measured_is Unread xs c h x here =
      ap (λ o. unwrap_or (option_and_then (λ y. option_map (unread y.sent) (position_at (slice_get y.slots h))) (option_and_then as_broadcast o)) 0) here
  measured_is Unseen xs c h x here =
      ap (λ o. cond (has not (option_and_then (λ y. is_seen_at y.version (slice_get y.slots h)) (option_and_then as_watch o))) 1 0) here

  pub measured_none : (measure : Measure) (xs : List (ChanShown V)) (c h : ℕ) → slice_get xs c ≡ None → measured measure xs c h ≡ 0
  measured_none Lag xs c h none =
      ap (λ o. unwrap_or (option_and_then (λ y. option_map (lag (broadcast.oldest (channel_of y))) (position_at (slice_get y.slots h)))
      (option_and_then as_broadcast o)) 0) none
  measured_none Unread xs c h none =
      ap (λ o. unwrap_or (option_and_then (λ y. option_map (unread y.sent) (position_at (slice_get y.slots h))) (option_and_then as_broadcast o)) 0) none
  measured_none Unseen xs c h none =
      ap (λ o. cond (has not (option_and_then (λ y. is_seen_at y.version (slice_get y.slots h)) (option_and_then as_watch o))) 1 0) none

  -- a receiver whose slot isn't there measures 0
  unmade_broadcast : (measure : Measure) (x : b.Shown V) (h : ℕ) → slice_get x.slots h ≡ None → measured_of {V = V} measure (broadcast_shown x) h ≡ 0
  unmade_broadcast Lag x h none = ap (λ o. unwrap_or (option_map (lag (broadcast.oldest (channel_of x))) (position_at o)) 0) none
  unmade_broadcast Unread x h none = ap (λ o. unwrap_or (option_map (unread x.sent) (position_at o)) 0) none
  unmade_broadcast Unseen x h none = refl

  unmade_watch : (measure : Measure) (y : w.Shown V) (h : ℕ) → slice_get y.slots h ≡ None → measured_of {V = V} measure (watch_shown y) h ≡ 0
  unmade_watch Lag y h none = refl
  unmade_watch Unread y h none = refl
  unmade_watch Unseen y h none = ap (λ o. cond (has not (is_seen_at y.version o)) 1 0) none

  -- a handle that wasn't made yet measures 0
  pub unmade : (measure : Measure) (x : ChanShown V) (h : ℕ) → made_in x ≤ h → measured_of measure x h ≡ 0
  unmade measure (broadcast_shown x) h past = unmade_broadcast measure x h (slice_get_past x.slots h past)
  unmade measure (watch_shown y) h past = unmade_watch measure y h (slice_get_past y.slots h past)

  -- a receiver's level where a call is made: what is measured, if the call names it
  pub named_or_not : (measure : Measure) (c : ℕ) (x : ChanShown V) (call : RowCall (ChanCall V)) (h : ℕ)
      → (named_level measure c x call h ≡ measured_of measure x h) ⊎ ((named_level measure c x call h ≡ 0) × ((call.channel ≢ c) ⊎ (h ≢ handle_of call.call)))
  named_or_not measure c x call h =
      elim (cases_eq call.channel c) [
        | inl here ↦ elim (cases_eq h (handle_of call.call)) [
          | inl named ↦ let one : nat_eq call.channel c ≡ true = grind (arith, nat_tests) in
              let two : nat_eq h (handle_of call.call) ≡ true = grind (arith, nat_tests) in
              inl (ap (λ k. cond (k && nat_eq h (handle_of call.call)) (measured_of measure x h) 0) one ∙ ap (λ k. cond k (measured_of measure x h) 0) two)
          | inr apart ↦ let one : nat_eq call.channel c ≡ true = grind (arith, nat_tests) in
              let two : nat_eq h (handle_of call.call) ≡ false = grind (arith, nat_tests) in
              inr (
                ap (λ k. cond (k && nat_eq h (handle_of call.call)) (measured_of measure x h) 0) one ∙ ap (λ k. cond k (measured_of measure x h) 0) two,
                inr apart,
              )
        ]
        | inr apart ↦ let one : nat_eq call.channel c ≡ false = grind (arith, nat_tests) in
            inr (ap (λ k. cond (k && nat_eq h (handle_of call.call)) (measured_of measure x h) 0) one, inl apart)
      ]

  module _ (shows : ShowsAtPlaces V) (run : Run V) where
    module _ (c p : ℕ) (e : WorldEntry V) (within : p < length run.entries) (read : e ≡ get_or run.entries p e) where
      -- what is measured of a receiver doesn't fall, unless the call names it
      rises_there : (measure : Measure) (h : ℕ) (x : ChanShown V) → slice_get (shown_at run p) c ≡ Some x → e.call.channel ≢ c
          → measured_at measure run c h p ≤ measured_at measure run c h (p + 1)
      rises_there measure h x here apart =
          let before : measured_at measure run c h p ≡ measured_of measure x h = measured_is measure (shown_at run p) c h x here in
          let then : measured_at measure run c h (p + 1) ≡ measured_of measure x h =
          measured_is measure (shown_at run (p + 1)) c h x (channel_there shows run c p e within read apart ∙ here) in
          omega (arith, before, then)

      pub rises : (measure : Measure) (h : ℕ) (x : ChanShown V) → slice_get (shown_at run p) c ≡ Some x → (e.call.channel ≢ c) ⊎ (h ≢ handle_of e.call.call)
          → measured_at measure run c h p ≤ measured_at measure run c h (p + 1)
      rises measure h x here (inl apart) = rises_there measure h x here apart
      rises measure h x here (inr unnamed) =
          elim (cases_eq e.call.channel c) [
            | inl on ↦
                let before : measured_at measure run c h p ≡ measured_of measure x h = measured_is measure (shown_at run p) c h x here in
                let then : measured_at measure run c h (p + 1) ≡ measured_of measure ((of_chan {V = V}).next x e.call.call) h =
                measured_is measure (shown_at run (p + 1)) c h ((of_chan {V = V}).next x e.call.call) (channel_here shows run c p e within read x here on) in
                omega (arith, before, then, kept measure x e.call.call h (allowed_is shows run c p x here) unnamed)
            | inr apart ↦ rises_there measure h x here apart
          ]

    -- where there is no such channel, nothing is measured
    pub no_channel_measured : (measure : Measure) (c h p : ℕ) → slice_get (shown_at run p) c ≡ None → measured_at measure run c h p ≡ 0
    no_channel_measured measure c h p none = measured_none measure (shown_at run p) c h none

    pub no_such_channel : (c p : ℕ) → length run.specs ≤ c → slice_get (shown_at run p) c ≡ None
    no_such_channel c p past =
        let many : length (shown_at run p) ≡ length run.specs = sym (ap length (shows run.specs run.entries p)) ∙ length_at run p in
        slice_get_past (shown_at run p) c (omega (arith, many, past))
