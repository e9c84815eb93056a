-- The end of the search for losses: the receivers that still lag.
use Rattle.std.proofs.Common.{◌≡◌, ℕ, zero, suc, ◌+◌, ◌-◌, ◌<◌, ◌≤◌, ◌⊎◌, List, length, get_or, inl, inr, refl, ap, sym, ◌∙◌, subst, arith}
use Rattle.std.specs.Prelude.{Option, Some, None, unwrap_or, slice_get, option_map}
use Rattle.std.proofs.lemmas.Bool.{cases_lt}
use Rattle.std.proofs.lemmas.List.{length-map}
use Rattle.std.proofs.lemmas.Option.{slice_get_within}
use Rattle.rw_broadcast.specs.Shown.{Shown}
use Rattle.rw_world.specs.Kinds.{broadcast_shown, watch_shown}
use Rattle.rw_world.specs.Machines.{ChanShown}
use Rattle.rw_findings.specs.declared.losses.loss.Loss.{Loss}
use Rattle.rw_findings.specs.declared.losses.loss.LossEnd.TheVariants.{Open}
use Rattle.rw_findings.specs.Losses.{stop_of, lag_of, IsStretch}
use Rattle.rw_findings.specs.LossTracks.{Track, loss_in, with_loss, with_open_of, with_open_at, with_open}
use Rattle.rw_findings.proofs.LossSteps.{position_of, position, lag, IsTrackOf, receiver_there, the_loss, loss_found, loss_none, loss_nobody}
use Rattle.rw_findings.proofs.LossStretches.{IsOpenSince, open_at, same_start, stops, same_stretch, AreThose, those_again, one_more}
use Rattle.rw_findings.proofs.LossPasses.{lag_in_channel, IsTracked, Since}
use Rattle.rw_findings.proofs.LossEntries.{lags_at, IsPassed}

-- a receiver that lags has a slot
pub within_slots : {V : Type 0} (x : Shown V) (h : ℕ) → 0 < unwrap_or (option_map (λ p. lag x p) (position x h)) 0 → h < length x.slots
within_slots x h lags = by_position (position x h) refl where
  by_position : (o : Option ℕ) → position x h ≡ o → h < length x.slots
  by_position None here = let none : unwrap_or (option_map (λ p. lag x p) (position x h)) 0 ≡ 0 = ap (λ o. unwrap_or (option_map (λ p. lag x p) o) 0) here in
      absurd (omega (arith, none, lags))
  by_position (Some p) here = slice_get_within x.slots h _ (receiver_there x.slots h p here)

module _ {V : Type 0} (at : ℕ → List (ChanShown V)) (last : ℕ) where
  -- the losses that have ended, and the open ones of the first channels, and of the first receivers of the channel after them
  abbrev pub IsFound : (channel receiver : ℕ) → Loss → Type 0
  IsFound c h loss = (stop_of last loss.end ≤ last) ⊎ ((loss.channel < c) ⊎ ((loss.channel ≡ c) × (loss.receiver < h)))

  -- a loss has ended, or goes on at the last place
  abbrev IsLast : Loss → Type 0
  IsLast loss = (stop_of last loss.end ≡ last + 1) × (loss.from ≤ last) × (0 < lag_of (lags_at at last) loss.channel loss.receiver last)

  ended_or_last : (loss : Loss) → IsStretch (lags_at at last) last loss → (stop_of last loss.end ≤ last) ⊎ IsLast loss
  ended_or_last loss is =
      elim (cases_lt last (stop_of last loss.end)) [
        | inl over ↦ let stop : stop_of last loss.end ≡ last + 1 =
            omega (arith, over, stops (lags_at at last) last loss.channel loss.receiver loss.end is.ends) in
            let begun : loss.from ≤ last = omega (arith, is.some, stop) in
            inr (stop, begun, is.lags last begun over)
        | inr done ↦ inl done
      ]

  -- where one more receiver doesn't lag
  nothing_more : (c k : ℕ) (losses : List Loss) → (0 < lag_of (lags_at at last) c k last → ⊥) → AreThose (lags_at at last) last (IsFound c k) losses
      → AreThose (lags_at at last) last (IsFound c (suc k)) losses
  nothing_more c k losses rests are =
      those_again (lags_at at last) last (IsFound c k) (IsFound c (suc k)) losses
      (λ loss found. elim found [ inl done ↦ inl done | inr (inl before) ↦ inr (inl before) | inr (inr this) ↦ inr (inr (this.0, omega (arith, this.1))) ])
      (λ loss is found. elim found [
        | inl done ↦ inl done
        | inr (inl before) ↦ inr (inl before)
        | inr (inr this) ↦ elim (cases_lt loss.receiver k) [
          | inl before ↦ inr (inr (this.0, before))
          | inr not_before ↦ elim (ended_or_last loss is) [
            | inl done ↦ inl done
            | inr on ↦ let receiver : loss.receiver ≡ k = omega (arith, not_before, this.1) in
                absurd (rests (subst (λ h. 0 < lag_of (lags_at at last) c h last) receiver
                (subst (λ d. 0 < lag_of (lags_at at last) d loss.receiver last) this.0 on.2)))
          ]
        ]
      ]) are

  -- one channel
  module _ (c : ℕ) (x : Shown V) (t : Track) (is : IsTrackOf x t) (now : (h : ℕ) → lags_at at last c h last ≡ option_map (λ p. lag x p) (position x h))
      (since : (h p : ℕ) → position x h ≡ Some p → 0 < lag x p → IsOpenSince (lags_at at last) c h (get_or t.sends (x.sent - lag x p) 0) last) where
    open_loss : (h p : ℕ) → position x h ≡ Some p → 0 < lag x p → IsStretch (lags_at at last) last (the_loss x t c last is h p Open)
    open_loss h p here lags =
        let begun = since h p here lags in
        record {
          before = begun.before;
          some = omega (arith, begun.within);
          lags = λ place above below. begun.lags place above (omega (arith, below));
          ends = tt;
          lost = let back : last + 1 - 1 ≡ last = omega arith in
              ap (λ n. lag_of (lags_at at last) c h n) back ∙ ap (λ o. unwrap_or o 0) (now h ∙ ap (λ o. option_map (λ q. lag x q) o) here);
        }

    only_open : (k p : ℕ) (here : position x k ≡ Some p) (lags : 0 < lag x p) (loss : Loss) → IsStretch (lags_at at last) last loss → IsFound c (suc k) loss
        → IsFound c k loss ⊎ (the_loss x t c last is k p Open ≡ loss)
    only_open k p here lags loss is_one found =
        elim found [
          | inl done ↦ inl (inl done)
          | inr (inl before) ↦ inl (inr (inl before))
          | inr (inr this) ↦ elim (cases_lt loss.receiver k) [
            | inl before ↦ inl (inr (inr (this.0, before)))
            | inr not_before ↦ elim (ended_or_last loss is_one) [
              | inl done ↦ inl (inl done)
              | inr on ↦ let receiver : loss.receiver ≡ k = omega (arith, not_before, this.1) in
                  let begun = open_at (lags_at at last) last loss last is_one on.1 (omega (arith, on.0)) in
                  let moved : IsOpenSince (lags_at at last) c k loss.from last =
                  subst (λ h. IsOpenSince (lags_at at last) c h loss.from last) receiver
                  (subst (λ d. IsOpenSince (lags_at at last) d loss.receiver loss.from last) this.0 begun) in
                  inr (same_stretch (lags_at at last) last (the_loss x t c last is k p Open) loss (open_loss k p here lags) is_one (sym this.0) (sym receiver)
                  (same_start (lags_at at last) c k _ loss.from last (since k p here lags) moved))
            ]
          ]
        ]

    -- one receiver more
    one_receiver : (k : ℕ) (losses : List Loss) → AreThose (lags_at at last) last (IsFound c k) losses
        → AreThose (lags_at at last) last (IsFound c (suc k)) (with_loss losses (loss_in t c k Open))
    one_receiver k losses others = by_position (position x k) refl where
      with_none : loss_in t c k Open ≡ None → (0 < lag_of (lags_at at last) c k last → ⊥)
          → AreThose (lags_at at last) last (IsFound c (suc k)) (with_loss losses (loss_in t c k Open))
      with_none none rests = subst (λ o. AreThose (lags_at at last) last (IsFound c (suc k)) (with_loss losses o)) (sym none)
          (nothing_more c k losses rests others)

      by_position : (o : Option ℕ) → position x k ≡ o → AreThose (lags_at at last) last (IsFound c (suc k)) (with_loss losses (loss_in t c k Open))
      by_position None here =
          let none : lag_of (lags_at at last) c k last ≡ 0 = ap (λ o. unwrap_or o 0) (now k ∙ ap (λ o. option_map (λ q. lag x q) o) here) in
          with_none (loss_nobody x t c last is k Open here) (λ lags. omega (arith, none, lags))
      by_position (Some p) here =
          let lag_is : lag_of (lags_at at last) c k last ≡ lag x p = ap (λ o. unwrap_or o 0) (now k ∙ ap (λ o. option_map (λ q. lag x q) o) here) in
          elim (cases_lt 0 (lag x p)) [
            | inl lags ↦ subst (λ o. AreThose (lags_at at last) last (IsFound c (suc k)) (with_loss losses o))
                (sym (loss_found x t c last is k p Open here lags))
                (one_more (lags_at at last) last (IsFound c k) (IsFound c (suc k)) losses (the_loss x t c last is k p Open) (open_loss k p here lags)
                (λ found. elim found [ inl done ↦ omega (arith, done) | inr (inl before) ↦ omega (arith, before) | inr (inr this) ↦ omega (arith, this.1) ])
                (inr (inr (refl, omega arith)))
                (λ loss found. elim found [
                  | inl done ↦ inl done
                  | inr (inl before) ↦ inr (inl before)
                  | inr (inr this) ↦ inr
                      (inr (this.0, omega (arith, this.1)))
                ])
                (only_open k p here lags) others)
            | inr rested ↦ with_none (loss_none x t c last is k p Open here (omega arith)) (λ lags. omega (arith, lag_is, lags, rested))
          ]

    more_receivers : (losses : List Loss) → AreThose (lags_at at last) last (IsFound c 0) losses → (k : ℕ)
        → AreThose (lags_at at last) last (IsFound c k) (with_open_of losses t c k)
    more_receivers losses are zero = are
    more_receivers losses are (suc k) = one_receiver k (with_open_of losses t c k) (more_receivers losses are k)

  -- all channels
  module _ (ts : List (Option Track)) (losses : List Loss) (passed : IsPassed at last last ts losses) where
    -- where one more channel has no more receivers that lag
    next_channel : (m n : ℕ) (found : List Loss) → ((h : ℕ) → 0 < lag_of (lags_at at last) m h last → h < n)
        → AreThose (lags_at at last) last (IsFound m n) found → AreThose (lags_at at last) last (IsFound (suc m) 0) found
    next_channel m n found few are =
        those_again (lags_at at last) last (IsFound m n) (IsFound (suc m) 0) found
        (λ loss is_found. elim is_found [
          | inl done ↦ inl done
          | inr (inl before) ↦ inr (inl (omega (arith, before)))
          | inr (inr this) ↦ inr
              (inl (omega (arith, this.0)))
        ])
        (λ loss is is_found. elim is_found [
          | inl done ↦ inl done
          | inr (inl before) ↦ elim (cases_lt loss.channel m) [
            | inl below ↦ inr (inl below)
            | inr not_below ↦ elim (ended_or_last loss is) [
              | inl done ↦ inl done
              | inr on ↦ let channel : loss.channel ≡ m = omega (arith, before, not_below) in
                  inr (inr (channel, few loss.receiver (subst (λ d. 0 < lag_of (lags_at at last) d loss.receiver last) channel on.2)))
            ]
          ]
          | inr (inr this) ↦ absurd (omega (arith, this.1))
        ]) are

    no_receivers : (m : ℕ) → ((h : ℕ) → lags_at at last m h last ≡ None) → (h : ℕ) → 0 < lag_of (lags_at at last) m h last → h < 0
    no_receivers m none h lags = let rests : lag_of (lags_at at last) m h last ≡ 0 = ap (λ o. unwrap_or o 0) (none h) in absurd (omega (arith, rests, lags))

    at_channel : (m : ℕ) (o : Option (ChanShown V)) (to : Option (Option Track)) → slice_get (at last) m ≡ o → IsTracked o to
        → Since (lags_at at last) last m last o to → (found : List Loss)
        → AreThose (lags_at at last) last (IsFound m 0) found → AreThose (lags_at at last) last (IsFound (suc m) 0) (with_open_at found to m)
    at_channel m (Some (broadcast_shown x)) (Some (Some t)) here is since found are =
        let now : (h : ℕ) → lags_at at last m h last ≡ option_map (λ p. lag x p) (position x h) = λ h. ap (λ o. lag_in_channel o h) here in
        let many : length t.positions ≡ length x.slots = ap length is.positions ∙ length-map x.slots position_of in
        next_channel m (length t.positions) (with_open_of found t m (length t.positions))
        (λ h lags. let lags_here : 0 < unwrap_or (option_map (λ p. lag x p) (position x h)) 0 =
        subst (λ o. 0 < unwrap_or o 0) (now h) lags in omega (arith, many, within_slots x h lags_here))
        (more_receivers m x t is now since found are (length t.positions))
    at_channel m (Some (broadcast_shown x)) (Some None) here is since found are = absurd is
    at_channel m (Some (broadcast_shown x)) None here is since found are = absurd is
    at_channel m (Some (watch_shown y)) (Some (Some t)) here is since found are = absurd is
    at_channel m (Some (watch_shown y)) (Some None) here is since found are =
        next_channel m 0 found (no_receivers m (λ h. ap (λ o. lag_in_channel o h) here)) are
    at_channel m (Some (watch_shown y)) None here is since found are = absurd is
    at_channel m None (Some to) here is since found are = absurd is
    at_channel m None None here is since found are = next_channel m 0 found (no_receivers m (λ h. ap (λ o. lag_in_channel o h) here)) are

    more_channels : (m : ℕ) → AreThose (lags_at at last) last (IsFound m 0) (with_open losses ts m)
    more_channels zero =
        those_again (lags_at at last) last (λ loss. stop_of last loss.end ≤ last) (IsFound 0 0) losses (λ loss done. inl done)
        (λ loss is found. elim found [ inl done ↦ done | inr (inl before) ↦ absurd (omega (arith, before)) | inr (inr this) ↦ absurd (omega (arith, this.1)) ])
        passed.found
    more_channels (suc m) = at_channel m (slice_get (at last) m) (slice_get ts m) refl (passed.tracked m) (passed.since m) (with_open losses ts m)
        (more_channels m)

    -- a channel with a receiver that lags has a track
    within_tracks : (m h : ℕ) → 0 < lag_of (lags_at at last) m h last → m < length ts
    within_tracks m h lags = by_channel (slice_get (at last) m) (slice_get ts m) refl refl (passed.tracked m) where
      by_channel : (o : Option (ChanShown V)) (to : Option (Option Track)) → slice_get (at last) m ≡ o → slice_get ts m ≡ to → IsTracked o to → m < length ts
      by_channel o (Some to) here there is = slice_get_within ts m to there
      by_channel (Some x) None here there is = no_track x is where
        no_track : (x : ChanShown V) → IsTracked (Some x) None → m < length ts
        no_track (broadcast_shown x) is = absurd is
        no_track (watch_shown y) is = absurd is
      by_channel None None here there is = let rests : lag_of (lags_at at last) m h last ≡ 0 = ap (λ o. unwrap_or (lag_in_channel o h) 0) here in
          absurd (omega (arith, rests, lags))

    -- all losses of the run
    pub all_found : AreThose (lags_at at last) last (λ loss. Unit {0}) (with_open losses ts (length ts))
    all_found =
        those_again (lags_at at last) last (IsFound (length ts) 0) (λ loss. Unit {0}) (with_open losses ts (length ts)) (λ loss found. tt)
        (λ loss is found. elim (ended_or_last loss is) [ inl done ↦ inl done | inr on ↦ inr (inl (within_tracks loss.channel loss.receiver on.2)) ])
        (more_channels (length ts))
