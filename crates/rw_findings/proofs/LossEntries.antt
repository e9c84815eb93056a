-- One entry of a run in the search for losses.
use Rattle.std.proofs.Common.{◌≡◌, ◌≢◌, ℕ, zero, suc, ◌+◌, ◌<◌, ◌≤◌, ◌⊎◌, List, [], ◌∷◌, inl, inr, refl, ap, sym, ◌∙◌, subst, arith}
use Rattle.std.specs.Prelude.{Option, Some, None, MatchOption, slice_get, option_map}
use Rattle.std.proofs.lemmas.Bool.{cases_order, cases_lt}
use Rattle.rw_world.specs.Lists.{map_at, Each}
use Rattle.rw_world.specs.Machines.{ChanShown, of_chan, of_world}
use Rattle.rw_world.specs.declared.rows.RowCall.{RowCall}
use Rattle.rw_world.specs.declared.channels.ChanCall.{ChanCall}
use Rattle.rw_world.specs.declared.channels.ChanCall.TheVariants as call_of
use Rattle.rw_world.specs.declared.channels.ChanReply.{ChanReply}
use Rattle.rw_world.specs.declared.channels.ChanReply.TheVariants as reply_of
use Rattle.rw_world.proofs.Modifying.{get-modified_other}
use Rattle.rw_navigator.specs.Conditions.{lag_at}
use Rattle.rw_findings.specs.declared.losses.loss.Loss.{Loss}
use Rattle.rw_findings.specs.Losses.{stop_of, lag_of, IsStretch}
use Rattle.rw_findings.specs.LossTracks.{Track, with_call, with_call_on, loss_on, with_loss}
use Rattle.rw_findings.proofs.LossStretches.{IsOpenSince, open_at, same_start, rests, same_stretch, AreThose, those_again, one_more}
use Rattle.rw_findings.proofs.LossPasses.{lag_in_channel, IsTracked, Since, Ends, idle_since, idle_ends, shown_then}
use Rattle.rw_findings.proofs.LossPasses.{reply_to, track_then, loss_then, StepsOn, steps_on}

pub get-modified : {X : Type 0} (f : X → X) (xs : List X) (i : ℕ) → slice_get (map_at f xs i) i ≡ option_map f (slice_get xs i)
get-modified f [] i = refl
get-modified f (x ∷ xs) zero = refl
get-modified f (x ∷ xs) (suc i) = get-modified f xs i

pub each_at : {X : Type 0} (P : X → Type 0) (xs : List X) (i : ℕ) → Each P xs → MatchOption (slice_get xs i) (Unit {0}) P
each_at P [] i each = tt
each_at P (x ∷ xs) zero each = each.0
each_at P (x ∷ xs) (suc i) each = each_at P xs i each.1

module _ {V : Type 0} where
  track_here : (ts : List (Option Track)) (c : ℕ) (call : ChanCall V) (reply : ChanReply V) (place : ℕ)
      → slice_get (with_call_on ts c call reply place) c ≡ track_then (slice_get ts c) call reply place
  track_here ts c (call_of.B call) (reply_of.B reply) place = get-modified (option_map (λ t. with_call t call reply place)) ts c
  track_here ts c (call_of.B call) (reply_of.W reply) place = refl
  track_here ts c (call_of.B call) reply_of.NoChannel place = refl
  track_here ts c (call_of.W call) reply place = refl

  track_there : (ts : List (Option Track)) (c d : ℕ) (call : ChanCall V) (reply : ChanReply V) (place : ℕ) → c ≢ d
      → slice_get (with_call_on ts c call reply place) d ≡ slice_get ts d
  track_there ts c d (call_of.B call) (reply_of.B reply) place apart = get-modified_other (option_map (λ t. with_call t call reply place)) ts c d apart
  track_there ts c d (call_of.B call) (reply_of.W reply) place apart = refl
  track_there ts c d (call_of.B call) reply_of.NoChannel place apart = refl
  track_there ts c d (call_of.W call) reply place apart = refl

  loss_here : (ts : List (Option Track)) (c : ℕ) (call : ChanCall V) (reply : ChanReply V) (place : ℕ)
      → loss_on ts c call reply place ≡ loss_then (slice_get ts c) c call reply place
  loss_here ts c (call_of.B call) (reply_of.B reply) place = refl
  loss_here ts c (call_of.B call) (reply_of.W reply) place = refl
  loss_here ts c (call_of.B call) reply_of.NoChannel place = refl
  loss_here ts c (call_of.W call) reply place = refl

  -- where this is shown at each place
  module _ (at : ℕ → List (ChanShown V)) (last : ℕ) where
    abbrev pub lags_at : (channel receiver place : ℕ) → Option ℕ
    lags_at channel receiver place = lag_at (at place) channel receiver

    -- what the search has after n entries: the tracks of the channels, and the losses that have ended
    pub record IsPassed (n : ℕ) (ts : List (Option Track)) (losses : List Loss) : Type 0 where
      pub tracked : (c : ℕ) → IsTracked (slice_get (at n) c) (slice_get ts c)
      pub since : (c : ℕ) → Since lags_at last c n (slice_get (at n) c) (slice_get ts c)
      pub found : AreThose lags_at last (λ loss. stop_of last loss.end ≤ n) losses

    module _ (n : ℕ) (ts : List (Option Track)) (losses : List Loss) (call : RowCall (ChanCall V)) (reply : ChanReply V) (inside : n + 1 ≤ last)
        (allowed : (of_world {V = V}).allowed (at n))
        (next : at (n + 1) ≡ (of_world {V = V}).next (at n) call) (reply_is : reply ≡ (of_world {V = V}).reply_of (at n) call)
        (passed : IsPassed n ts losses) where
      abbrev us : List (Option Track)
      us = with_call_on ts call.channel call.call reply (n + 1)

      abbrev step_of : ChanShown V → ChanShown V
      step_of x = (of_chan {V = V}).next x call.call

      -- the channel of the call
      shown_here : slice_get (at (n + 1)) call.channel ≡ shown_then (slice_get (at n) call.channel) call.call
      shown_here = ap (λ xs. slice_get xs call.channel) next ∙ get-modified step_of (at n) call.channel

      here : StepsOn lags_at last call.channel n (slice_get (at n) call.channel) (slice_get ts call.channel) call.call
      here =
          steps_on lags_at last call.channel n inside (slice_get (at n) call.channel) (slice_get ts call.channel) call.call
          (each_at (of_chan {V = V}).allowed (at n) call.channel allowed)
          (passed.tracked call.channel) (passed.since call.channel) (λ h. refl) (λ h. ap (λ o. lag_in_channel o h) shown_here)

      tracks_here : slice_get us call.channel ≡ track_then (slice_get ts call.channel) call.call (reply_to (slice_get (at n) call.channel) call.call) (n + 1)
      tracks_here = track_here ts call.channel call.call reply (n + 1) ∙ ap (λ r. track_then (slice_get ts call.channel) call.call r (n + 1)) reply_is

      loss_is : loss_on ts call.channel call.call reply (n + 1)
          ≡ loss_then (slice_get ts call.channel) call.channel call.call (reply_to (slice_get (at n) call.channel) call.call) (n + 1)
      loss_is = loss_here ts call.channel call.call reply (n + 1) ∙ ap (λ r. loss_then (slice_get ts call.channel) call.channel call.call r (n + 1)) reply_is

      -- the other channels
      shown_there : (c : ℕ) → call.channel ≢ c → slice_get (at (n + 1)) c ≡ slice_get (at n) c
      shown_there c apart = ap (λ xs. slice_get xs c) next ∙ get-modified_other step_of (at n) call.channel c apart

      same_or_not : (c : ℕ) → (call.channel ≡ c) ⊎ (call.channel ≢ c)
      same_or_not c =
          elim (cases_order call.channel c) [
            | inl same ↦ inl same
            | inr (inl below) ↦ inr (λ same. omega (arith, same, below))
            | inr (inr above) ↦ inr (λ same. omega (arith, same, above))
          ]

      tracked_then : (c : ℕ) → IsTracked (slice_get (at (n + 1)) c) (slice_get us c)
      tracked_then c =
          elim (same_or_not c) [
            | inl same ↦ subst (λ k. IsTracked (slice_get (at (n + 1)) k) (slice_get us k)) same
                (subst (λ o. IsTracked o (slice_get us call.channel)) (sym shown_here)
                (subst (λ o. IsTracked (shown_then (slice_get (at n) call.channel) call.call) o) (sym tracks_here) here.tracked))
            | inr apart ↦ subst (λ o. IsTracked o (slice_get us c)) (sym (shown_there c apart))
                (subst (λ o. IsTracked (slice_get (at n) c) o) (sym (track_there ts call.channel c call.call reply (n + 1) apart)) (passed.tracked c))
          ]

      since_then : (c : ℕ) → Since lags_at last c (n + 1) (slice_get (at (n + 1)) c) (slice_get us c)
      since_then c =
          elim (same_or_not c) [
            | inl same ↦ subst (λ k. Since lags_at last k (n + 1) (slice_get (at (n + 1)) k) (slice_get us k)) same
                (subst (λ o. Since lags_at last call.channel (n + 1) o (slice_get us call.channel)) (sym shown_here)
                (subst (λ o. Since lags_at last call.channel (n + 1) (shown_then (slice_get (at n) call.channel) call.call) o) (sym tracks_here) here.since))
            | inr apart ↦ subst (λ o. Since lags_at last c (n + 1) o (slice_get us c)) (sym (shown_there c apart))
                (subst (λ o. Since lags_at last c (n + 1) (slice_get (at n) c) o) (sym (track_there ts call.channel c call.call reply (n + 1) apart))
                (idle_since lags_at last c n (slice_get (at n) c) (slice_get ts c) (λ h. ap (λ o. lag_in_channel o h) (shown_there c apart)) (passed.since c)))
          ]

      -- a loss that ends at the next place is one of this channel
      ends_here : (loss : Loss) → IsStretch lags_at last loss → stop_of last loss.end ≡ n + 1
          → (0 < lag_of lags_at loss.channel loss.receiver (n + 1) → ⊥) × (0 < lag_of lags_at loss.channel loss.receiver n) × (loss.from ≤ n)
      ends_here loss is stop =
          let begun : loss.from ≤ n = omega (arith, is.some, stop) in (
            λ lags. omega (
              arith,
              lags,
              rests lags_at last loss.channel loss.receiver loss.end is.ends (omega (arith, stop, inside)),
              ap (λ p. lag_of lags_at loss.channel loss.receiver p) stop,
            ),
            is.lags n begun (omega (arith, stop)),
            begun,
          )

      not_there : (loss : Loss) → IsStretch lags_at last loss → stop_of last loss.end ≡ n + 1 → call.channel ≡ loss.channel
      not_there loss is stop =
          let ends = ends_here loss is stop in
          elim (same_or_not loss.channel) [
            | inl same ↦ same
            | inr apart ↦ absurd (ends.0 (idle_ends lags_at last loss.channel n (slice_get (at n) loss.channel) (λ h. refl)
                (λ h. ap (λ o. lag_in_channel o h) (shown_there loss.channel apart)) loss.receiver ends.1))
          ]

      found_then : (o : Option Loss) → Ends lags_at last call.channel n o → AreThose lags_at last (λ loss. stop_of last loss.end ≤ n + 1) (with_loss losses o)
      found_then None none =
          those_again lags_at last (λ loss. stop_of last loss.end ≤ n) (λ loss. stop_of last loss.end ≤ n + 1) losses (λ loss under. omega (arith, under))
          (λ loss is under. elim (cases_lt n (stop_of last loss.end)) [
            | inl over ↦ let stop : stop_of last loss.end ≡ n + 1 = omega (arith, under, over) in
                let ends = ends_here loss is stop in
                let channel = not_there loss is stop in
                absurd (ends.0 (subst (λ c. 0 < lag_of lags_at c loss.receiver n → 0 < lag_of lags_at c loss.receiver (n + 1)) channel (none loss.receiver)
                ends.1))
            | inr done ↦ done
          ]) passed.found
      found_then (Some one) is_one =
          one_more lags_at last (λ loss. stop_of last loss.end ≤ n) (λ loss. stop_of last loss.end ≤ n + 1) losses one is_one.0
          (λ under. omega (arith, under, is_one.2)) (omega (arith, is_one.2))
          (λ loss under. omega (arith, under))
          (λ loss is under. elim (cases_lt n (stop_of last loss.end)) [
            | inl over ↦ inr (only one is_one loss is (omega (arith, under, over)))
            | inr done ↦ inl done
          ]) passed.found where
            only : (one : Loss) → Ends lags_at last call.channel n (Some one) → (loss : Loss) → IsStretch lags_at last loss → stop_of last loss.end ≡ n + 1
                → one ≡ loss
            only one is_one loss is stop =
                let ends = ends_here loss is stop in
                let channel : call.channel ≡ loss.channel = not_there loss is stop in
                let still : (h : ℕ) → h ≢ one.receiver → 0 < lag_of lags_at loss.channel h n → 0 < lag_of lags_at loss.channel h (n + 1) =
                subst (λ c. (h : ℕ) → h ≢ one.receiver → 0 < lag_of lags_at c h n → 0 < lag_of lags_at c h (n + 1)) channel is_one.3 in
                let receiver : one.receiver ≡ loss.receiver =
                elim (cases_order one.receiver loss.receiver) [
                  | inl same ↦ same
                  | inr (inl below) ↦ absurd (ends.0 (still loss.receiver (λ same. omega (arith, same, below)) ends.1))
                  | inr (inr above) ↦ absurd (ends.0 (still loss.receiver (λ same. omega (arith, same, above)) ends.1))
                ] in
                let same_channel : one.channel ≡ loss.channel = is_one.1 ∙ channel in
                let first = open_at lags_at last one n is_one.0 (omega (arith, is_one.0.some, is_one.2)) (omega (arith, is_one.2)) in
                let second = open_at lags_at last loss n is ends.2 (omega (arith, stop)) in
                let moved : IsOpenSince lags_at loss.channel loss.receiver one.from n =
                subst (λ h. IsOpenSince lags_at loss.channel h one.from n) receiver
                (subst (λ c. IsOpenSince lags_at c one.receiver one.from n) same_channel first) in
                same_stretch lags_at last one loss is_one.0 is same_channel receiver
                (same_start lags_at loss.channel loss.receiver one.from loss.from n moved second)

      pub passed_on : IsPassed (n + 1) us (with_loss losses (loss_on ts call.channel call.call reply (n + 1)))
      passed_on = record {
        tracked = tracked_then;
        since = since_then;
        found = found_then (loss_on ts call.channel call.call reply (n + 1)) (subst (λ o. Ends lags_at last call.channel n o) (sym loss_is) here.ends);
      }
