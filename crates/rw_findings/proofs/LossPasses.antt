-- The search for losses, entry by entry: what is kept of the channels, and the losses that have ended.
use Rattle.std.proofs.Common.{◌≡◌, ◌≢◌, ℕ, ◌+◌, ◌-◌, ◌<◌, ◌≤◌, [], ◌∷◌, ◌++◌, length, get_or, inl, inr, refl, ap, sym, ◌∙◌, subst, arith}
use Rattle.std.specs.Prelude.{Option, Some, None, MatchOption, unwrap_or, option_map, option_and_then}
use Rattle.std.specs.Option.{option_map_or}
use Rattle.std.proofs.lemmas.Bool.{cases_lt}
use Rattle.std.proofs.lemmas.List.{get_or_append_left}
use Rattle.std.proofs.Math.Seq.{get_or-append_seam}
use Rattle.rw_broadcast.specs.declared.calls.BCall.{BCall}
use Rattle.rw_broadcast.specs.declared.calls.BReply.{BReply}
use Rattle.rw_broadcast.specs.Channel.{Change, effect}
use Rattle.rw_broadcast.specs.Shown.{Shown, channel_of, with_change}
use Rattle.rw_world.specs.Kinds.{broadcast_shown, watch_shown}
use Rattle.rw_world.specs.Machines.{ChanShown, of_chan}
use Rattle.rw_world.specs.declared.channels.ChanCall.{ChanCall}
use Rattle.rw_world.specs.declared.channels.ChanCall.TheVariants as call_of
use Rattle.rw_world.specs.declared.channels.ChanReply.{ChanReply}
use Rattle.rw_world.specs.declared.channels.ChanReply.TheVariants as reply_of
use Rattle.rw_navigator.specs.Conditions.{as_broadcast}
use Rattle.rw_findings.specs.declared.losses.loss.Loss.{Loss}
use Rattle.rw_findings.specs.Losses.{stop_of, lag_of, EndsAs, IsStretch}
use Rattle.rw_findings.specs.LossTracks.{Track, loss_by, with_call}
use Rattle.rw_findings.proofs.LossSteps.{position, lag, IsTrackOf, Stays, IsEnded, EndsOne, Tracks, tracks}
use Rattle.rw_findings.proofs.LossStretches.{IsOpenSince, open_on, opens_now}

module _ (of : (channel receiver place : ℕ) → Option ℕ) (last : ℕ) where
  -- a stretch that ends at place n + 1
  ends_now : (n : ℕ) (loss : Loss) → IsOpenSince of loss.channel loss.receiver loss.from n → stop_of last loss.end ≡ n + 1
      → EndsAs of last loss.channel loss.receiver loss.end
      → lag_of of loss.channel loss.receiver n ≡ loss.lost → IsStretch of last loss
  ends_now n loss begun stop ends lost = record {
    before = begun.before;
    some = omega (arith, begun.within, stop);
    lags = λ place above below. begun.lags place above (omega (arith, stop));
    ends = ends;
    lost = let back : stop_of last loss.end - 1 ≡ n = omega (arith, stop) in ap (λ p. lag_of of loss.channel loss.receiver p) back ∙ lost;
  }

  -- what ends at place n + 1: none of a channel's losses, or this one
  abbrev pub Ends : ℕ → ℕ → Option Loss → Type 0
  Ends c n None = (h : ℕ) → 0 < lag_of of c h n → 0 < lag_of of c h (n + 1)
  Ends c n (Some loss) = IsStretch of last loss × (loss.channel ≡ c) × (stop_of last loss.end ≡ n + 1)
      × ((h : ℕ) → h ≢ loss.receiver → 0 < lag_of of c h n → 0 < lag_of of c h (n + 1))

  nobody_lags : (c n : ℕ) → ((h : ℕ) → of c h n ≡ None) → Ends c n None
  nobody_lags c n now h lags = let none : lag_of of c h n ≡ 0 = ap (λ k. unwrap_or k 0) (now h) in absurd (omega (arith, none, lags))

module _ {V : Type 0} where
  -- the lag of a receiver of a channel
  abbrev pub lag_in_channel : Option (ChanShown V) → ℕ → Option ℕ
  lag_in_channel o h = option_and_then (λ x. option_map (λ p. lag x p) (position x h)) (option_and_then as_broadcast o)

  -- what is kept of a channel that shows this, if it is there
  abbrev pub IsTracked : Option (ChanShown V) → Option (Option Track) → Type 0
  IsTracked (Some (broadcast_shown x)) (Some (Some t)) = IsTrackOf x t
  IsTracked (Some (watch_shown y)) (Some None) = Unit {0}
  IsTracked None None = Unit {0}
  IsTracked _ _ = ⊥

  -- a channel after a call, the reply, its track, and the loss that ends
  abbrev pub shown_then : Option (ChanShown V) → ChanCall V → Option (ChanShown V)
  shown_then o call = option_map (λ x. (of_chan {V = V}).next x call) o

  abbrev pub reply_to : Option (ChanShown V) → ChanCall V → ChanReply V
  reply_to o call = option_map_or (λ x. (of_chan {V = V}).reply_of x call) o reply_of.NoChannel

  abbrev pub track_then : Option (Option Track) → ChanCall V → ChanReply V → (place : ℕ) → Option (Option Track)
  track_then to (call_of.B call) (reply_of.B reply) place = option_map (option_map (λ t. with_call t call reply place)) to
  track_then to _ _ place = to

  abbrev pub loss_then : Option (Option Track) → (channel : ℕ) → ChanCall V → ChanReply V → (place : ℕ) → Option Loss
  loss_then to channel (call_of.B call) (reply_of.B reply) place = option_and_then (λ o. option_and_then (λ t. loss_by t channel call reply place) o) to
  loss_then to channel _ _ place = None

  abbrev pub AllowedAt : Option (ChanShown V) → Type 0
  AllowedAt o = MatchOption o (Unit {0}) (of_chan {V = V}).allowed

  module _ (of : (channel receiver place : ℕ) → Option ℕ) (last : ℕ) where
    -- where each receiver that lags at place n began to lag
    abbrev pub Since : ℕ → ℕ → Option (ChanShown V) → Option (Option Track) → Type 0
    Since c n (Some (broadcast_shown x)) (Some (Some t)) =
        (h p : ℕ) → position x h ≡ Some p → 0 < lag x p → IsOpenSince of c h (get_or t.sends (x.sent - lag x p) 0) n
    Since c n _ _ = Unit {0}

    -- one call of a broadcast
    module _ (c n : ℕ) (x : Shown V) (t : Track) (call : BCall V) (e : Change V × BReply V) (inside : n + 1 ≤ last) (steps : Tracks x t call c (n + 1) e)
        (is : IsTrackOf x t)
        (now : (h : ℕ) → of c h n ≡ option_map (λ p. lag x p) (position x h))
        (then : (h : ℕ) → of c h (n + 1) ≡ option_map (λ p. lag (with_change x e.0) p) (position (with_change x e.0) h))
        (since : (h p : ℕ) → position x h ≡ Some p → 0 < lag x p → IsOpenSince of c h (get_or t.sends (x.sent - lag x p) 0) n) where
      abbrev y : Shown V
      y = with_change x e.0

      abbrev u : Track
      u = with_call t call e.1 (n + 1)

      lag_now : (h p : ℕ) → position x h ≡ Some p → lag_of of c h n ≡ lag x p
      lag_now h p here = ap (λ o. unwrap_or o 0) (now h ∙ ap (λ o. option_map (λ q. lag x q) o) here)

      lag_then : (h p : ℕ) → position y h ≡ Some p → lag_of of c h (n + 1) ≡ lag y p
      lag_then h p here = ap (λ o. unwrap_or o 0) (then h ∙ ap (λ o. option_map (λ q. lag y q) o) here)

      since_then : (h p : ℕ) → position y h ≡ Some p → 0 < lag y p → IsOpenSince of c h (get_or u.sends (y.sent - lag y p) 0) (n + 1)
      since_then h p there lags =
          let here : position x h ≡ Some p = steps.behind h p there lags in
          let more : 0 < lag_of of c h (n + 1) = omega (arith, lag_then h p there, lags) in
          elim steps.sends [
            | inl same ↦ let lag_is : lag y p ≡ lag x p = omega (arith, same.0, steps.capacity) in
                let start : get_or u.sends (y.sent - lag y p) 0 ≡ get_or t.sends (x.sent - lag x p) 0 =
                ap (λ s. get_or s (y.sent - lag y p) 0) same.1 ∙ ap (λ s. get_or t.sends (s - lag y p) 0) same.0
                ∙ ap (λ k. get_or t.sends (x.sent - k) 0) lag_is in
                subst (λ f. IsOpenSince of c h f (n + 1)) (sym start) (open_on of c h _ n (since h p here (omega (arith, lag_is))) more)
            | inr sent ↦ elim (cases_lt 0 (lag x p)) [
              | inl lagged ↦ let lag_is : lag y p ≡ lag x p + 1 = omega (arith, sent.0, steps.capacity) in
                  let index : y.sent - lag y p ≡ x.sent - lag x p = omega (arith, sent.0, lag_is) in
                  let start : get_or u.sends (y.sent - lag y p) 0 ≡ get_or t.sends (x.sent - lag x p) 0 =
                  ap (λ s. get_or s (y.sent - lag y p) 0) sent.1 ∙ ap (λ k. get_or (t.sends ++ (n + 1) ∷ []) k 0) index
                  ∙ get_or_append_left t.sends ((n + 1) ∷ []) 0 (x.sent - lag x p) (omega (arith, is.sends, lagged)) in
                  subst (λ f. IsOpenSince of c h f (n + 1)) (sym start) (open_on of c h _ n (since h p here lagged) more)
              | inr rested ↦ let index : y.sent - lag y p ≡ length t.sends = omega (arith, sent.0, steps.capacity, is.sends) in
                  let start : get_or u.sends (y.sent - lag y p) 0 ≡ n + 1 =
                  ap (λ s. get_or s (y.sent - lag y p) 0) sent.1 ∙ ap (λ k. get_or (t.sends ++ (n + 1) ∷ []) k 0) index
                  ∙ get_or-append_seam t.sends (n + 1) [] 0 in
                  let none : lag_of of c h n ≡ 0 = lag_now h p here ∙ omega arith in
                  subst (λ f. IsOpenSince of c h f (n + 1)) (sym start) (opens_now of c h n none more)
            ]
          ]

      -- what stays where it is lags no less
      still_lags : (h : ℕ) → Stays x y h → 0 < lag_of of c h n → 0 < lag_of of c h (n + 1)
      still_lags h stays lags = by_position (position x h) refl where
        by_position : (o : Option ℕ) → position x h ≡ o → 0 < lag_of of c h (n + 1)
        by_position None here = let none : lag_of of c h n ≡ 0 = ap (λ o. unwrap_or o 0) (now h ∙ ap (λ o. option_map (λ q. lag x q) o) here) in
            absurd (omega (arith, none, lags))
        by_position (Some p) here =
            let lagged : 0 < lag x p = omega (arith, lag_now h p here, lags) in
            let there : position y h ≡ Some p = stays p here lagged in
            elim steps.sends [
              | inl same ↦ omega (arith, lag_then h p there, same.0, steps.capacity, lagged)
              | inr sent ↦ omega (arith, lag_then h p there, sent.0, steps.capacity, lagged)
            ]

      ends_is : (loss : Loss) (q : ℕ) → IsEnded x y t c (n + 1) loss → stop_of last loss.end ≡ n + 1 → EndsAs of last loss.channel loss.receiver loss.end
          → Ends of last c n (Some loss)
      ends_is loss q ended stop ends =
          let p : ℕ = ended.from_position in
          let begun : IsOpenSince of c loss.receiver loss.from n =
          subst (λ f. IsOpenSince of c loss.receiver f n) (sym ended.from_is) (since loss.receiver p ended.here ended.lags) in (
            ends_now of last n loss (subst (λ k. IsOpenSince of k loss.receiver loss.from n) (sym ended.channel_is) begun) stop ends
                (ap (λ k. lag_of of k loss.receiver n) ended.channel_is ∙ lag_now loss.receiver p ended.here ∙ sym ended.lost_is),
            ended.channel_is,
            stop,
            λ h apart lags. still_lags h (ended.others h apart) lags,
          )

      one_ends : (loss : Loss) → IsEnded x y t c (n + 1) loss → Ends of last c n (Some loss)
      one_ends loss ended =
          let at_end : of loss.channel loss.receiver (n + 1) ≡ option_map (λ p. lag y p) (position y loss.receiver) =
          ap (λ k. of k loss.receiver (n + 1)) ended.channel_is ∙ then loss.receiver in
          elim ended.end_is [
            | inl told ↦ let rested : of loss.channel loss.receiver (n + 1) ≡ Some 0 =
                at_end ∙ ap (λ o. option_map (λ p. lag y p) o) told.1.1 ∙ ap Some told.1.2 in
                ends_is loss 0 ended (ap (stop_of last) told.0) (subst (λ end. EndsAs of last loss.channel loss.receiver end) (sym told.0) (inside, rested))
            | inr dropped ↦ let gone : of loss.channel loss.receiver (n + 1) ≡ None = at_end ∙ ap (λ o. option_map (λ p. lag y p) o) dropped.1 in
                ends_is loss 0 ended (ap (stop_of last) dropped.0) (subst (λ end. EndsAs of last loss.channel loss.receiver end) (sym dropped.0) (inside, gone))
          ]

      ends_then : Ends of last c n (loss_by t c call e.1 (n + 1))
      ends_then = by_loss (loss_by t c call e.1 (n + 1)) steps.ended where
        by_loss : (o : Option Loss) → EndsOne x y t c (n + 1) o → Ends of last c n o
        by_loss None stay = λ h lags. still_lags h (stay h) lags
        by_loss (Some loss) ended = one_ends loss ended

    -- ---- one call of a channel of either kind

    -- a channel that stays as it is
    pub idle_since : (c n : ℕ) (o : Option (ChanShown V)) (to : Option (Option Track)) → ((h : ℕ) → of c h (n + 1) ≡ lag_in_channel o h) → Since c n o to
        → Since c (n + 1) o to
    idle_since c n (Some (broadcast_shown x)) (Some (Some t)) then since = λ h p here lags.
        let lag_is : lag_of of c h (n + 1) ≡ lag x p = ap (λ o. unwrap_or o 0) (then h ∙ ap (λ o. option_map (λ q. lag x q) o) here) in
        open_on of c h _ n (since h p here lags) (omega (arith, lag_is, lags))
    idle_since c n (Some (broadcast_shown x)) (Some None) then since = tt
    idle_since c n (Some (broadcast_shown x)) None then since = tt
    idle_since c n (Some (watch_shown y)) to then since = tt
    idle_since c n None to then since = tt

    pub idle_ends : (c n : ℕ) (o : Option (ChanShown V)) → ((h : ℕ) → of c h n ≡ lag_in_channel o h) → ((h : ℕ) → of c h (n + 1) ≡ lag_in_channel o h)
        → Ends of last c n None
    idle_ends c n o now then h lags = let same : lag_of of c h n ≡ lag_of of c h (n + 1) = ap (λ k. unwrap_or k 0) (now h ∙ sym (then h)) in
        omega (arith, same, lags)

    pub record StepsOn (c n : ℕ) (o : Option (ChanShown V)) (to : Option (Option Track)) (call : ChanCall V) : Type 0 where
      pub tracked : IsTracked (shown_then o call) (track_then to call (reply_to o call) (n + 1))
      pub since : Since c (n + 1) (shown_then o call) (track_then to call (reply_to o call) (n + 1))
      pub ends : Ends of last c n (loss_then to c call (reply_to o call) (n + 1))

    module _ (c n : ℕ) (inside : n + 1 ≤ last) where
      pub steps_on : (o : Option (ChanShown V)) (to : Option (Option Track)) (call : ChanCall V) → AllowedAt o → IsTracked o to → Since c n o to
          → ((h : ℕ) → of c h n ≡ lag_in_channel o h) → ((h : ℕ) → of c h (n + 1) ≡ lag_in_channel (shown_then o call) h) → StepsOn c n o to call
      steps_on (Some (broadcast_shown x)) (Some (Some t)) (call_of.B call) ok is since now then =
          let steps = tracks x t c (n + 1) is ok call in
          let e = effect (channel_of x) call in
          record {
            tracked = steps.track;
            since = since_then c n x t call e inside steps is now then since;
            ends = ends_then c n x t call e inside steps is now then since;
          }
      steps_on (Some (broadcast_shown x)) (Some (Some t)) (call_of.W call) ok is since now then = record {
        tracked = is;
        since = idle_since c n (Some (broadcast_shown x)) (Some (Some t)) then since;
        ends = idle_ends c n (Some (broadcast_shown x)) now then;
      }
      steps_on (Some (broadcast_shown x)) (Some None) call ok is since now then = absurd is
      steps_on (Some (broadcast_shown x)) None call ok is since now then = absurd is
      steps_on (Some (watch_shown y)) (Some (Some t)) call ok is since now then = absurd is
      steps_on (Some (watch_shown y)) (Some None) (call_of.B call) ok is since now then =
          record { tracked = tt; since = tt; ends = nobody_lags of last c n now }
      steps_on (Some (watch_shown y)) (Some None) (call_of.W call) ok is since now then =
          record { tracked = tt; since = tt; ends = nobody_lags of last c n now }
      steps_on (Some (watch_shown y)) None call ok is since now then = absurd is
      steps_on None (Some to) call ok is since now then = absurd is
      steps_on None None (call_of.B call) ok is since now then = record { tracked = tt; since = tt; ends = nobody_lags of last c n now }
      steps_on None None (call_of.W call) ok is since now then = record { tracked = tt; since = tt; ends = nobody_lags of last c n now }
