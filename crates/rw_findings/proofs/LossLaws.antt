-- The losses of a run and its entries: which values were lost, and which reply told of it.
use Rattle.std.proofs.Common.{◌≡◌, ℕ, zero, suc, ◌+◌, ◌-◌, ◌<◌, ◌≤◌, true, cond, List, [], ◌∷◌, length, get_or, inl, inr, refl, ap, sym, ◌∙◌, subst, arith}
use Rattle.std.specs.Prelude.{Option, Some, None, nat_lt, option_and_then, option_map, slice_get, unwrap_or}
use Rattle.std.specs.Option.{option_map_or}
use Rattle.std.proofs.lemmas.Bool.{cases_eq}
use Rattle.std.proofs.lemmas.Bool.Decides.{nat_tests}
use Rattle.std.proofs.lemmas.Option.{slice_get-get_or}
use Rattle.rw_law.specs.Journal.{IsStep}
use Rattle.rw_law.proofs.Journals.{step_at}
use Rattle.rw_handles.specs.declared.kinds.Kind.TheVariants.{Receiver}
use Rattle.rw_handles.specs.declared.kinds.Slot.TheVariants.{Live}
use Rattle.rw_broadcast.specs.declared.calls.BCall.{BCall}
use Rattle.rw_broadcast.specs.declared.calls.BReply.TheVariants.{Lagged}
use Rattle.rw_broadcast.specs.Channel.{effect, oldest}
use Rattle.rw_broadcast.specs.Machine.{position_at}
use Rattle.rw_broadcast.specs.Shown.{Shown, channel_of, with_change}
use Rattle.rw_journal.specs.Run.{IsRun, Run}
use Rattle.rw_world.specs.Kinds.{broadcast_shown, watch_shown}
use Rattle.rw_world.specs.Machines.{ChanShown, of_chan, of_world}
use Rattle.rw_world.specs.Openings.{opening_row}
use Rattle.rw_world.specs.Records.{ShowsAtPlaces}
use Rattle.rw_world.specs.Specified.{WorldEntry}
use Rattle.rw_world.specs.declared.channels.ChanCall.{ChanCall}
use Rattle.rw_world.specs.declared.channels.ChanCall.TheVariants as call_of
use Rattle.rw_world.specs.declared.channels.ChanReply.TheVariants as reply_of
use Rattle.rw_world.proofs.Places.{shows_at_places}
use Rattle.rw_navigator.specs.Conditions.{as_broadcast, lag_at}
use Rattle.rw_navigator.specs.Places.{entry_to, last_place, shown_at}
use Rattle.rw_findings.specs.Laws.{LostValuesFollow, TellsLag, ToldLossesAreReplies}
use Rattle.rw_findings.specs.Losses.{EndsAs, IsLoss, stop_of}
use Rattle.rw_findings.specs.Receivers.{position_then}
use Rattle.rw_findings.specs.Totals.{receiver_in}
use Rattle.rw_findings.specs.Values.{oldest_at, oldest_in}
use Rattle.rw_findings.specs.declared.losses.loss.Loss.{Loss}
use Rattle.rw_findings.specs.declared.losses.loss.LossEnd.TheVariants.{Told}
use Rattle.rw_findings.proofs.FollowedPlaces.{channel_here, channel_there}
use Rattle.rw_findings.proofs.LagSteps.{Leads, leads, leaves, sends_on, stays, told}
use Rattle.rw_findings.proofs.LossPasses.{lag_in_channel, reply_to}
use Rattle.rw_findings.proofs.LossRuns.{at_place}
use Rattle.rw_findings.proofs.LossSteps.{lag, position, receiver_there}
use Rattle.rw_findings.proofs.LossStretches.{stops}

element : {X : Type 0} (xs : List X) (i : ℕ) → i < length xs → (x : X) × (x ≡ get_or xs i x)
element [] i within = absurd (omega arith)
element (x ∷ xs) zero within = (x, refl)
element (x ∷ xs) (suc i) within = element xs i (omega arith)

module _ {V : Type 0} (run : Run V) (c h : ℕ) where
  abbrev pub lag_then : ℕ → Option ℕ
  lag_then p = lag_at (shown_at run p) c h

  -- a receiver that lags at a place
  pub record LagsAt (p : ℕ) : Type 0 where
    pub x : Shown V
    pub position : ℕ
    pub here : slice_get (shown_at run p) c ≡ Some (broadcast_shown x)
    pub slot : slice_get x.slots h ≡ Some (Live Receiver position)
    pub lags : 0 < lag x position

  pub lag_is : (p : ℕ) (at : LagsAt p) → lag_then p ≡ Some (lag at.x at.position)
  lag_is p at = ap (λ o. lag_in_channel o h) at.here ∙ ap (λ o. option_map (λ q. lag at.x q) (position_at o)) at.slot

  pub position_is : (p : ℕ) (at : LagsAt p) → position_then run c h p ≡ Some at.position
  position_is p at =
      ap (λ o. option_and_then (λ (x : Shown V). position_at (slice_get x.slots h)) (option_and_then as_broadcast o)) at.here ∙ ap position_at at.slot

  oldest_is : (p : ℕ) (at : LagsAt p) → oldest_at run c p ≡ oldest (channel_of at.x)
  oldest_is p at = ap (λ o. option_map_or oldest_in o 0) at.here

  pub lags_at : (p : ℕ) → 0 < unwrap_or (lag_then p) 0 → LagsAt p
  lags_at p lags = by_channel (slice_get (shown_at run p) c) refl where
    by_channel : (o : Option (ChanShown V)) → slice_get (shown_at run p) c ≡ o → LagsAt p
    by_channel None here = let none : unwrap_or (lag_then p) 0 ≡ 0 = ap (λ o. unwrap_or (lag_in_channel o h) 0) here in absurd (omega (arith, none, lags))
    by_channel (Some (watch_shown y)) here =
        let none : unwrap_or (lag_then p) 0 ≡ 0 = ap (λ o. unwrap_or (lag_in_channel o h) 0) here in
        absurd (omega (arith, none, lags))
    by_channel (Some (broadcast_shown x)) here = by_position (position x h) refl where
      lag_here : unwrap_or (lag_then p) 0 ≡ unwrap_or (option_map (λ q. lag x q) (position x h)) 0
      lag_here = ap (λ o. unwrap_or (lag_in_channel o h) 0) here

      by_position : (o : Option ℕ) → position x h ≡ o → LagsAt p
      by_position None none =
          let zero_is : unwrap_or (lag_then p) 0 ≡ 0 = lag_here ∙ ap (λ o. unwrap_or (option_map (λ q. lag x q) o) 0) none in
          absurd (omega (arith, zero_is, lags))
      by_position (Some q) is =
          let some : unwrap_or (lag_then p) 0 ≡ lag x q = lag_here ∙ ap (λ o. unwrap_or (option_map (λ r. lag x r) o) 0) is in
          record { x = x; position = q; here = here; slot = receiver_there x.slots h q is; lags = omega (arith, some, lags) }

  -- what the next entry does to it: it lags on from the same position, is there no more, or is told
  pub data Goes (p : ℕ) (at : LagsAt p) : Type 0 where
    on : (next : LagsAt (p + 1)) → next.position ≡ at.position → lag at.x at.position ≤ lag next.x next.position → Goes p at
    left : lag_then (p + 1) ≡ None → Goes p at
    tells : (e : WorldEntry V) → e ≡ get_or run.entries p e → e.call.channel ≡ c → (call : BCall V) → e.call.call ≡ call_of.B call
        → receiver_in call ≡ Some h → (effect (channel_of at.x) call).1 ≡ Lagged (lag at.x at.position) → lag_then (p + 1) ≡ Some 0 → Goes p at

  module _ (shows : ShowsAtPlaces V) (p : ℕ) (at : LagsAt p) (e : WorldEntry V) (within : p < length run.entries) (read : e ≡ get_or run.entries p e) where
    by_broadcast : e.call.channel ≡ c → (call : BCall V) → e.call.call ≡ call_of.B call
        → slice_get (shown_at run (p + 1)) c ≡ Some (broadcast_shown (with_change at.x (effect (channel_of at.x) call).0)) → Goes p at
    by_broadcast here call is there = by_lead (leads at.x h at.position at.slot at.lags call) where
      y : Shown V
      y = with_change at.x (effect (channel_of at.x) call).0

      sends : (at.x.sent ≤ y.sent) × (y.capacity ≡ at.x.capacity)
      sends = sends_on at.x (effect (channel_of at.x) call).0

      by_lead : Leads at.x y h at.position call (effect (channel_of at.x) call).1 → Goes p at
      by_lead (stays same) =
          on (record {
            x = y;
            position = at.position;
            here = there;
            slot = receiver_there y.slots h at.position same;
            lags = omega (arith, sends.0, sends.1, at.lags);
          }) refl (omega (arith, sends.0, sends.1))
      by_lead (leaves gone) = left (ap (λ o. lag_in_channel o h) there ∙ ap (λ o. option_map (λ q. lag y q) o) gone)
      by_lead (told who reply moved same) =
          let none : lag y (oldest (channel_of at.x)) ≡ 0 = omega (arith, same, sends.1) in
          tells e read here call is who reply (ap (λ o. lag_in_channel o h) there ∙ ap (λ o. option_map (λ q. lag y q) o) moved ∙ ap Some none)

    by_call : e.call.channel ≡ c → (call : ChanCall V) → e.call.call ≡ call
        → slice_get (shown_at run (p + 1)) c ≡ Some ((of_chan {V = V}).next (broadcast_shown at.x) call) → Goes p at
    by_call here (call_of.B call) is there = by_broadcast here call is there
    by_call here (call_of.W call) is there = on (record { x = at.x; position = at.position; here = there; slot = at.slot; lags = at.lags }) refl (omega arith)

    goes_by : Goes p at
    goes_by =
        elim (cases_eq e.call.channel c) [
          | inl here ↦ by_call here e.call.call refl (channel_here shows run c p e within read (broadcast_shown at.x) at.here here)
          | inr apart ↦ on (record {
            x = at.x;
            position = at.position;
            here = channel_there shows run c p e within read apart ∙ at.here;
            slot = at.slot;
            lags = at.lags;
          }) refl (omega arith)
        ]

  pub goes : ShowsAtPlaces V → (p : ℕ) (at : LagsAt p) → p < length run.entries → Goes p at
  goes shows p at within = let one = element run.entries p within in goes_by shows p at one.0 within one.1

-- ---- which values were lost

module _ {V : Type 0} (run : Run V) (loss : Loss) (is : IsLoss run loss) where
  abbrev c : ℕ
  c = loss.channel

  abbrev h : ℕ
  h = loss.receiver

  abbrev stop : ℕ
  stop = stop_of (last_place run) loss.end

  lags_there : (p : ℕ) → loss.from ≤ p → p < stop → LagsAt run c h p
  lags_there p above below = lags_at run c h p (is.lags p above below)

  pub start : LagsAt run c h loss.from
  start = lags_there loss.from (omega arith) is.some

  abbrev first : ℕ
  first = start.position

  pub within_run : stop ≤ last_place run + 1
  within_run = stops (λ channel receiver place. lag_at (shown_at run place) channel receiver) (last_place run) c h loss.end is.ends

  same_on : (p : ℕ) → position_then run c h p ≡ Some first → loss.from ≤ p → p + 1 < stop → position_then run c h (p + 1) ≡ Some first
  same_on p same above below =
      let at = lags_there p above (omega (arith, below)) in
      let then : 0 < unwrap_or (lag_then run c h (p + 1)) 0 = is.lags (p + 1) (omega (arith, above)) below in
      by_going at (goes run c h (shows_at_places V) p at (omega (arith, below, within_run))) then where
        by_going : (at : LagsAt run c h p) → Goes run c h p at → 0 < unwrap_or (lag_then run c h (p + 1)) 0 → position_then run c h (p + 1) ≡ Some first
        by_going at (on next position more) then = position_is run c h (p + 1) next ∙ ap Some position ∙ sym (position_is run c h p at) ∙ same
        by_going at (left gone) then = let none : unwrap_or (lag_then run c h (p + 1)) 0 ≡ 0 = ap (λ o. unwrap_or o 0) gone in
            absurd (omega (arith, none, then))
        by_going at (tells e read here call call_is who reply rested) then =
            let none : unwrap_or (lag_then run c h (p + 1)) 0 ≡ 0 = ap (λ o. unwrap_or o 0) rested in
            absurd (omega (arith, none, then))

  same_by : (n : ℕ) → loss.from + n < stop → position_then run c h (loss.from + n) ≡ Some first
  same_by zero below =
      let e : loss.from ≡ loss.from + 0 = omega arith in
      subst (λ p. position_then run c h p ≡ Some first) e (position_is run c h loss.from start)
  same_by (suc n) below =
      let e : loss.from + n + 1 ≡ loss.from + suc n = omega arith in
      subst (λ p. position_then run c h p ≡ Some first) e
      (same_on (loss.from + n) (same_by n (omega (arith, below))) (omega arith) (omega (arith, below)))

  same_to : (p : ℕ) → loss.from ≤ p → p < stop → position_then run c h p ≡ Some first
  same_to p above below =
      let e : loss.from + (p - loss.from) ≡ p = omega (arith, above) in
      subst (λ q. position_then run c h q ≡ Some first) e (same_by (p - loss.from) (omega (arith, above, below)))

  all_lost : first + loss.lost ≡ oldest_at run c (stop - 1)
  all_lost =
      let some = is.some in
      let at = lags_there (stop - 1) (omega (arith, some)) (omega (arith, some)) in
      let position : Some at.position ≡ Some first = sym (position_is run c h (stop - 1) at) ∙ same_to (stop - 1) (omega (arith, some)) (omega (arith, some)) in
      let e : at.position ≡ first = cc in
      let lost : lag at.x at.position ≡ loss.lost = sym (ap (λ o. unwrap_or o 0) (lag_is run c h (stop - 1) at)) ∙ is.lost in
      omega (arith, e, lost, at.lags, oldest_is run c h (stop - 1) at)

pub lost_values_follow : (V : Type 0) → LostValuesFollow V
lost_values_follow V run loss is = (first run loss is, same_to run loss is, all_lost run loss is)

-- ---- who was told

module _ {V : Type 0} (run : Run V) (loss : Loss) (place : ℕ) (is_run : IsRun run.specs run.entries) (is : IsLoss run loss) (ends : loss.end ≡ Told place) where
  stop_is : stop_of (last_place run) loss.end ≡ place
  stop_is = ap (stop_of (last_place run)) ends

  at_end : (place ≤ last_place run) × (lag_then run loss.channel loss.receiver place ≡ Some 0)
  at_end = subst (λ end. EndsAs (λ channel receiver p. lag_at (shown_at run p) channel receiver) (last_place run) loss.channel loss.receiver end) ends is.ends

  begun : loss.from < place
  begun = omega (arith, is.some, stop_is)

  within : place - 1 < length run.entries
  within = omega (arith, begun, at_end.0)

  -- the last place of the loss
  lagged : LagsAt run loss.channel loss.receiver (place - 1)
  lagged = lags_at run loss.channel loss.receiver (place - 1) (is.lags (place - 1) (omega (arith, begun)) (omega (arith, begun, stop_is)))

  rests : lag_then run loss.channel loss.receiver (place - 1 + 1) ≡ Some 0
  rests = let back : place - 1 + 1 ≡ place = omega (arith, begun) in ap (λ p. lag_then run loss.channel loss.receiver p) back ∙ at_end.1

  lost_is : lag lagged.x lagged.position ≡ loss.lost
  lost_is =
      sym (ap (λ o. unwrap_or o 0) (lag_is run loss.channel loss.receiver (place - 1) lagged))
      ∙ ap (λ p. unwrap_or (lag_then run loss.channel loss.receiver (p - 1)) 0) (sym stop_is) ∙ is.lost

  entry_is : (e : WorldEntry V) → e ≡ get_or run.entries (place - 1) e → entry_to run place ≡ Some e
  entry_is e read =
      let some : 0 < place = omega (arith, begun) in
      let test : nat_lt 0 place ≡ true = grind (arith, nat_tests) in
      ap (λ b. cond b (slice_get run.entries (place - 1)) None) test ∙ slice_get-get_or run.entries (place - 1) e within ∙ ap Some (sym read)

  reply_is : (e : WorldEntry V) → e ≡ get_or run.entries (place - 1) e → e.call.channel ≡ loss.channel → (call : BCall V) → e.call.call ≡ call_of.B call
      → e.reply ≡ reply_of.B (effect (channel_of lagged.x) call).1
  reply_is e read here call is_call =
      let step : IsStep of_world (at_place run (place - 1)) e =
      subst (λ f. IsStep of_world (at_place run (place - 1)) f) (sym read)
      (step_at of_world (opening_row run.specs) run.entries (place - 1) e is_run.legal within) in
      step.reply
      ∙ ap (λ xs. reply_to (slice_get xs e.call.channel) e.call.call) (shows_at_places V run.specs run.entries (place - 1))
      ∙ ap (λ k. reply_to (slice_get (shown_at run (place - 1)) k) e.call.call) here
      ∙ ap (λ o. reply_to o e.call.call) lagged.here
      ∙ ap (λ k. reply_to (Some (broadcast_shown lagged.x)) k) is_call

  told_by : Goes run loss.channel loss.receiver (place - 1) lagged
      → (e : WorldEntry V) × (entry_to run place ≡ Some e) × (e.call.channel ≡ loss.channel) × TellsLag loss.receiver loss.lost e.call.call e.reply
  told_by (on next position more) =
      let some : Some (lag next.x next.position) ≡ Some 0 = sym (lag_is run loss.channel loss.receiver (place - 1 + 1) next) ∙ rests in
      let none : lag next.x next.position ≡ 0 = cc in
      absurd (omega (arith, none, next.lags))
  told_by (left gone) = let e : ◌≡◌ {A = Option ℕ} None (Some 0) = sym gone ∙ rests in absurd cc
  told_by (tells e read here call is_call who reply none) = (
    e,
    entry_is e read,
    here,
    subst (λ k. TellsLag loss.receiver loss.lost k e.reply) (sym is_call)
        (subst (λ r. TellsLag loss.receiver loss.lost (call_of.B call) r) (sym (reply_is e read here call is_call ∙ ap reply_of.B reply)) (who, lost_is)),
  )

pub told_losses_are_replies : (V : Type 0) → ToldLossesAreReplies V
told_losses_are_replies V run loss place is_run is ends =
    told_by run loss place is_run is ends
    (goes run loss.channel loss.receiver (shows_at_places V) (place - 1) (lagged run loss place is_run is ends) (within run loss place is_run is ends))
