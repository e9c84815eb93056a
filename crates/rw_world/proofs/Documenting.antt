-- A world shows what its documented records show, and replies as they do.
use Rattle.std.proofs.Common.{◌≡◌, ℕ, zero, suc, List, [], ◌∷◌, refl, sym, ap, ◌∙◌, subst}
use Rattle.std.specs.Prelude.{slice_get}
use Rattle.std.specs.Option.{option_map_or}
use Rattle.rw_law.specs.Journal.{LawsOf}
use Rattle.rw_broadcast.specs.Soundness.{broadcast_laws}
use Rattle.rw_broadcast.proofs.Showing as broadcast
use Rattle.rw_watch.specs.Soundness.{watch_laws}
use Rattle.rw_watch.proofs.Showing as watch
use Rattle.rw_world.specs.declared.channels.ChanCall.TheVariants as call
use Rattle.rw_world.specs.declared.channels.ChanReply.TheVariants as reply
use Rattle.rw_world.specs.declared.opening.Spec.{Spec}
use Rattle.rw_world.specs.declared.opening.Spec.TheVariants.{Broadcast, Watch}
use Rattle.rw_world.specs.declared.rows.RowCall.{RowCall}
use Rattle.rw_world.specs.Channel.{no_channel}
use Rattle.rw_world.specs.ChannelLaws.{channel_laws}
use Rattle.rw_world.specs.Kinds.{broadcast_shown, watch_shown}
use Rattle.rw_world.specs.Lists.{map_at, Each}
use Rattle.rw_world.specs.declared.channels.ChanCall.{ChanCall}
use Rattle.rw_world.specs.Machines.{ChanShown, of_broadcast, of_watch, of_chan, of_world}
use Rattle.rw_world.specs.Openings.{opened_channel, opening_row}
use Rattle.rw_world.specs.Records.{ChannelRecord, broadcast_record, watch_record, opened_records, step_of, next_records, records_after}
use Rattle.rw_world.specs.Records.{shown_record, shown_records, shown_after, ShowsItsRecords, RepliesByRecords, ShowsItsSteps}
use Rattle.rw_world.specs.RowLaws.{row_laws}

module _ {V : Type 0} where
  pub chan_laws : LawsOf (of_chan {V = V})
  chan_laws = channel_laws of_broadcast of_watch broadcast_laws watch_laws

  -- what each record shows is allowed
  abbrev pub AreAllowed : List (ChanShown V) → Type 0
  AreAllowed xs = Each (of_chan {V = V}).allowed xs

  -- a step of a channel on what its record shows is the step of the record
  shows_step : (r : ChannelRecord V) (c : ChanCall V) → (of_chan {V = V}).allowed (shown_record r)
      → (of_chan {V = V}).next (shown_record r) c ≡ shown_record (step_of r c).0
  shows_step (broadcast_record r) (call.B c) allowed = ap broadcast_shown (broadcast.shows_its_steps V r c allowed.some_capacity).1
  shows_step (broadcast_record r) (call.W d) allowed = refl
  shows_step (watch_record r) (call.B c) allowed = refl
  shows_step (watch_record r) (call.W d) allowed = ap watch_shown (watch.shows_its_steps V r d).1

  replies_step : (r : ChannelRecord V) (c : ChanCall V) → (of_chan {V = V}).allowed (shown_record r)
      → (of_chan {V = V}).reply_of (shown_record r) c ≡ (step_of r c).1
  replies_step (broadcast_record r) (call.B c) allowed = ap reply.B (broadcast.shows_its_steps V r c allowed.some_capacity).0
  replies_step (broadcast_record r) (call.W d) allowed = refl
  replies_step (watch_record r) (call.B c) allowed = refl
  replies_step (watch_record r) (call.W d) allowed = ap reply.W (watch.shows_its_steps V r d).0

  shows_step_at : (rs : List (ChannelRecord V)) (i : ℕ) (c : ChanCall V) → AreAllowed (shown_records rs)
      → shown_records (map_at (λ r. (step_of r c).0) rs i) ≡ map_at (λ x. (of_chan {V = V}).next x c) (shown_records rs) i
  shows_step_at [] i c allowed = refl
  shows_step_at (r ∷ rs) zero c allowed = ap (λ x. x ∷ shown_records rs) (sym (shows_step r c allowed.0))
  shows_step_at (r ∷ rs) (suc i) c allowed = ap (λ xs. shown_record r ∷ xs) (shows_step_at rs i c allowed.1)

  replies_at : (rs : List (ChannelRecord V)) (i : ℕ) (c : ChanCall V) → AreAllowed (shown_records rs)
      → option_map_or (λ x. (of_chan {V = V}).reply_of x c) (slice_get (shown_records rs) i) reply.NoChannel
      ≡ option_map_or (λ r. (step_of r c).1) (slice_get rs i) reply.NoChannel
  replies_at [] i c allowed = refl
  replies_at (r ∷ rs) zero c allowed = replies_step r c allowed.0
  replies_at (r ∷ rs) (suc i) c allowed = replies_at rs i c allowed.1

  allowed_next : (rs : List (ChannelRecord V)) (c : RowCall (ChanCall V)) → AreAllowed (shown_records rs) → AreAllowed (shown_records (next_records rs c))
  allowed_next rs c allowed =
      subst AreAllowed (sym (shows_step_at rs c.channel c.call allowed)) ((row_laws of_chan no_channel chan_laws).next_allowed (shown_records rs) c allowed)

  allowed_after : (rs : List (ChannelRecord V)) (calls : List (RowCall (ChanCall V))) → AreAllowed (shown_records rs)
      → AreAllowed (shown_records (records_after rs calls))
  allowed_after rs [] allowed = allowed
  allowed_after rs (c ∷ calls) allowed = allowed_after (next_records rs c) calls (allowed_next rs c allowed)

  shows_after : (rs : List (ChannelRecord V)) (calls : List (RowCall (ChanCall V))) → AreAllowed (shown_records rs)
      → shown_records (records_after rs calls) ≡ shown_after (shown_records rs) calls
  shows_after rs [] allowed = refl
  shows_after rs (c ∷ calls) allowed =
      shows_after (next_records rs c) calls (allowed_next rs c allowed)
      ∙ ap (λ xs. shown_after xs calls) (shows_step_at rs c.channel c.call allowed)

  pub allowed_opened : (specs : List (Spec V)) → AreAllowed (shown_records (opened_records specs))
  allowed_opened [] = tt
  allowed_opened (Broadcast capacity ∷ specs) = (broadcast.shows_allowed V capacity [], allowed_opened specs)
  allowed_opened (Watch init ∷ specs) = (watch.shows_allowed V init [], allowed_opened specs)

  pub shows_opened : (specs : List (Spec V)) → shown_records (opened_records specs) ≡ opening_row specs
  shows_opened [] = refl
  shows_opened (Broadcast capacity ∷ specs) = ap (λ xs. opened_channel (Broadcast capacity) ∷ xs) (shows_opened specs)
  shows_opened (Watch init ∷ specs) = ap (λ xs. opened_channel (Watch init) ∷ xs) (shows_opened specs)

pub shows_its_records : (V : Type 0) → ShowsItsRecords V
shows_its_records V specs calls =
    shows_after (opened_records specs) calls (allowed_opened specs)
    ∙ ap (λ xs. shown_after xs calls) (shows_opened specs)

pub replies_by_records : (V : Type 0) → RepliesByRecords V
replies_by_records V specs calls c =
    let rs = records_after (opened_records specs) calls in
    let reply_to = λ (xs : List (ChanShown V)). (of_world {V = V}).reply_of xs c in
    ap reply_to (sym (shows_its_records V specs calls)) ∙ replies_at rs c.channel c.call (allowed_after (opened_records specs) calls (allowed_opened specs))

pub shows_its_steps : (V : Type 0) → ShowsItsSteps V
shows_its_steps V rs c allowed = (replies_at rs c.channel c.call allowed, sym (shows_step_at rs c.channel c.call allowed))
