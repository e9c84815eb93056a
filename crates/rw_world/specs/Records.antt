-- The documented world: each channel as the record of all that ever happened to it, so with all that was ever sent.
use Rattle.std.specs.Prelude.{◌≡◌, ℕ, ◌+◌, true, List, map, take, slice_get, Some}
use Rattle.std.specs.List.{fold}
use Rattle.std.specs.Option.{option_map_or}
use Rattle.rw_law.specs.Journal.{IsLegal, after}
use Rattle.rw_broadcast.specs.Record as broadcast
use Rattle.rw_broadcast.specs.Shown.{shown as shown_broadcast}
use Rattle.rw_watch.specs.Record as watch
use Rattle.rw_watch.specs.Shown.{shown as shown_watch}
use Rattle.rw_world.specs.declared.channels.ChanCall.TheVariants as call
use Rattle.rw_world.specs.declared.channels.ChanReply.TheVariants as reply
use Rattle.rw_world.specs.declared.opening.Spec.{Spec}
use Rattle.rw_world.specs.declared.opening.Spec.TheVariants.{Broadcast, Watch}
use Rattle.rw_world.specs.declared.rows.RowCall.{RowCall}
use Rattle.rw_world.specs.Kinds.{broadcast_shown, watch_shown}
use Rattle.rw_world.specs.Lists.{map_at}
use Rattle.rw_world.specs.declared.channels.ChanCall.{ChanCall}
use Rattle.rw_world.specs.declared.channels.ChanReply.{ChanReply}
use Rattle.rw_world.specs.Machines.{ChanShown, of_world}
use Rattle.rw_world.specs.Openings.{opening_row}
use Rattle.rw_world.specs.Specified.{WorldEntry}

-- the record of a channel of either kind
pub data ChannelRecord (V : Type 0) : Type 0 where
  broadcast_record : broadcast.Record V → ChannelRecord V
  watch_record : watch.Record V → ChannelRecord V

module _ {V : Type 0} where
  -- a channel at its opening
  abbrev pub opened_record : Spec V → ChannelRecord V
  opened_record (Broadcast capacity) = broadcast_record (broadcast.opening_record capacity)
  opened_record (Watch init) = watch_record (watch.opening_record init)

  -- a world at its opening
  abbrev pub opened_records : List (Spec V) → List (ChannelRecord V)
  opened_records specs = map opened_record specs

  -- the documented step of a channel: the record after a call, and the reply. A call of the other kind gets NoChannel and
  -- changes nothing
  abbrev pub step_of : ChannelRecord V → ChanCall V → ChannelRecord V × ChanReply V
  step_of (broadcast_record r) (call.B c) = (broadcast_record (broadcast.step r c).0, reply.B (broadcast.step r c).1)
  step_of (broadcast_record r) (call.W d) = (broadcast_record r, reply.NoChannel)
  step_of (watch_record r) (call.B c) = (watch_record r, reply.NoChannel)
  step_of (watch_record r) (call.W d) = (watch_record (watch.step r d).0, reply.W (watch.step r d).1)

  -- a world after a call: its channel makes the documented step, and the others stay as they are
  abbrev pub next_records : List (ChannelRecord V) → RowCall (ChanCall V) → List (ChannelRecord V)
  next_records rs c = map_at (λ r. (step_of r c.call).0) rs c.channel

  -- the reply to a call: that of its channel, or NoChannel where there is no such channel
  abbrev pub reply_from : List (ChannelRecord V) → RowCall (ChanCall V) → ChanReply V
  reply_from rs c = option_map_or (λ r. (step_of r c.call).1) (slice_get rs c.channel) reply.NoChannel

  -- a world after these calls
  abbrev pub records_after : List (ChannelRecord V) → List (RowCall (ChanCall V)) → List (ChannelRecord V)
  records_after rs calls = fold next_records rs calls

  -- what a channel's record shows
  abbrev pub shown_record : ChannelRecord V → ChanShown V
  shown_record (broadcast_record r) = broadcast_shown (shown_broadcast r)
  shown_record (watch_record r) = watch_shown (shown_watch r)

  -- what a world's records show
  abbrev pub shown_records : List (ChannelRecord V) → List (ChanShown V)
  shown_records rs = map shown_record rs

  -- what a world's machines show after these calls
  abbrev pub shown_after : List (ChanShown V) → List (RowCall (ChanCall V)) → List (ChanShown V)
  shown_after xs calls = fold (of_world {V = V}).next xs calls

  -- what a world of these specs shows after these calls: what the records of all that was ever sent show
  abbrev pub documented_after : List (Spec V) → List (RowCall (ChanCall V)) → List (ChanShown V)
  documented_after specs calls = shown_records (records_after (opened_records specs) calls)

  -- ---- at the places of a journal

  -- the calls of the first n entries
  abbrev pub calls_before : List (WorldEntry V) → ℕ → List (RowCall (ChanCall V))
  calls_before es n = map (λ e. e.call) (take n es)

  -- the records of a world of these specs after the first n entries of its journal
  abbrev pub records_at : List (Spec V) → List (WorldEntry V) → ℕ → List (ChannelRecord V)
  records_at specs es n = records_after (opened_records specs) (calls_before es n)

  -- what the world shows there
  abbrev pub documented_at : List (Spec V) → List (WorldEntry V) → ℕ → List (ChanShown V)
  documented_at specs es n = documented_after specs (calls_before es n)

  -- each entry has the documented reply, that of the records after the entries before it; and one whose reply refuses has
  -- changed nothing
  pub record IsDocumented (specs : List (Spec V)) (es : List (WorldEntry V)) : Type 0 where
    pub reply : (n : ℕ) (e : WorldEntry V) → slice_get es n ≡ Some e → e.reply ≡ reply_from (records_at specs es n) e.call
    pub refused : (n : ℕ) (e : WorldEntry V)
        → slice_get es n ≡ Some e
        → (of_world {V = V}).refuses e.reply ≡ true
        → documented_at specs es (n + 1) ≡ documented_at specs es n

-- after any calls a world shows what its documented records show
abbrev pub ShowsItsRecords : Type 0 → Type 0
ShowsItsRecords V = (specs : List (Spec V)) (calls : List (RowCall (ChanCall V)))
    → shown_records (records_after (opened_records specs) calls) ≡ shown_after (opening_row specs) calls

-- after any calls a world replies to a call as documented
abbrev pub RepliesByRecords : Type 0 → Type 0
RepliesByRecords V = (specs : List (Spec V)) (calls : List (RowCall (ChanCall V))) (c : RowCall (ChanCall V))
    → (of_world {V = V}).reply_of (shown_after (opening_row specs) calls) c ≡ reply_from (records_after (opened_records specs) calls) c

-- after the first n entries of a journal a world shows what its documented records show there
abbrev pub ShowsAtPlaces : Type 0 → Type 0
ShowsAtPlaces V = (specs : List (Spec V)) (es : List (WorldEntry V)) (n : ℕ) → after of_world (opening_row specs) es n ≡ documented_at specs es n

-- a journal that is legal from the specs has the documented replies
abbrev pub RecordsAsDocumented : Type 0 → Type 0
RecordsAsDocumented V = (specs : List (Spec V)) (es : List (WorldEntry V)) → IsLegal of_world (opening_row specs) es → IsDocumented specs es

-- a step on what records show, where that is allowed, is their documented step: its reply is theirs, and what is shown after it
-- is what the records after it show
abbrev pub ShowsItsSteps : Type 0 → Type 0
ShowsItsSteps V = (rs : List (ChannelRecord V)) (c : RowCall (ChanCall V)) → (of_world {V = V}).allowed (shown_records rs) →
    ((of_world {V = V}).reply_of (shown_records rs) c ≡ reply_from rs c) × ((of_world {V = V}).next (shown_records rs) c ≡ shown_records (next_records rs c))
