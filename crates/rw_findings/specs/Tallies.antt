-- What the search for totals keeps of all channels, and how it makes the list.
use Rattle.std.specs.Prelude.{◌≡◌, ◌≤◌, ℕ, zero, suc, List, [], ◌∷◌, ◌++◌, length, map, Option, Some, None, option_map, slice_get}
use Rattle.rw_handles.specs.declared.table.TheConstants.{MOST_HANDLES}
use Rattle.rw_world.specs.declared.channels.ChanCall.{ChanCall}
use Rattle.rw_world.specs.declared.channels.ChanCall.TheVariants as call_of
use Rattle.rw_world.specs.declared.channels.ChanReply.{ChanReply}
use Rattle.rw_world.specs.declared.channels.ChanReply.TheVariants as reply_of
use Rattle.rw_world.specs.declared.opening.Spec.{Spec}
use Rattle.rw_world.specs.declared.opening.Spec.TheVariants as spec
use Rattle.rw_world.specs.Lists.{map_at}
use Rattle.rw_world.specs.Specified.{WorldEntry}
use Rattle.rw_findings.specs.BroadcastTallies as broadcast
use Rattle.rw_findings.specs.WatchTallies as watch
use Rattle.rw_findings.specs.declared.totals.total.Counts.{Counts}
use Rattle.rw_findings.specs.declared.totals.total.Counts.TheVariants as counts
use Rattle.rw_findings.specs.declared.totals.total.Totals.{Totals}
use Rattle.rw_findings.specs.declared.totals.tally.Tally.{Tally}
use Rattle.rw_findings.specs.declared.totals.tally.Tally.TheVariants.{Broadcast, Watch}

-- how many handles a channel has made
abbrev pub made_in : Tally → ℕ
made_in (Broadcast t) = length t.readers
made_in (Watch t) = length t.watchers

-- what a receiver has received and missed, if the handle ever was a receiver
abbrev pub counts_in : Tally → (h : ℕ) → Option Counts
counts_in (Broadcast t) h = option_map (λ r. counts.Broadcast (broadcast.counts_from t r)) (broadcast.reader_in t h)
counts_in (Watch t) h = option_map (λ w. counts.Watch (watch.counts_from t w)) (watch.watcher_in t h)

abbrev pub HasRoom : Tally → Type 0
HasRoom (Broadcast t) = broadcast.HasRoom t
HasRoom (Watch t) = watch.HasRoom t

module _ {V : Type 0} where
  -- a channel at its opening
  abbrev pub tally_of : Spec V → Tally
  tally_of (spec.Broadcast capacity) = Broadcast (broadcast.opened_broadcast capacity)
  tally_of (spec.Watch init) = Watch watch.opened_watch

  abbrev pub opened_tallies : List (Spec V) → List Tally
  opened_tallies specs = map tally_of specs

  -- with a call that got this reply and leads to this place
  abbrev pub with_reply : Tally → ChanCall V → ChanReply V → (place : ℕ) → Tally
  with_reply (Broadcast t) (call_of.B call) (reply_of.B reply) place = Broadcast (broadcast.with_call t call reply place)
  with_reply (Watch t) (call_of.W call) (reply_of.W reply) place = Watch (watch.with_call t call reply)
  with_reply t _ _ place = t

  abbrev pub with_entry : List Tally → WorldEntry V → (place : ℕ) → List Tally
  with_entry ts e place = map_at (λ t. with_reply t e.call.call e.reply place) ts e.call.channel

-- each channel has room
abbrev pub HaveRoom : List Tally → Type 0
HaveRoom ts = (channel : ℕ) (t : Tally) → slice_get ts channel ≡ Some t → HasRoom t

-- each channel has at most as many handles as it can make
abbrev pub HaveFewHandles : List Tally → Type 0
HaveFewHandles ts = (channel : ℕ) (t : Tally) → slice_get ts channel ≡ Some t → made_in t ≤ MOST_HANDLES

-- ---- the list

-- with the totals of one more receiver, if the handle ever was one
abbrev pub with_totals : List Totals → (channel receiver : ℕ) → Option Counts → List Totals
with_totals totals channel receiver None = totals
with_totals totals channel receiver (Some counts) = totals ++ record { channel = channel; receiver = receiver; counts = counts } ∷ []

-- with those of the first receivers of a channel
abbrev pub with_receivers : List Totals → Tally → (channel : ℕ) → (receivers : ℕ) → List Totals
with_receivers totals t channel zero = totals
with_receivers totals t channel (suc receiver) = with_totals (with_receivers totals t channel receiver) channel receiver (counts_in t receiver)

abbrev pub with_channel : List Totals → Option Tally → (channel : ℕ) → List Totals
with_channel totals (Some t) channel = with_receivers totals t channel (made_in t)
with_channel totals None channel = totals

-- with those of the first channels
abbrev pub with_channels : List Totals → List Tally → (channels : ℕ) → List Totals
with_channels totals ts zero = totals
with_channels totals ts (suc channel) = with_channel (with_channels totals ts channel) (slice_get ts channel) channel
