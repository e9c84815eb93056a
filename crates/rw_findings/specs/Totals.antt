-- What each receiver of a run received, and what it missed.
use Rattle.std.specs.Prelude.{◌≡◌, ℕ, zero, suc, ◌+◌, ◌-◌, ◌<◌, ◌≤◌, ◌⊎◌, Bool, true, false, nat_eq, ◌&&◌, List, length}
use Rattle.std.specs.Prelude.{count_by, Option, Some, None, IsSome, unwrap_or, slice_get, slice_index_or, option_and_then}
use Rattle.std.specs.List.{All, Contains}
use Rattle.rw_broadcast.specs.declared.calls.BReply.TheVariants as broadcast
use Rattle.rw_broadcast.specs.declared.calls.BCall.{BCall}
use Rattle.rw_broadcast.specs.declared.calls.BCall.TheVariants.{TryRecv, Recv}
use Rattle.rw_watch.specs.declared.calls.WCall.{WCall}
use Rattle.rw_watch.specs.declared.calls.WCall.TheVariants.{Borrow, Update, Changed}
use Rattle.rw_watch.specs.declared.calls.WReply.TheVariants.{Done}
use Rattle.rw_watch.specs.declared.calls.WReply.TheVariants as watch
use Rattle.rw_watch.specs.Machine.{mark_at}
use Rattle.rw_world.specs.declared.channels.ChanCall.{ChanCall}
use Rattle.rw_world.specs.declared.channels.ChanCall.TheVariants as call
use Rattle.rw_world.specs.declared.channels.ChanReply.{ChanReply}
use Rattle.rw_world.specs.declared.channels.ChanReply.TheVariants as reply
use Rattle.rw_world.specs.Machines.{ChanShown}
use Rattle.rw_world.specs.Specified.{WorldEntry}
use Rattle.rw_journal.specs.Run.{Run}
use Rattle.rw_navigator.specs.Conditions.{has, lag_at, unread_at, version_at, watch_at}
use Rattle.rw_navigator.specs.Places.{last_place, shown_at}
use Rattle.rw_findings.specs.declared.totals.total.BroadcastCounts.{BroadcastCounts}
use Rattle.rw_findings.specs.declared.totals.total.WatchCounts.{WatchCounts}
use Rattle.rw_findings.specs.declared.totals.total.Counts.{Counts}
use Rattle.rw_findings.specs.declared.totals.total.Counts.TheVariants.{Broadcast, Watch}
use Rattle.rw_findings.specs.declared.totals.total.Totals.{Totals}

-- ---- entries

module _ {V : Type 0} where
  -- the receiver that a call of a broadcast receives with
  abbrev pub receiver_in : BCall V → Option ℕ
  receiver_in (TryRecv h) = Some h
  receiver_in (Recv h) = Some h
  receiver_in _ = None

  -- receiver h of a broadcast received a value
  abbrev pub receives : (h : ℕ) → ChanCall V → ChanReply V → Bool
  receives h (call.B c) (reply.B (broadcast.Value v)) = has (λ g. nat_eq g h) (receiver_in c)
  receives h _ _ = false

  -- receiver h of a broadcast was told that it lags
  abbrev pub is_told : (h : ℕ) → ChanCall V → ChanReply V → Bool
  is_told h (call.B c) (reply.B (broadcast.Lagged n)) = has (λ g. nat_eq g h) (receiver_in c)
  is_told h _ _ = false

  -- the call is `changed` of receiver h
  abbrev pub awaits_change : (h : ℕ) → ChanCall V → Bool
  awaits_change h (call.W (Changed g)) = nat_eq g h
  awaits_change h _ = false

  -- receiver h of a watch was told of a change
  abbrev pub is_notified : (h : ℕ) → ChanCall V → ChanReply V → Bool
  is_notified h c (reply.W Done) = awaits_change h c
  is_notified h c _ = false

  -- the handle that a call of a watch looks at its value with: `borrow`, or `update`, which is tokio's `borrow_and_update`
  abbrev pub looker_in : WCall V → Option ℕ
  looker_in (Borrow h) = Some h
  looker_in (Update h) = Some h
  looker_in _ = None

  -- receiver h of a watch looked at the value
  abbrev pub looks : (h : ℕ) → ChanCall V → ChanReply V → Bool
  looks h (call.W c) (reply.W (watch.Value v)) = has (λ g. nat_eq g h) (looker_in c)
  looks h _ _ = false

  -- the entry that is made at a place is of a channel and passes the test
  abbrev pub passes_at : (channel : ℕ) → (ChanCall V → ChanReply V → Bool) → List (WorldEntry V) → (place : ℕ) → Bool
  passes_at channel test entries place = has (λ e. nat_eq e.call.channel channel && test e.call.call e.reply) (slice_get entries place)

  -- how many entries of a channel pass the test
  abbrev pub count_on : (channel : ℕ) → (ChanCall V → ChanReply V → Bool) → List (WorldEntry V) → ℕ
  count_on channel test entries = count_by (λ e. nat_eq e.call.channel channel && test e.call.call e.reply) entries

-- ---- numbers at places

-- by how much a number grew on the way from place 0 to a place, one place after the other
abbrev pub growth : (ℕ → ℕ) → (place : ℕ) → ℕ
growth at zero = 0
growth at (suc place) = growth at place + (at (suc place) - at place)

-- the greatest number at a place up to the last, and the first place that has it
pub record IsGreatest (at : ℕ → ℕ) (last greatest place : ℕ) : Type 0 where
  pub within : place ≤ last
  pub reached : at place ≡ greatest
  pub most : (p : ℕ) → p ≤ last → at p ≤ greatest
  pub first : (p : ℕ) → p < place → at p < greatest

-- how many of the numbers 1 to n meet P
pub data IsCount (P : ℕ → Type 0) : (n count : ℕ) → Type 0 where
  none : IsCount P 0 0
  one : {n count : ℕ} → IsCount P n count → P (suc n) → IsCount P (suc n) (suc count)
  other : {n count : ℕ} → IsCount P n count → (P (suc n) → ⊥) → IsCount P (suc n) count

-- ---- receivers

-- a receiver's totals come before another's: by channel, then by receiver
abbrev pub ComesFirst : Totals → Totals → Type 0
ComesFirst a b = (a.channel < b.channel) ⊎ ((a.channel ≡ b.channel) × (a.receiver < b.receiver))

-- where these are the mark of a receiver, if it is there, and the version at each place
module _ (mark : ℕ → Option (Option ℕ)) (version : ℕ → ℕ) (last : ℕ) where
  -- a change that arrived while the receiver was there: a call that made this version current
  pub record Arrived (changed : ℕ) : Type 0 where
    pub place : ℕ
    pub within : place < last
    pub there : IsSome (mark place)
    pub before : version place < changed
    pub after : version (place + 1) ≡ changed

  -- and that it missed: its mark never was this version
  abbrev pub IsMissed : ℕ → Type 0
  IsMissed changed = Arrived changed × ((place : ℕ) → place ≤ last → mark place ≡ Some (Some changed) → ⊥)

  -- and that it never looked at, where this says at which places it made a look: it made none while this version was current
  abbrev pub IsUnlooked : (looked : ℕ → Bool) → ℕ → Type 0
  IsUnlooked looked changed = Arrived changed × ((place : ℕ) → place < last → looked place ≡ true → version place ≡ changed → ⊥)

-- where this is shown at each place
module _ {V : Type 0} (at : ℕ → List (ChanShown V)) where
  -- the lag of a receiver, and 0 where it isn't there
  abbrev pub lag_there : (channel receiver place : ℕ) → ℕ
  lag_there channel receiver place = unwrap_or (lag_at (at place) channel receiver) 0

  -- the mark of a receiver of a watch, where it is there: the version that it has seen, if any
  abbrev pub mark_there : (channel receiver place : ℕ) → Option (Option ℕ)
  mark_there channel receiver place = option_and_then (λ y. mark_at (slice_get y.slots receiver)) (watch_at (at place) channel)

  abbrev pub version_there : (channel place : ℕ) → ℕ
  version_there channel place = unwrap_or (version_at (at place) channel) 0

-- where this is shown at each place, and these are the entries
module _ {V : Type 0} (at : ℕ → List (ChanShown V)) (entries : List (WorldEntry V)) (last : ℕ) where
  -- what a receiver of a broadcast received and lost
  pub record AreBroadcastCounts (channel receiver : ℕ) (counts : BroadcastCounts) : Type 0 where
    pub there : (place : ℕ) × (place ≤ last) × IsSome (lag_at (at place) channel receiver)
    pub received : counts.received ≡ count_on channel (receives receiver) entries
    pub told : counts.told ≡ count_on channel (is_told receiver) entries
    pub lost : counts.lost ≡ growth (lag_there at channel receiver) last
    pub worst : IsGreatest (lag_there at channel receiver) last counts.worst counts.worst_place
    pub unread : counts.unread ≡ unread_at (at last) channel receiver

  -- which changes a receiver of a watch was told of, which it missed, and which it never looked at
  pub record AreWatchCounts (channel receiver : ℕ) (counts : WatchCounts) : Type 0 where
    pub there : (place : ℕ) × (place ≤ last) × IsSome (mark_there at channel receiver place)
    pub changes : counts.changes ≡ count_on channel (is_notified receiver) entries
    pub missed : IsCount (IsMissed (mark_there at channel receiver) (version_there at channel) last) (version_there at channel last) counts.missed
    pub unlooked : IsCount (IsUnlooked (mark_there at channel receiver) (version_there at channel) last (passes_at channel (looks receiver) entries))
        (version_there at channel last) counts.unlooked

  abbrev pub AreCounts : (channel receiver : ℕ) → Counts → Type 0
  AreCounts channel receiver (Broadcast counts) = AreBroadcastCounts channel receiver counts
  AreCounts channel receiver (Watch counts) = AreWatchCounts channel receiver counts

  -- a receiver that was there at some place
  abbrev pub WasThere : (channel receiver : ℕ) → Type 0
  WasThere channel receiver = (place : ℕ) × (place ≤ last) × (IsSome (lag_at (at place) channel receiver) ⊎ IsSome (mark_there at channel receiver place))

  -- the list has the totals of each receiver that was there at some place, by channel, then by receiver
  pub record AreTotalsOf (totals : List Totals) : Type 0 where
    pub each : All (λ (t : Totals). AreCounts t.channel t.receiver t.counts) totals
    pub all : (channel receiver : ℕ)
        → WasThere channel receiver
        → (counts : Counts) × Contains totals (record { channel = channel; receiver = receiver; counts = counts })
    pub ordered : (i j : ℕ) (d : Totals) → i < j → j < length totals → ComesFirst (slice_index_or totals i d) (slice_index_or totals j d)

-- the totals of a run, by what is documented at its places
abbrev pub AreTotals : {V : Type 0} → Run V → List Totals → Type 0
AreTotals run totals = AreTotalsOf (shown_at run) run.entries (last_place run) totals
