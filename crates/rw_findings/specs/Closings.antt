-- The closings of a run: where the last sender of a channel was dropped, and what its receivers did then.
use Rattle.std.specs.Prelude.{◌≡◌, ℕ, ◌-◌, ◌<◌, ◌≤◌, ◌⊎◌, Bool, true, false, ◌||◌, nat_eq, is_some}
use Rattle.std.specs.Prelude.{List, length, take, drop, Option, Some, None, slice_index_or}
use Rattle.std.specs.List.{All, Contains}
use Rattle.rw_broadcast.specs.declared.calls.BReply.TheVariants as broadcast
use Rattle.rw_watch.specs.declared.calls.WCall.TheVariants.{Changed, HasChanged}
use Rattle.rw_watch.specs.declared.calls.WReply.TheVariants as watch
use Rattle.rw_world.specs.declared.channels.ChanCall.{ChanCall}
use Rattle.rw_world.specs.declared.channels.ChanCall.TheVariants as call
use Rattle.rw_world.specs.declared.channels.ChanReply.{ChanReply}
use Rattle.rw_world.specs.declared.channels.ChanReply.TheVariants as reply
use Rattle.rw_world.specs.Machines.{ChanShown}
use Rattle.rw_world.specs.Specified.{WorldEntry}
use Rattle.rw_journal.specs.Run.{Run}
use Rattle.rw_navigator.specs.Conditions.{has, closed_at, lag_at, seen_at}
use Rattle.rw_navigator.specs.Places.{shown_at}
use Rattle.rw_findings.specs.Totals.{receiver_in, count_on}
use Rattle.rw_findings.specs.declared.closings.closing.Closing.{Closing}
use Rattle.rw_findings.specs.declared.closings.closing.LateReader.{LateReader}

module _ {V : Type 0} where
  -- the receiver that an entry gave a value, or told of a change
  abbrev pub got_by : ChanCall V → ChanReply V → Option ℕ
  got_by (call.B c) (reply.B (broadcast.Value v)) = receiver_in c
  got_by (call.W (Changed h)) (reply.W watch.Done) = Some h
  got_by _ _ = None

  -- the receiver that an entry told that the channel is closed
  abbrev pub told_by : ChanCall V → ChanReply V → Option ℕ
  told_by (call.B c) (reply.B broadcast.Closed) = receiver_in c
  told_by (call.W (Changed h)) (reply.W watch.Closed) = Some h
  told_by (call.W (HasChanged h)) (reply.W watch.Closed) = Some h
  told_by _ _ = None

  abbrev pub gets : (h : ℕ) → ChanCall V → ChanReply V → Bool
  gets h c r = has (λ g. nat_eq g h) (got_by c r)

  abbrev pub is_told_closed : (h : ℕ) → ChanCall V → ChanReply V → Bool
  is_told_closed h c r = has (λ g. nat_eq g h) (told_by c r)

  -- a receiver of this number is there
  abbrev pub is_there : List (ChanShown V) → (channel receiver : ℕ) → Bool
  is_there xs channel receiver = is_some (lag_at xs channel receiver) || is_some (seen_at xs channel receiver)

-- a late reader comes before another: by channel, then by receiver
abbrev pub ComesFirst : LateReader → LateReader → Type 0
ComesFirst a b = (a.channel < b.channel) ⊎ ((a.channel ≡ b.channel) × (a.receiver < b.receiver))

-- where this is shown at each place, and these are the entries
module _ {V : Type 0} (at : ℕ → List (ChanShown V)) (entries : List (WorldEntry V)) where
  -- how many entries of a channel pass the test, of those that lead to the places after `from` up to `to`
  abbrev pub count_between : (channel : ℕ) → (ChanCall V → ChanReply V → Bool) → (from to : ℕ) → ℕ
  count_between channel test from to = count_on channel test (drop from (take to entries))

  -- the first place at which the channel has no sender
  pub record IsClosing (channel closing : ℕ) : Type 0 where
    pub within : closing ≤ length entries
    pub closed : closed_at (at closing) channel ≡ Some true
    pub before : (place : ℕ) → place < closing → closed_at (at place) channel ≡ Some false

  -- the first place after `from` to which an entry leads that passes the test, if there is one
  abbrev pub IsFirst : (channel : ℕ) → (ChanCall V → ChanReply V → Bool) → (from : ℕ) → Option ℕ → Type 0
  IsFirst channel test from None = count_between channel test from (length entries) ≡ 0
  IsFirst channel test from (Some place) = (from < place) × (count_between channel test from (place - 1) ≡ 0) × (count_between channel test from place ≡ 1)

  -- a receiver that was there where its channel closed: where it was first told, and how much it received from then on
  pub record IsLate (late : LateReader) : Type 0 where
    pub closing : ℕ
    pub closes : IsClosing late.channel closing
    pub there : is_there (at closing) late.channel late.receiver ≡ true
    pub told : IsFirst late.channel (is_told_closed late.receiver) closing late.told
    pub read_on : late.read_on ≡ count_between late.channel (gets late.receiver) closing (length entries)

  -- the lists have all closings, by channel, and all receivers that were there then, by channel, then by receiver
  pub record AreClosingsOf (closings : List Closing) (readers : List LateReader) : Type 0 where
    pub each : All (λ (c : Closing). IsClosing c.channel c.place) closings
    pub all : (channel place : ℕ) → IsClosing channel place → Contains closings (record { channel = channel; place = place })
    pub ordered : (i j : ℕ) (d : Closing) → i < j → j < length closings → (slice_index_or closings i d).channel < (slice_index_or closings j d).channel
    pub each_reader : All IsLate readers
    pub all_readers : (channel receiver closing : ℕ) → IsClosing channel closing → is_there (at closing) channel receiver ≡ true
        → (told : Option ℕ) × (read_on : ℕ) × Contains readers (record { channel = channel; receiver = receiver; told = told; read_on = read_on })
    pub ordered_readers : (i j : ℕ) (d : LateReader) → i < j → j < length readers → ComesFirst (slice_index_or readers i d) (slice_index_or readers j d)

-- the closings of a run, by what is documented at its places
abbrev pub AreClosings : {V : Type 0} → Run V → List Closing → List LateReader → Type 0
AreClosings run closings readers = AreClosingsOf (shown_at run) run.entries closings readers
