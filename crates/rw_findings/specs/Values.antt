-- The values of a channel: since when each is there, and where it was overwritten.
use Rattle.std.specs.Prelude.{◌≡◌, ℕ, ◌+◌, ◌-◌, ◌<◌, ◌≤◌, ◌⊎◌, Bool, true, false, nat_eq, nat_le, nat_lt, if◌then◌else◌}
use Rattle.std.specs.Prelude.{List, [], ◌∷◌, ◌++◌, length, Option, None, Some, option_and_then, slice_get}
use Rattle.std.specs.Option.{option_map_or}
use Rattle.rw_broadcast.specs.Arithmetic.{oldest}
use Rattle.rw_broadcast.specs.Shown.{channel_of}
use Rattle.rw_journal.specs.Run.{Run}
use Rattle.rw_navigator.specs.Places.{last_place, shown_at}
use Rattle.rw_world.specs.Kinds.{broadcast_shown, watch_shown}
use Rattle.rw_world.specs.Lists.{map_at}
use Rattle.rw_world.specs.Machines.{ChanShown}
use Rattle.rw_findings.specs.declared.values.value.ChannelValue.{ChannelValue}

module _ {V : Type 0} where
  -- how many values a channel has had: those sent to a broadcast; or the first value of a watch, and one for each change that its receivers were notified of
  abbrev pub count_in : ChanShown V → ℕ
  count_in (broadcast_shown x) = x.sent
  count_in (watch_shown y) = y.version + 1

  -- the number of the oldest value that it still has. Values are numbered from 0.
  abbrev pub oldest_in : ChanShown V → ℕ
  oldest_in (broadcast_shown x) = oldest x.sent x.capacity
  oldest_in (watch_shown y) = y.version

  -- the value of a number that it has
  abbrev pub value_in : ChanShown V → ℕ → Option V
  value_in (broadcast_shown x) number = (channel_of x).value number
  value_in (watch_shown y) number = if nat_eq number y.version then Some y.value else None

  -- the same at a place of a run
  abbrev pub count_at : Run V → (channel place : ℕ) → ℕ
  count_at run channel place = option_map_or count_in (slice_get (shown_at run place) channel) 0

  abbrev pub oldest_at : Run V → (channel place : ℕ) → ℕ
  oldest_at run channel place = option_map_or oldest_in (slice_get (shown_at run place) channel) 0

  abbrev pub value_at : Run V → (channel number place : ℕ) → Option V
  value_at run channel number place = option_and_then (λ x. value_in x number) (slice_get (shown_at run place) channel)

  -- up to a place: the channel still has the value there, or the call that leads to another overwrote it
  abbrev pub GoesAt : Run V → (channel number last : ℕ) → Option ℕ → Type 0
  GoesAt run channel number last None = oldest_at run channel last ≤ number
  GoesAt run channel number last (Some place) =
      (0 < place) × (place ≤ last) × (oldest_at run channel (place - 1) ≤ number) × (number < oldest_at run channel place)

  -- up to a place, this is the channel's value of this number
  pub record IsValue (run : Run V) (channel number last : ℕ) (value : ChannelValue V) : Type 0 where
    pub inside : value.since ≤ last
    pub came : number < count_at run channel value.since
    pub fresh : (value.since ≡ 0) ⊎ (count_at run channel (value.since - 1) ≤ number)
    pub is : value_at run channel number value.since ≡ Some value.value
    pub goes : GoesAt run channel number last value.overwritten

  -- up to a place, these are the channel's values, by number
  pub record AreValuesTo (run : Run V) (channel last : ℕ) (values : List (ChannelValue V)) : Type 0 where
    pub many : length values ≡ count_at run channel last
    pub each : (number : ℕ) (value : ChannelValue V) → slice_get values number ≡ Some value → IsValue run channel number last value

  -- these are the channel's values in the whole run
  abbrev pub AreValues : Run V → (channel : ℕ) → List (ChannelValue V) → Type 0
  AreValues run channel values = AreValuesTo run channel (last_place run) values

  -- ---- inside

  -- a channel has had a value of this number
  abbrev pub has_had : ChanShown V → ℕ → Bool
  has_had (broadcast_shown x) number = nat_lt number x.sent
  has_had (watch_shown y) number = nat_le number y.version

  -- a value that came at this place
  abbrev pub come : V → (place : ℕ) → ChannelValue V
  come value place = record { value = value; since = place; overwritten = None }

  abbrev pub gone : (place : ℕ) → ChannelValue V → ChannelValue V
  gone place value = record { value = value.value; since = value.since; overwritten = Some place }

  -- the value before the oldest was overwritten at this place, if there is one
  abbrev pub with_gone : List (ChannelValue V) → (oldest place : ℕ) → List (ChannelValue V)
  with_gone values oldest place = if nat_lt 0 oldest then map_at (gone place) values (oldest - 1) else values

  -- from values to values, by what is shown at this place: one came, if there is one more
  abbrev pub NotedState : (old new : List (ChannelValue V)) → ChanShown V → (place : ℕ) → Type 0
  NotedState old new x place =
      ((new ≡ old) × ((has_had x (length old) ≡ false) ⊎ (value_in x (length old) ≡ None)))
      ⊎ ((value : V)
      × (has_had x (length old) ≡ true)
      × (value_in x (length old) ≡ Some value)
      × (new ≡ with_gone (old ++ come value place ∷ []) (oldest_in x) place))
