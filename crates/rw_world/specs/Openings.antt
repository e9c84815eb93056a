-- What a world shows at its opening, by its specs.
use Rattle.std.specs.Prelude.{Bool, false, ◌||◌, nat_eq, nat_lt, if◌then◌else◌, List, length, map, position, Option, Some}
use Rattle.std.specs.Option.{option_map}
use Rattle.rw_ring.specs.declared.ring.TheConstants.{MOST_CAPACITY}
use Rattle.rw_broadcast.specs.Record.{opening_record as opened_broadcast}
use Rattle.rw_broadcast.specs.Shown.{shown as shown_broadcast}
use Rattle.rw_watch.specs.Record.{opening_record as opened_watch}
use Rattle.rw_watch.specs.Shown.{shown as shown_watch}
use Rattle.rw_world.specs.declared.opening.TheConstants.{MOST_CHANNELS}
use Rattle.rw_world.specs.declared.opening.Spec.{Spec}
use Rattle.rw_world.specs.declared.opening.Spec.TheVariants.{Broadcast, Watch}
use Rattle.rw_world.specs.declared.opening.OpenFault.{OpenFault}
use Rattle.rw_world.specs.declared.opening.OpenFault.TheVariants.{NoChannels, TooManyChannels, BadCapacity}
use Rattle.rw_world.specs.declared.kinds.ChannelKind.{ChannelKind}
use Rattle.rw_world.specs.declared.kinds.ChannelKind.TheVariants as kind
use Rattle.rw_world.specs.Kinds.{broadcast_shown, watch_shown}
use Rattle.rw_world.specs.Machines.{ChanShown}

module _ {V : Type 0} where
  -- what a channel shows at its opening
  abbrev pub opened_channel : Spec V → ChanShown V
  opened_channel (Broadcast capacity) = broadcast_shown (shown_broadcast (opened_broadcast capacity))
  opened_channel (Watch init) = watch_shown (shown_watch (opened_watch init))

  -- what a world shows at its opening
  abbrev pub opening_row : List (Spec V) → List (ChanShown V)
  opening_row specs = map opened_channel specs

  -- the kind of channel that is opened
  abbrev pub spec_kind : Spec V → ChannelKind
  spec_kind (Broadcast capacity) = kind.Broadcast
  spec_kind (Watch init) = kind.Watch

  -- a capacity of 0, or above the greatest
  abbrev pub has_bad_capacity : Spec V → Bool
  has_bad_capacity (Broadcast capacity) = nat_eq capacity 0 || nat_lt MOST_CAPACITY capacity
  has_bad_capacity (Watch init) = false

  -- why no world is opened: no channel, too many, or the first bad capacity
  abbrev pub refusal : List (Spec V) → Option OpenFault
  refusal specs =
      if nat_eq (length specs) 0 then Some NoChannels
      else if nat_lt MOST_CHANNELS (length specs) then Some TooManyChannels
      else option_map (λ i. BadCapacity i) (position has_bad_capacity specs)
