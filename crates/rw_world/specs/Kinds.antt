-- The kinds of channels, and what a channel of either kind shows.
use Rattle.std.specs.Prelude.{Bool, true, false}
use Rattle.rw_world.specs.declared.kinds.ChannelKind.{ChannelKind}
use Rattle.rw_world.specs.declared.kinds.ChannelKind.TheVariants.{Broadcast, Watch}

-- what a broadcast shows, or what a watch shows
pub data Shown (V W : Type 0) : Type 0 where
  broadcast_shown : V → Shown V W
  watch_shown : W → Shown V W

abbrev pub channel_kind : {V W : Type 0} → Shown V W → ChannelKind
channel_kind (broadcast_shown x) = Broadcast
channel_kind (watch_shown y) = Watch

abbrev pub is_broadcast : ChannelKind → Bool
is_broadcast Broadcast = true
is_broadcast Watch = false
