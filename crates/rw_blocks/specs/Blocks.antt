-- The lines that show the channels of a world.
use Rattle.std.specs.Prelude.{ℕ, List, [], length, Option, None, Some, slice_get}
use Rattle.std.specs.List.{flat_map, range_with_len}
use Rattle.rw_world.specs.Kinds.{broadcast_shown, watch_shown}
use Rattle.rw_world.specs.Machines.{ChanShown}
use Rattle.rw_blocks.specs.BroadcastBlock.{broadcast_block}
use Rattle.rw_blocks.specs.WatchBlock.{watch_block}

-- the lines of the channel that has number i
abbrev pub channel_block : ℕ → ChanShown ℕ → List ℕ
channel_block i (broadcast_shown x) = broadcast_block i x
channel_block i (watch_shown x) = watch_block i x

abbrev pub block_of : ℕ → Option (ChanShown ℕ) → List ℕ
block_of i None = []
block_of i (Some x) = channel_block i x

-- the lines of the first n channels, in order of number
unfoldable pub first_blocks : List (ChanShown ℕ) → ℕ → List ℕ
first_blocks xs n = flat_map (λ i. block_of i (slice_get xs i)) (range_with_len 0 n)

-- the lines of all channels
abbrev pub world_blocks : List (ChanShown ℕ) → List ℕ
world_blocks xs = first_blocks xs (length xs)
