-- The lines that show a broadcast channel.
use Rattle.std.specs.Prelude.{ℕ, List, [], ◌++◌, length, Option, None, Some, codes, slice_get}
use Rattle.std.specs.List.{flat_map, range_with_len}
use Rattle.rw_broadcast.specs.Arithmetic as number
use Rattle.rw_broadcast.specs.Shown.{Shown, channel_of}
use Rattle.rw_broadcast.specs.Channel.{oldest, queued, is_closed}
use Rattle.rw_broadcast.specs.Machine.{position_at}
use Rattle.rw_blocks.specs.Labels.{with_number, open_or_closed}
use Rattle.rw_blocks.specs.Handles.{senders_line, weak_line}

-- the numbers of the channel that has number i
unfoldable pub channel_numbers : ℕ → Shown ℕ → List ℕ
channel_numbers i x = with_number (codes "channel ") i ++ with_number (codes " broadcast capacity ") x.capacity ++ with_number (codes " sent ") x.sent
    ++ with_number (codes " queued ") (queued (channel_of x)) ++ with_number (codes " made ") (length x.slots)

unfoldable pub channel_line : ℕ → Shown ℕ → List ℕ
channel_line i x = channel_numbers i x ++ open_or_closed (is_closed (channel_of x))

-- the retained values, the oldest first
unfoldable pub window_line : Shown ℕ → List ℕ
window_line x = codes "window" ++ flat_map (with_number (codes " ")) x.window ++ codes "\n"

-- the line of handle h, if it is a live receiver, by its position
unfoldable pub receiver_line : Shown ℕ → ℕ → Option ℕ → List ℕ
receiver_line x h None = []
receiver_line x h (Some position) = with_number (codes "receiver ") h ++ with_number (codes " position ") position
    ++ with_number (codes " unread ") (number.unread x.sent position) ++ with_number (codes " lag ") (number.lag (oldest (channel_of x)) position) ++ codes "\n"

-- the lines of the live receivers among the first n handles, in order of number
unfoldable pub receiver_lines : Shown ℕ → ℕ → List ℕ
receiver_lines x n = flat_map (λ h. receiver_line x h (position_at (slice_get x.slots h))) (range_with_len 0 n)

-- all that is shown of the channel that has number i
abbrev pub broadcast_block : ℕ → Shown ℕ → List ℕ
broadcast_block i x = channel_line i x ++ window_line x ++ senders_line x.slots ++ weak_line x.slots ++ receiver_lines x (length x.slots)
