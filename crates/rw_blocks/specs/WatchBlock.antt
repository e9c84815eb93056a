-- The lines that show a watch channel.
use Rattle.std.specs.Prelude.{ℕ, List, [], ◌++◌, length, Bool, true, false, not, Option, None, Some, codes, decimal, slice_get}
use Rattle.std.specs.List.{flat_map, range_with_len}
use Rattle.rw_watch.specs.Shown.{Shown}
use Rattle.rw_watch.specs.Channel.{is_closed, is_unseen}
use Rattle.rw_watch.specs.Machine.{mark_at}
use Rattle.rw_blocks.specs.Labels.{with_number, open_or_closed}
use Rattle.rw_blocks.specs.Handles.{senders_line}

-- the numbers of the channel that has number i
unfoldable pub channel_numbers : ℕ → Shown ℕ → List ℕ
channel_numbers i x = with_number (codes "channel ") i ++ with_number (codes " watch version ") x.version ++ with_number (codes " value ") x.value
    ++ with_number (codes " made ") (length x.slots)

unfoldable pub channel_line : ℕ → Shown ℕ → List ℕ
channel_line i x = channel_numbers i x ++ open_or_closed (is_closed x)

-- a version that was seen, or none
abbrev pub mark_text : Option ℕ → List ℕ
mark_text None = codes "none"
mark_text (Some version) = decimal version

abbrev pub seen_or_unseen : Bool → List ℕ
seen_or_unseen true = codes " seen\n"
seen_or_unseen false = codes " unseen\n"

-- the line of handle h, if it is a live receiver, by its mark
unfoldable pub receiver_line : Shown ℕ → ℕ → Option (Option ℕ) → List ℕ
receiver_line x h None = []
receiver_line x h (Some mark) = with_number (codes "receiver ") h ++ codes " mark " ++ mark_text mark ++ seen_or_unseen (not (is_unseen x.version mark))

-- the lines of the live receivers among the first n handles, in order of number
unfoldable pub receiver_lines : Shown ℕ → ℕ → List ℕ
receiver_lines x n = flat_map (λ h. receiver_line x h (mark_at (slice_get x.slots h))) (range_with_len 0 n)

-- all that is shown of the channel that has number i
abbrev pub watch_block : ℕ → Shown ℕ → List ℕ
watch_block i x = channel_line i x ++ senders_line x.slots ++ receiver_lines x (length x.slots)
