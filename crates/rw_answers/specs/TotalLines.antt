-- The text of a run's totals.
use Rattle.std.specs.Prelude.{◌≡◌, ℕ, List, ◌++◌, codes}
use Rattle.std.specs.List.{flat_map}
use Rattle.rw_journal.specs.Run.{Run}
use Rattle.rw_blocks.specs.Labels.{with_number}
use Rattle.rw_findings.specs.Totals.{AreTotals}
use Rattle.rw_findings.specs.declared.totals.total.BroadcastCounts.{BroadcastCounts}
use Rattle.rw_findings.specs.declared.totals.total.WatchCounts.{WatchCounts}
use Rattle.rw_findings.specs.declared.totals.total.Counts.{Counts}
use Rattle.rw_findings.specs.declared.totals.total.Counts.TheVariants.{Broadcast, Watch}
use Rattle.rw_findings.specs.declared.totals.total.Totals.{Totals}
use Rattle.rw_answers.specs.Lines.{number_or_dash}

-- a receiver of a channel of this kind
abbrev pub receiver_words : List ℕ → (channel receiver : ℕ) → List ℕ
receiver_words kind channel receiver = with_number kind channel ++ with_number (codes " ") receiver

-- the line of a broadcast's receiver: how many values it received, how often it was told that it lags, how many values it lost, its greatest lag and the
-- first place with that lag, and how many values it has yet to receive
unfoldable pub broadcast_line : (channel receiver : ℕ) → BroadcastCounts → List ℕ
broadcast_line channel receiver counts =
    receiver_words (codes "broadcast ") channel receiver ++ with_number (codes " ") counts.received ++ with_number (codes " ") counts.told
    ++ with_number (codes " ") counts.lost ++ with_number (codes " ") counts.worst ++ with_number (codes " ") counts.worst_place
    ++ number_or_dash counts.unread ++ codes "\n"

-- the line of a watch's receiver: of how many changes it was told, how many it missed, and how many it never looked at
unfoldable pub watch_line : (channel receiver : ℕ) → WatchCounts → List ℕ
watch_line channel receiver counts =
    receiver_words (codes "watch ") channel receiver ++ with_number (codes " ") counts.changes ++ with_number (codes " ") counts.missed
    ++ with_number (codes " ") counts.unlooked ++ codes "\n"

abbrev pub counts_line : (channel receiver : ℕ) → Counts → List ℕ
counts_line channel receiver (Broadcast counts) = broadcast_line channel receiver counts
counts_line channel receiver (Watch counts) = watch_line channel receiver counts

abbrev pub totals_line : Totals → List ℕ
totals_line totals = counts_line totals.channel totals.receiver totals.counts

-- the text is that of a run's totals, a line each
abbrev pub IsTotalText : Run ℕ → List ℕ → Type 0
IsTotalText run text = (totals : List Totals) × AreTotals run totals × (text ≡ flat_map totals_line totals)
