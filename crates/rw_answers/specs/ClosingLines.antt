-- The text of a run's closings.
use Rattle.std.specs.Prelude.{◌≡◌, ℕ, List, ◌++◌, codes}
use Rattle.std.specs.List.{flat_map}
use Rattle.rw_journal.specs.Run.{Run}
use Rattle.rw_blocks.specs.Labels.{with_number}
use Rattle.rw_findings.specs.Closings.{AreClosings}
use Rattle.rw_findings.specs.declared.closings.closing.Closing.{Closing}
use Rattle.rw_findings.specs.declared.closings.closing.LateReader.{LateReader}
use Rattle.rw_answers.specs.Lines.{number_or_dash}

-- the line of a channel that has no sender any more: its number, and the place where it lost the last one
unfoldable pub closing_line : Closing → List ℕ
closing_line closing = with_number (codes "closed ") closing.channel ++ with_number (codes " ") closing.place ++ codes "\n"

-- the line of a receiver that was there then: its channel and number, the place where it was first told, and how much it received from then on
unfoldable pub late_line : LateReader → List ℕ
late_line late =
    with_number (codes "late ") late.channel ++ with_number (codes " ") late.receiver ++ number_or_dash late.told ++ with_number (codes " ") late.read_on
    ++ codes "\n"

-- the text is that of a run's closings, and then of the receivers that were there, a line each
abbrev pub IsClosingText : Run ℕ → List ℕ → Type 0
IsClosingText run text =
    (closings : List Closing) × (readers : List LateReader) × AreClosings run closings readers
    × (text ≡ flat_map closing_line closings ++ flat_map late_line readers)
