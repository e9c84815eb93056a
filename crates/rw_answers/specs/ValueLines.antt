-- The text of a channel's values.
use Rattle.std.specs.Prelude.{◌≡◌, ℕ, List, [], ◌++◌, length, Option, None, Some, slice_get, codes}
use Rattle.std.specs.List.{flat_map, range_with_len}
use Rattle.rw_journal.specs.Run.{Run}
use Rattle.rw_blocks.specs.Labels.{with_number}
use Rattle.rw_findings.specs.Values.{AreValues}
use Rattle.rw_findings.specs.declared.values.value.ChannelValue.{ChannelValue}
use Rattle.rw_answers.specs.Lines.{number_or_dash}

-- the line of a value: its channel and number, the value, the place since when it is there, and the place where it was overwritten
unfoldable pub value_line : (channel number : ℕ) → ChannelValue ℕ → List ℕ
value_line channel number value =
    with_number (codes "value ") channel ++ with_number (codes " ") number ++ with_number (codes " ") value.value ++ with_number (codes " ") value.since
    ++ number_or_dash value.overwritten ++ codes "\n"

abbrev pub value_line_at : (channel number : ℕ) → Option (ChannelValue ℕ) → List ℕ
value_line_at channel number None = []
value_line_at channel number (Some value) = value_line channel number value

-- the lines of the first values
abbrev pub value_lines : (channel : ℕ) → List (ChannelValue ℕ) → (count : ℕ) → List ℕ
value_lines channel values count = flat_map (λ number. value_line_at channel number (slice_get values number)) (range_with_len 0 count)

-- the text is that of a channel's values, a line each
abbrev pub IsValueText : Run ℕ → (channel : ℕ) → List ℕ → Type 0
IsValueText run channel text = (values : List (ChannelValue ℕ)) × AreValues run channel values × (text ≡ value_lines channel values (length values))
