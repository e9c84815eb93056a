-- The text of the peaks of a run.
use Rattle.std.specs.Prelude.{◌≡◌, ℕ, nat_lt, if◌then◌else◌, List, [], ◌∷◌, ◌++◌, length, slice_index_or, codes}
use Rattle.std.specs.List.{flat_map, list_any, range_with_len}
use Rattle.rw_journal.specs.Run.{Run}
use Rattle.rw_blocks.specs.Labels.{with_number}
use Rattle.rw_findings.specs.Peaks.{ArePeaks}
use Rattle.rw_findings.specs.declared.peaks.measure.Measure.{Measure}
use Rattle.rw_findings.specs.declared.peaks.measure.Measure.TheVariants.{Lag, Unread, Unseen}
use Rattle.rw_findings.specs.declared.peaks.measure.Stretches.{Stretches}

abbrev pub measure_word : Measure → List ℕ
measure_word Lag = codes "lag "
measure_word Unread = codes "unread "
measure_word Unseen = codes "unseen "

-- a receiver's peaks in this many stretches: what isn't in the row is 0
abbrev pub peak_numbers : (count : ℕ) → List ℕ → List ℕ
peak_numbers count row = flat_map (λ stretch. with_number (codes " ") (slice_index_or row stretch 0)) (range_with_len 0 count)

unfoldable pub row_line : Measure → (channel count receiver : ℕ) → List ℕ → List ℕ
row_line measure channel count receiver row =
    with_number (measure_word measure) channel
    ++ with_number (codes " ") receiver
    ++ peak_numbers count row
    ++ codes "\n"

-- a row whose peaks are all 0 isn't written
abbrev pub shown_row : Measure → (channel count receiver : ℕ) → List ℕ → List ℕ
shown_row measure channel count receiver row = if list_any (nat_lt 0) row then row_line measure channel count receiver row else []

abbrev pub shown_rows : Measure → (channel count : ℕ) → List (List ℕ) → (receivers : ℕ) → List ℕ
shown_rows measure channel count rows receivers = flat_map
    (λ receiver. shown_row measure channel count receiver (slice_index_or rows receiver []))
    (range_with_len 0 receivers)

-- the text is that of the peaks of a measure, by receiver
abbrev pub IsMeasureText : Run ℕ → Stretches → (channel : ℕ) → Measure → List ℕ → Type 0
IsMeasureText run stretches channel measure text =
    (rows : List (List ℕ)) × ArePeaks run channel measure stretches rows × (text ≡ shown_rows measure channel stretches.count rows (length rows))

-- the text is that of a channel: its receivers' lags, what they have yet to receive, and what they have not seen
pub record IsChannelText (run : Run ℕ) (stretches : Stretches) (channel : ℕ) (text : List ℕ) : Type 0 where
  pub lag : List ℕ
  pub unread : List ℕ
  pub unseen : List ℕ
  pub lag_is : IsMeasureText run stretches channel Lag lag
  pub unread_is : IsMeasureText run stretches channel Unread unread
  pub unseen_is : IsMeasureText run stretches channel Unseen unseen
  pub text_is : text ≡ lag ++ unread ++ unseen

-- the text is that of these channels, in order
abbrev pub AreChannelTexts : Run ℕ → Stretches → List ℕ → List ℕ → Type 0
AreChannelTexts run stretches [] text = text ≡ []
AreChannelTexts run stretches (channel ∷ channels) text =
    (first : List ℕ) × (rest : List ℕ) × IsChannelText run stretches channel first × AreChannelTexts run stretches channels rest × (text ≡ first ++ rest)
