-- The text of the lives of a run's handles.
use Rattle.std.specs.Prelude.{◌≡◌, ℕ, nat_lt, if◌then◌else◌, List, [], ◌++◌, length, Option, None, Some, slice_get, slice_index_or, codes}
use Rattle.std.specs.List.{flat_map, range_with_len}
use Rattle.rw_handles.specs.declared.kinds.Kind.{Kind}
use Rattle.rw_handles.specs.declared.kinds.Kind.TheVariants.{Sender, Receiver, Weak}
use Rattle.rw_journal.specs.Run.{Run}
use Rattle.rw_blocks.specs.Labels.{with_number}
use Rattle.rw_findings.specs.Lives.{AreLives, Life}
use Rattle.rw_answers.specs.Lines.{number_or_dash}

abbrev pub kind_word : Kind → List ℕ
kind_word Sender = codes " sender"
kind_word Receiver = codes " receiver"
kind_word Weak = codes " weak-sender"

-- an actor and how many calls it made, if it made any
abbrev pub caller_words : (actor calls : ℕ) → List ℕ
caller_words actor calls = if nat_lt 0 calls then with_number (codes " ") actor ++ with_number (codes " ") calls else []

-- the first actors
abbrev pub callers_words : List ℕ → (actors : ℕ) → List ℕ
callers_words calls actors = flat_map (λ actor. caller_words actor (slice_index_or calls actor 0)) (range_with_len 0 actors)

-- the line of a handle: its channel and number, its kind, the place where it was made and by whom, the place where it was dropped,
-- and who called with it
unfoldable pub life_line : (channel handle : ℕ) → Life → List ℕ
life_line channel handle life =
    with_number (codes "handle ") channel ++ with_number (codes " ") handle ++ kind_word life.kind ++ with_number (codes " ") life.made
    ++ number_or_dash life.maker ++ number_or_dash life.dropped ++ callers_words life.calls (length life.calls) ++ codes "\n"

abbrev pub life_line_at : (channel handle : ℕ) → Option Life → List ℕ
life_line_at channel handle None = []
life_line_at channel handle (Some life) = life_line channel handle life

-- the lines of the first handles
abbrev pub life_lines : (channel : ℕ) → List Life → (handles : ℕ) → List ℕ
life_lines channel lives handles = flat_map (λ handle. life_line_at channel handle (slice_get lives handle)) (range_with_len 0 handles)

-- the text is that of the lives of a channel's handles
abbrev pub IsLifeText : Run ℕ → (channel : ℕ) → List ℕ → Type 0
IsLifeText run channel text = (lives : List Life) × AreLives run channel lives × (text ≡ life_lines channel lives (length lives))
