-- What an opened run answers.
use Rattle.std.specs.Prelude.{◌≡◌, ℕ, nat_le, if◌then◌else◌, List, [], ◌++◌, Ok, Err, codes}
use Rattle.std.specs.List.{flat_map}
use Rattle.rw_blocks.specs.Json.{json_text}
use Rattle.rw_console.specs.Report.{commands_report}
use Rattle.rw_journal.specs.Run.{Run}
use Rattle.rw_law.specs.Numbers.{numbers}
use Rattle.rw_navigator.specs.Places.{last_place, shown_at}
use Rattle.rw_text.specs.declared.faults.TextFault.{TextFault}
use Rattle.rw_text.specs.Reading.{reading_of}

-- a run is read from the bytes
abbrev pub IsRead : List ℕ → Type 0
IsRead journal = (run : Run ℕ) × (reading_of numbers journal ≡ Ok run)

-- the bytes are no journal text
abbrev pub HasFault : List ℕ → Type 0
HasFault journal = (fault : TextFault) × (reading_of numbers journal ≡ Err fault)

-- what commands write over a run, from its last place on
abbrev pub answers_of : Run ℕ → List ℕ → List ℕ
answers_of run commands = commands_report run (last_place run) commands

-- the line with the state of a place, as the command `state json` writes it: none where there is no such place
abbrev pub state_line : Run ℕ → (place : ℕ) → List ℕ
state_line run place = if nat_le place (last_place run) then json_text (shown_at run place) (last_place run) place ++ codes "\n" else []

-- the same for some places, in order
abbrev pub state_lines : Run ℕ → (places : List ℕ) → List ℕ
state_lines run places = flat_map (state_line run) places
