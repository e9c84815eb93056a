-- The report of commands: what they write at the places of a run.
use Rattle.std.specs.Prelude.{ℕ, List, [], ◌∷◌, ◌++◌, Option, None, Some, if◌then◌else◌, codes}
use Rattle.std.specs.Option.{unwrap_or}
use Rattle.rw_journal.specs.Run.{Run}
use Rattle.rw_lines.specs.Lines.{lines}
use Rattle.rw_navigator.specs.Moves.{answer_to, landing}
use Rattle.rw_world.specs.Specified.{WorldEntry}
use Rattle.rw_console.specs.declared.command.Command.{Command}
use Rattle.rw_console.specs.declared.command.Command.TheVariants.{Skip, Move, State, StateJson, Step, List as ListEntries, SearchBack, SearchForward, Quit, Bad}
use Rattle.rw_blocks.specs.Blocks.{world_blocks}
use Rattle.rw_console.specs.Commands.{command_in, is_quit}
use Rattle.rw_console.specs.Entries.{entry_line, entry_lines}
use Rattle.rw_console.specs.Hits.{hit_below, hit_above}
use Rattle.rw_blocks.specs.Json.{json_text}
use Rattle.rw_navigator.specs.Places.{last_place, shown_at, entry_to}
use Rattle.rw_console.specs.Texts.{hit_line, place_line, refusal}

-- what `step` writes at a place, by the entry that leads there
abbrev pub step_line : ℕ → Option (WorldEntry ℕ) → List ℕ
step_line place None = codes "no step\n"
step_line place (Some entry) = entry_line place entry

-- what a command writes at a place
abbrev pub output_of : Run ℕ → ℕ → Command → List ℕ
output_of run place Skip = []
output_of run place (Move m) = refusal (answer_to (last_place run) place m) ++ place_line (last_place run) (landing (last_place run) place m)
output_of run place State = place_line (last_place run) place ++ world_blocks (shown_at run place)
output_of run place StateJson = json_text (shown_at run place) (last_place run) place ++ codes "\n"
output_of run place Step = step_line place (entry_to run place)
output_of run place ListEntries = entry_lines 1 run.entries
output_of run place (SearchBack cond) = hit_line (last_place run) place (hit_below run cond place)
output_of run place (SearchForward cond) = hit_line (last_place run) place (hit_above run cond place)
output_of run place Quit = []
output_of run place Bad = codes "bad command\n"

-- the place after a command
abbrev pub place_of : Run ℕ → ℕ → Command → ℕ
place_of run place (Move m) = landing (last_place run) place m
place_of run place (SearchBack cond) = unwrap_or (hit_below run cond place) place
place_of run place (SearchForward cond) = unwrap_or (hit_above run cond place) place
place_of run place Skip = place
place_of run place State = place
place_of run place StateJson = place
place_of run place Step = place
place_of run place ListEntries = place
place_of run place Quit = place
place_of run place Bad = place

-- what the lines of the console write, starting at a place, up to the line that quits
abbrev pub outputs : Run ℕ → ℕ → List (List ℕ) → List ℕ
outputs run place [] = []
outputs run place (line ∷ ls) = output_of run place (command_in line)
    ++ (if is_quit (command_in line) then [] else outputs run (place_of run place (command_in line)) ls)

-- the same for bytes
abbrev pub commands_report : Run ℕ → ℕ → List ℕ → List ℕ
commands_report run place bytes = outputs run place (lines bytes)
