-- The report of a session: what it writes for the bytes that it reads.
use Rattle.std.specs.Prelude.{ℕ, List, [], ◌++◌, Option, None, Some, Result, Ok, Err, codes, decimal}
use Rattle.rw_journal.specs.Interleaving.{journal_of}
use Rattle.rw_journal.specs.Run.{Run}
use Rattle.rw_lines.specs.Lines.{lines}
use Rattle.rw_script.specs.declared.faults.ScriptFault.{ScriptFault}
use Rattle.rw_script.specs.Faults.{fault_text}
use Rattle.rw_script.specs.Running.{run_of}
use Rattle.rw_script.specs.Script.{Script, script_in, after_mark}
use Rattle.rw_world.specs.Machines.{of_world}
use Rattle.rw_world.specs.Openings.{opening_row}
use Rattle.rw_console.specs.declared.sessions.Outcome.{Outcome}
use Rattle.rw_console.specs.declared.sessions.Outcome.TheVariants.{Done, Refused, Waited}
use Rattle.rw_navigator.specs.Places.{last_place}
use Rattle.rw_console.specs.Report.{outputs}

-- a script's run: its channels, and the journal of the calls before the first that would wait
abbrev pub recording_of : Script → Run ℕ
recording_of s = record { specs = s.specs; entries = journal_of of_world (opening_row s.specs) 0 (run_of s).calls }

-- ---- the first lines

abbrev pub fault_line : ScriptFault → List ℕ
fault_line f = fault_text f ++ codes "\n"

-- which line would wait, if there is one
abbrev pub waiting_line : Option ℕ → List ℕ
waiting_line None = []
waiting_line (Some line) = codes "would wait " ++ decimal line ++ codes "\n"

-- ---- the whole

abbrev pub answer : Result Script ScriptFault → List (List ℕ) → List ℕ
answer (Err f) ls = fault_line f
answer (Ok s) ls = waiting_line (run_of s).waits ++ outputs (recording_of s) (last_place (recording_of s)) ls

-- the script's fault alone, or else which line would wait, and what each command writes, starting at the last place
abbrev pub report : List ℕ → List ℕ
report bytes = answer (script_in (lines bytes)) (after_mark (lines bytes))

-- how the session of a script ends: a line would wait, or else all is done
abbrev pub outcome_at : Option ℕ → Outcome
outcome_at None = Done
outcome_at (Some line) = Waited line

abbrev pub outcome_of : Result Script ScriptFault → Outcome
outcome_of (Err f) = Refused f
outcome_of (Ok s) = outcome_at (run_of s).waits

abbrev pub outcome : List ℕ → Outcome
outcome bytes = outcome_of (script_in (lines bytes))
