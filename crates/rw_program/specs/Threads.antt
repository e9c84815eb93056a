-- How `record` ends for a script that a thread for each actor plays.
use Rattle.std.specs.Prelude.{◌≡◌, ◌⊎◌, ℕ, List, [], Option, Result, Ok, Err, Bool, true, false}
use Rattle.std.specs.Io.KnownBytes.{Keeps}
use Rattle.rw_journal.specs.Run.{Run}
use Rattle.rw_law.specs.Numbers.{numbers}
use Rattle.rw_lines.specs.Lines.{lines}
use Rattle.rw_script.specs.declared.faults.ScriptFault.{ScriptFault}
use Rattle.rw_script.specs.declared.threads.RunFault.{RunFault}
use Rattle.rw_script.specs.Script.{Script, script_in}
use Rattle.rw_script.specs.Threads.{IsRunOf}
use Rattle.rw_text.specs.Texts.{text}
use Rattle.rw_program.specs.Endings.{refused_script}
use Rattle.rw_program.specs.Files.{Closes, OverFile, TellsOnly}
use Rattle.rw_program.specs.Statuses.{error_line_of_threads}
use Rattle.rw_program.specs.Verbs.{Records}

-- the journal of a run is written in which each actor's calls are those of its lines, or it is reported why the threads
-- returned none
abbrev pub Plays : Option (List ℕ) → Option (List ℕ) → List ℕ → ℕ → Result Script ScriptFault → Type 0
Plays out out' line status (Ok script) =
    ((run : Run ℕ) × IsRunOf script run × Closes out out' line status (record { written = text numbers run; told = []; status = 0 }))
    ⊎ ((fault : RunFault) × Keeps out out' × (line ≡ error_line_of_threads fault) × (status ≡ 5))
Plays out out' line status (Err fault) = Closes out out' line status (refused_script fault)

-- `record` with threads plays the file's script with a thread for each actor
abbrev pub RecordsThreads : Option (List ℕ) → Option (List ℕ) → Option (List ℕ) → Option (List ℕ) → List ℕ → ℕ → Type 0
RecordsThreads file file' out out' line status = OverFile file file'
    (λ bytes. Plays out out' line status (script_in (lines bytes)))
    (TellsOnly out out' line status)

-- `record`, with threads or without them
abbrev pub RecordsBy : Bool → Option (List ℕ) → Option (List ℕ) → Option (List ℕ) → Option (List ℕ) → List ℕ → ℕ → Type 0
RecordsBy true file file' out out' line status = RecordsThreads file file' out out' line status
RecordsBy false file file' out out' line status = Records file file' out out' line status
