-- What a run over a file has read and written when it returns, and the line and the status that report its end.
use Rattle.std.specs.Prelude.{◌≡◌, ◌⊎◌, ◌<◌, ◌≤◌, ℕ, List, Option, Result, Ok, Err, length, ⊤}
use Rattle.std.specs.Io.KnownBytes.{Appends, Consumes, IsAtEnd, Keeps}
use Rattle.rw_console.specs.declared.sessions.Outcome.TheVariants.{Done}
use Rattle.rw_console.specs.declared.sessions.TheConstants.{MOST_BYTES}
use Rattle.rw_navigator.specs.Places.{last_place}
use Rattle.rw_console.specs.Report.{commands_report}
use Rattle.rw_console.specs.Streams.{Always}
use Rattle.rw_journal.specs.Run.{Run}
use Rattle.rw_console.specs.SessionReport.{fault_line, outcome_at, waiting_line}
use Rattle.rw_lines.specs.declared.streams.StreamFault.{StreamFault}
use Rattle.rw_lines.specs.declared.streams.StreamFault.TheVariants.{Read, Write, TooMuch, NoMemory}
use Rattle.rw_lines.specs.Writing.{WritesPrefix}
use Rattle.rw_text.specs.declared.faults.TextFault.{TextFault}
use Rattle.rw_text.specs.Faults.{text_fault_line}
use Rattle.rw_program.specs.declared.reading.FileFault.{FileFault}
use Rattle.rw_program.specs.declared.reading.FileFault.TheVariants as file_fault
use Rattle.rw_program.specs.Endings.{Ending, refused_script, refused_text}
use Rattle.rw_program.specs.Runs.{Runs}
use Rattle.rw_program.specs.Statuses.{Tells, status_of}

-- ---- faults of reading and of writing

-- why a file isn't read whole, after this many bytes were read
abbrev pub ExplainsReading : ℕ → StreamFault → Type 0
ExplainsReading count Read = count ≤ MOST_BYTES
ExplainsReading count TooMuch = MOST_BYTES < count
ExplainsReading count NoMemory = count ≤ MOST_BYTES
ExplainsReading count Write = ⊥

-- a prefix of a file was read
abbrev pub StopsReading : Option (List ℕ) → Option (List ℕ) → StreamFault → Type 0
StopsReading file file' fault = (bytes : List ℕ) × Consumes file file' bytes × ExplainsReading (length bytes) fault

-- why a text isn't written whole: the writer fails, which it can only if there is a byte to write, or memory runs out
abbrev pub ExplainsWriting : List ℕ → StreamFault → Type 0
ExplainsWriting text Write = 0 < length text
ExplainsWriting text NoMemory = ⊤
ExplainsWriting text Read = ⊥
ExplainsWriting text TooMuch = ⊥

-- ---- how a run ends

-- it ended with this text, line and status
pub record Comes (out out' : Option (List ℕ)) (line : List ℕ) (status : ℕ) (ending : Ending) : Type 0 where
  pub written : Appends out out' ending.written
  pub told : line ≡ ending.told
  pub answered : status ≡ ending.status

-- writing this text stopped at a fault, which is reported
pub record Fails (out out' : Option (List ℕ)) (line : List ℕ) (status : ℕ) (text : List ℕ) : Type 0 where
  pub fault : StreamFault
  pub why : ExplainsWriting text fault
  pub prefix : WritesPrefix out out' text
  pub told : Tells line status (Err fault)

-- the same, or it ended at a fault of writing
abbrev pub Closes : Option (List ℕ) → Option (List ℕ) → List ℕ → ℕ → Ending → Type 0
Closes out out' line status ending = Comes out out' line status ending ⊎ Fails out out' line status ending.written

-- nothing is written, and this fault is reported
abbrev pub TellsOnly : Option (List ℕ) → Option (List ℕ) → List ℕ → ℕ → StreamFault → Type 0
TellsOnly out out' line status fault = Keeps out out' × Tells line status (Err fault)

-- A file's bytes were read whole, no more than are allowed, and Made holds of them. Or reading it stopped at a fault, or memory
-- ran out, and Unmade holds of the fault.
pub record OverFile (file file' : Option (List ℕ)) (Made : List ℕ → Type 0) (Unmade : StreamFault → Type 0) : Type 0 where
  pub bytes : List ℕ
  pub read : Consumes file file' bytes
  pub made : (IsAtEnd file' × (length bytes ≤ MOST_BYTES) × Made bytes) ⊎ ((fault : StreamFault) × ExplainsReading (length bytes) fault × Unmade fault)

-- ---- `debug`: commands are run over the run whose journal text a file is, or no command is read

abbrev pub Debugs : Option (List ℕ) → Option (List ℕ) → Option (List ℕ) → Option (List ℕ) → List ℕ → ℕ → Result (Run ℕ) TextFault → Type 0
Debugs input input' out out' line status (Ok run) = Runs (commands_report run (last_place run)) (λ bytes. Done) Always input input' out out' line status
Debugs input input' out out' line status (Err fault) = Keeps input input' × Closes out out' line status (refused_text fault)

-- ---- the parts of a run

-- this line is reported with this status, or memory ran out
abbrev pub TellsLine : List ℕ → ℕ → List ℕ → ℕ → Type 0
TellsLine line status told answered = ((line ≡ told) × (status ≡ answered)) ⊎ Tells line status (Err NoMemory)

-- the reason why a file is refused is reported
abbrev pub TellsWhy : List ℕ → ℕ → FileFault → Type 0
TellsWhy line status (file_fault.Stream fault) = Tells line status (Err fault)
TellsWhy line status (file_fault.Script fault) = TellsLine line status (fault_line fault) 1
TellsWhy line status (file_fault.Text fault) = TellsLine line status (text_fault_line fault) 1

-- the same, except that a journal text's fault is written to standard output
abbrev pub Refuses : Option (List ℕ) → Option (List ℕ) → List ℕ → ℕ → FileFault → Type 0
Refuses out out' line status (file_fault.Stream fault) = TellsOnly out out' line status fault
Refuses out out' line status (file_fault.Script fault) = Closes out out' line status (refused_script fault)
Refuses out out' line status (file_fault.Text fault) = Closes out out' line status (refused_text fault)

-- which line would wait is reported, or memory ran out
abbrev pub SaysWaiting : List ℕ → ℕ → Option ℕ → Type 0
SaysWaiting line status waits = TellsLine line status (waiting_line waits) (status_of (Ok (outcome_at waits)))
