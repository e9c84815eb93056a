-- What a file is: a script, a run's journal text, or neither.
use Rattle.std.specs.Prelude.{◌≡◌, ◌≤◌, ℕ, List, Option, Result, Ok, Err, length}
use Rattle.std.specs.Io.KnownBytes.{Consumes, IsAtEnd}
use Rattle.rw_console.specs.declared.sessions.TheConstants.{MOST_BYTES}
use Rattle.rw_law.specs.Numbers.{numbers}
use Rattle.rw_lines.specs.declared.streams.StreamFault.TheVariants.{NoMemory}
use Rattle.rw_lines.specs.Lines.{lines}
use Rattle.rw_script.specs.Memory as in_script
use Rattle.rw_script.specs.Script.{Script, script_in}
use Rattle.rw_text.specs.Memory as in_text
use Rattle.rw_text.specs.declared.faults.TextFault.{TextFault}
use Rattle.rw_program.specs.declared.reading.FileFault.{FileFault}
use Rattle.rw_program.specs.declared.reading.FileFault.TheVariants as file_fault
use Rattle.rw_program.specs.Files.{StopsReading}

-- why bytes aren't read as a script: memory ran out at a line that allocates, after the lines before it were accepted, or this is
-- their first fault
abbrev pub IsNoScript : List ℕ → FileFault → Type 0
IsNoScript bytes (file_fault.Stream fault) = (fault ≡ NoMemory) × ((number : ℕ) × in_script.AsksMemory (lines bytes) number)
IsNoScript bytes (file_fault.Script fault) = script_in (lines bytes) ≡ Err fault
IsNoScript bytes (file_fault.Text fault) = ⊥

-- the same for a journal text, by how its bytes are read
abbrev pub IsNoText : {X : Type 0} → (List ℕ → Result X TextFault) → List ℕ → FileFault → Type 0
IsNoText said bytes (file_fault.Stream fault) = (fault ≡ NoMemory) × in_text.AsksMemory numbers bytes
IsNoText said bytes (file_fault.Script fault) = ⊥
IsNoText said bytes (file_fault.Text fault) = said bytes ≡ Err fault

-- a file's bytes were read whole, no more than are allowed, and this holds of them
abbrev pub ReadsWhole : Option (List ℕ) → Option (List ℕ) → (List ℕ → Type 0) → Type 0
ReadsWhole file file' Said = (bytes : List ℕ) × Consumes file file' bytes × IsAtEnd file' × (length bytes ≤ MOST_BYTES) × Said bytes

-- a file is this script
abbrev pub HasScript : Option (List ℕ) → Option (List ℕ) → Script → Type 0
HasScript file file' script = ReadsWhole file file' (λ bytes. script_in (lines bytes) ≡ Ok script)

-- a file is read as x, by how the bytes of a journal text are read
abbrev pub HasText : {X : Type 0} → (List ℕ → Result X TextFault) → Option (List ℕ) → Option (List ℕ) → X → Type 0
HasText said file file' x = ReadsWhole file file' (λ bytes. said bytes ≡ Ok x)

-- a file can't be read whole, or memory ran out, or this is its first fault as a script
abbrev pub HasNoScript : Option (List ℕ) → Option (List ℕ) → FileFault → Type 0
HasNoScript file file' (file_fault.Stream fault) = StopsReading file file' fault
HasNoScript file file' (file_fault.Script fault) = ReadsWhole file file' (λ bytes. script_in (lines bytes) ≡ Err fault)
HasNoScript file file' (file_fault.Text fault) = ⊥

-- the same, as a journal text
abbrev pub HasNoText : {X : Type 0} → (List ℕ → Result X TextFault) → Option (List ℕ) → Option (List ℕ) → FileFault → Type 0
HasNoText said file file' (file_fault.Stream fault) = StopsReading file file' fault
HasNoText said file file' (file_fault.Script fault) = ⊥
HasNoText said file file' (file_fault.Text fault) = ReadsWhole file file' (λ bytes. said bytes ≡ Err fault)
