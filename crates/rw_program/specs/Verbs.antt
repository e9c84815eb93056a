-- What each verb does with a file.
use Rattle.std.specs.Prelude.{ℕ, List, Option}
use Rattle.std.specs.Io.KnownBytes.{Keeps}
use Rattle.rw_law.specs.Numbers.{numbers}
use Rattle.rw_text.specs.Reading.{reading_of}
use Rattle.rw_program.specs.declared.words.Verb.{Verb}
use Rattle.rw_program.specs.declared.words.Verb.TheVariants.{Record, Check, Debug, Salvage}
use Rattle.rw_program.specs.Endings.{check_of, record_of, salvaging_of}
use Rattle.rw_program.specs.Files.{Closes, Debugs, OverFile, TellsOnly}

-- `record` writes the journal of the file's script
abbrev pub Records : Option (List ℕ) → Option (List ℕ) → Option (List ℕ) → Option (List ℕ) → List ℕ → ℕ → Type 0
Records file file' out out' line status = OverFile file file' (λ bytes. Closes out out' line status (record_of bytes)) (TellsOnly out out' line status)

-- `check` reports how many entries the file's journal has, or its first fault
abbrev pub Checks : Option (List ℕ) → Option (List ℕ) → Option (List ℕ) → Option (List ℕ) → List ℕ → ℕ → Type 0
Checks file file' out out' line status = OverFile file file' (λ bytes. Closes out out' line status (check_of bytes)) (TellsOnly out out' line status)

-- `salvage` writes the journal that it recovers from the file's text, which may have been cut off
abbrev pub Salvages : Option (List ℕ) → Option (List ℕ) → Option (List ℕ) → Option (List ℕ) → List ℕ → ℕ → Type 0
Salvages file file' out out' line status = OverFile file file' (λ bytes. Closes out out' line status (salvaging_of bytes)) (TellsOnly out out' line status)

-- `debug` runs the commands of the input over the file's journal
abbrev pub Walks : Option (List ℕ) → Option (List ℕ) → Option (List ℕ) → Option (List ℕ) → Option (List ℕ) → Option (List ℕ) → List ℕ → ℕ → Type 0
Walks file file' input input' out out' line status =
    OverFile file file'
    (λ bytes. Debugs input input' out out' line status (reading_of numbers bytes))
    (λ fault. Keeps input input' × TellsOnly out out' line status fault)

-- only `debug` reads the input
abbrev pub DoneBy : Verb → Option (List ℕ) → Option (List ℕ) → Option (List ℕ) → Option (List ℕ) → Option (List ℕ) → Option (List ℕ) → List ℕ → ℕ → Type 0
DoneBy Record file file' input input' out out' line status = Keeps input input' × Records file file' out out' line status
DoneBy Check file file' input input' out out' line status = Keeps input input' × Checks file file' out out' line status
DoneBy Debug file file' input input' out out' line status = Walks file file' input input' out out' line status
DoneBy Salvage file file' input input' out out' line status = Keeps input input' × Salvages file file' out out' line status
