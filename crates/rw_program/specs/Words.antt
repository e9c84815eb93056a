-- How the program ends, by its words, whatever is read from files and streams or written to them.
use Rattle.std.specs.Prelude.{◌≡◌, ◌⊎◌, ℕ, List, Option, None, Some, Err, drop}
use Rattle.rw_lines.specs.declared.streams.StreamFault.TheVariants.{Read, NoMemory}
use Rattle.rw_console.specs.ScriptReading.{HasMark}
use Rattle.rw_console.specs.SessionReport.{outcome, report}
use Rattle.rw_program.specs.CommandLine.{Wish, session, over, threads, wish_in}
use Rattle.rw_program.specs.Runs.{Runs}
use Rattle.rw_program.specs.Statuses.{Tells, error_line_of_unread}
use Rattle.rw_program.specs.Threads.{RecordsThreads}
use Rattle.rw_program.specs.Verbs.{DoneBy}

-- the session of some bytes, or the verb or the threads over some file, or a file that can't be opened
abbrev pub Serves : Wish → List ℕ → ℕ → Type 0
Serves session line status = Runs report outcome HasMark None None None None line status
Serves (over verb file) line status = Tells line status (Err Read) ⊎ DoneBy verb None None None None None None line status
Serves (threads file) line status = Tells line status (Err Read) ⊎ RecordsThreads None None None None line status

-- that, or memory ran out
abbrev pub EndsAs : Wish → List ℕ → ℕ → Type 0
EndsAs wish line status = Serves wish line status ⊎ Tells line status (Err NoMemory)

-- words are refused, with status 2; the line is clap's
abbrev pub IsRefused : List ℕ → ℕ → Type 0
IsRefused line status = status ≡ 2

-- that, or memory ran out
abbrev pub Refuses : List ℕ → ℕ → Type 0
Refuses line status = IsRefused line status ⊎ Tells line status (Err NoMemory)

-- what words ask for is done, or they are refused
abbrev pub EndsBy : Option Wish → List ℕ → ℕ → Type 0
EndsBy (Some wish) line status = Serves wish line status
EndsBy None line status = IsRefused line status

-- that for these words, of which the first is the program's name, or memory ran out
abbrev pub EndsFor : List (List ℕ) → List ℕ → ℕ → Type 0
EndsFor words line status = EndsBy (wish_in (drop 1 words)) line status ⊎ Tells line status (Err NoMemory)

-- that for the words of the command line, or one of them isn't UTF-8, or there is no memory for them
abbrev pub IsEnd : List ℕ → ℕ → Type 0
IsEnd line status =
    ((words : List (List ℕ)) × EndsFor words line status)
    ⊎ (((line ≡ error_line_of_unread) × (status ≡ 2)) ⊎ Tells line status (Err NoMemory))
