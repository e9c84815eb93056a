-- How an end is reported: by an exit status, and a line on standard error.
use Rattle.std.specs.Prelude.{◌≡◌, ◌⊎◌, ◌<◌, ℕ, List, [], Option, Result, Ok, Err, codes, length, take}
use Rattle.std.specs.Io.KnownBytes.{Appends}
use Rattle.rw_lines.specs.declared.streams.StreamFault.{StreamFault}
use Rattle.rw_lines.specs.declared.streams.StreamFault.TheVariants.{Read, Write, TooMuch, NoMemory}
use Rattle.rw_console.specs.declared.sessions.Outcome.{Outcome}
use Rattle.rw_console.specs.declared.sessions.Outcome.TheVariants.{Done, Refused, Waited}
use Rattle.rw_script.specs.declared.threads.RunFault.{RunFault}
use Rattle.rw_script.specs.declared.threads.RunFault.TheVariants as run

-- 0 done, 1 the script refused, 3 a call would wait, 4 a fault of reading or writing, 5 no memory
abbrev pub status_of : Result Outcome StreamFault → ℕ
status_of (Ok Done) = 0
status_of (Ok (Refused f)) = 1
status_of (Ok (Waited line)) = 3
status_of (Err Read) = 4
status_of (Err Write) = 4
status_of (Err TooMuch) = 4
status_of (Err NoMemory) = 5

-- the line on standard error; a session that reached its end has none there, whatever its script
abbrev pub error_line_of : Result Outcome StreamFault → List ℕ
error_line_of (Ok outcome) = []
error_line_of (Err Read) = codes "read fault\n"
error_line_of (Err Write) = codes "write fault\n"
error_line_of (Err TooMuch) = codes "read fault\n"
error_line_of (Err NoMemory) = codes "no memory\n"

-- the line if the threads of a script return no run; the status is then 5
abbrev pub error_line_of_threads : RunFault → List ℕ
error_line_of_threads run.NoMemory = codes "no memory\n"
error_line_of_threads run.NoThread = codes "no thread\n"
error_line_of_threads run.Strayed = codes "strayed\n"

-- the line if a word of the command line isn't UTF-8; the status is then 2
abbrev pub error_line_of_unread : List ℕ
error_line_of_unread = codes "error: invalid UTF-8 was detected in one or more arguments\n"

-- this line and this status report an end
abbrev pub Tells : List ℕ → ℕ → Result Outcome StreamFault → Type 0
Tells line status ended = (line ≡ error_line_of ended) × (status ≡ status_of ended)

-- a line was written whole, or only its first bytes
abbrev pub Says : Option (List ℕ) → Option (List ℕ) → List ℕ → Type 0
Says err err' line = Appends err err' line ⊎ ((n : ℕ) × (n < length line) × Appends err err' (take n line))
