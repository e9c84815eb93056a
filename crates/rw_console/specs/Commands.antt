-- Commands of the console.
use Rattle.std.specs.Prelude.{ℕ, List, length, Bool, true, false, Option, None, Some, nat_lt, if◌then◌else◌, codes}
use Rattle.std.specs.Str.{bytes_eq}
use Rattle.rw_lines.specs.Cut.{cut}
use Rattle.rw_lines.specs.Lines.{is_skipped}
use Rattle.rw_lines.specs.Numerals.{numeral_in}
use Rattle.rw_lines.specs.declared.lines.TheConstants.{LONGEST_LINE}
use Rattle.rw_navigator.specs.declared.moves.Move.TheVariants.{Back, Forward, Goto, Start, End}
use Rattle.rw_navigator.specs.declared.worlds.condition.Cond.{Cond}
use Rattle.rw_console.specs.declared.command.Command.{Command}
use Rattle.rw_console.specs.declared.command.Command.TheVariants.{Skip, Move, State, StateJson, Step, List as ListEntries, SearchBack, SearchForward, Quit, Bad}
use Rattle.rw_console.specs.ConditionWords.{condition_in}

-- a word alone
abbrev pub word_alone : List ℕ → Command
word_alone word =
    if bytes_eq word (codes "back") then Move (Back 1)
    else if bytes_eq word (codes "forward") then Move (Forward 1)
    else if bytes_eq word (codes "start") then Move Start
    else if bytes_eq word (codes "end") then Move End
    else if bytes_eq word (codes "state") then State
    else if bytes_eq word (codes "step") then Step
    else if bytes_eq word (codes "list") then ListEntries
    else if bytes_eq word (codes "quit") then Quit
    else Bad

-- a word and a number
abbrev pub word_and_number : List ℕ → ℕ → Command
word_and_number word n =
    if bytes_eq word (codes "back") then Move (Back n)
    else if bytes_eq word (codes "forward") then Move (Forward n)
    else if bytes_eq word (codes "goto") then Move (Goto n)
    else Bad

abbrev pub number_command : List ℕ → Option ℕ → Command
number_command word None = Bad
number_command word (Some n) = word_and_number word n

abbrev pub search_command : (Cond → Command) → Option Cond → Command
search_command search None = Bad
search_command search (Some cond) = search cond

-- a word, and what follows the space after it
abbrev pub word_with : List ℕ → List ℕ → Command
word_with word rest =
    if bytes_eq word (codes "rback") then search_command SearchBack (condition_in rest)
    else if bytes_eq word (codes "rforward") then search_command SearchForward (condition_in rest)
    else if bytes_eq word (codes "state") then (if bytes_eq rest (codes "json") then StateJson else Bad)
    else number_command word (numeral_in rest)

abbrev pub command_words : List ℕ → Option (List ℕ × List ℕ) → Command
command_words line None = word_alone line
command_words line (Some p) = word_with p.0 p.1

-- the command of a line
unfoldable pub command_in : List ℕ → Command
command_in line =
    if nat_lt LONGEST_LINE (length line) then Bad
    else if is_skipped line then Skip
    else command_words line (cut 32 line)

abbrev pub is_quit : Command → Bool
is_quit Quit = true
is_quit Skip = false
is_quit (Move m) = false
is_quit State = false
is_quit StateJson = false
is_quit (SearchBack cond) = false
is_quit (SearchForward cond) = false
is_quit Step = false
is_quit ListEntries = false
is_quit Bad = false
