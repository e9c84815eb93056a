-- The words of the command line that are accepted, and what they ask for:
--
--     session
--     record FILE      record --threads FILE      record FILE --threads
--     check FILE
--     debug FILE
--     salvage FILE
--
-- FILE is a word that is no flag. `--` may stand behind all of these, or before FILE: then FILE is any word.
use Rattle.std.specs.Prelude.{ℕ, List, [], ◌∷◌, Bool, true, false, not, ◌==◌, ◌&&◌, Option, None, Some, map, option_map, if◌then◌else◌, codes, string_bytes}
use Rattle.std.specs.Str.{bytes_eq}
use Rattle.std.specs.declared.string.String.{String}
use Rattle.rw_program.specs.declared.words.Verb.{Verb}
use Rattle.rw_program.specs.declared.words.Verb.TheVariants.{Record, Check, Debug, Salvage}
use Rattle.rw_program.specs.declared.words.Command.{Command}
use Rattle.rw_program.specs.declared.words.Command.TheVariants as command
use Rattle.rw_program.specs.declared.words.Asked.{Asked}
use Rattle.rw_program.specs.declared.words.Asked.TheVariants as asked

-- the bytes of each word
abbrev pub given : {A : Type 0} → List (String A) → List (List ℕ)
given = map string_bytes

-- what words ask for
pub data Wish : Type 0 where
  session : Wish
  over : Verb → List ℕ → Wish
  threads : List ℕ → Wish

abbrev pub wish_of : Asked → Wish
wish_of asked.Session = session
wish_of (asked.Over verb file) = over verb file.now
wish_of (asked.Threads file) = threads file.now

-- ---- single words

-- a flag is a dash, and more behind it
abbrev pub is_flag : List ℕ → Bool
is_flag [] = false
is_flag (a ∷ []) = false
is_flag (a ∷ b ∷ rest) = a == 45

abbrev pub is_dashes : List ℕ → Bool
is_dashes word = bytes_eq word (codes "--")

abbrev pub is_threads : List ℕ → Bool
is_threads word = bytes_eq word (codes "--threads")

abbrev pub command_named : List ℕ → Option Command
command_named word =
    if bytes_eq word (codes "session") then Some command.Session
    else if bytes_eq word (codes "record") then Some (command.Over Record)
    else if bytes_eq word (codes "check") then Some (command.Over Check)
    else if bytes_eq word (codes "debug") then Some (command.Over Debug)
    else if bytes_eq word (codes "salvage") then Some (command.Over Salvage)
    else None

-- ---- the words behind a command

-- nothing, or `--` alone
abbrev pub is_end : List (List ℕ) → Bool
is_end [] = true
is_end (word ∷ []) = is_dashes word
is_end words = false

-- behind `--` there is one word, whatever it is
abbrev pub file_behind : List (List ℕ) → Option (List ℕ)
file_behind (file ∷ []) = Some file
file_behind words = None

-- FILE
abbrev pub file_in : List (List ℕ) → Option (List ℕ)
file_in [] = None
file_in (word ∷ rest) =
    if is_dashes word then file_behind rest
    else if not (is_flag word) && is_end rest then Some word
    else None

-- FILE, and `--threads` before it or behind it
abbrev pub threads_in : List (List ℕ) → Option (List ℕ)
threads_in [] = None
threads_in (word ∷ []) = None
threads_in (word ∷ next ∷ rest) =
    if is_threads word then file_in (next ∷ rest)
    else if not (is_flag word) && (is_threads next && is_end rest) then Some word
    else None

abbrev pub wish_to_record : Option (List ℕ) → Option (List ℕ) → Option Wish
wish_to_record (Some file) plain = Some (threads file)
wish_to_record None plain = option_map (over Record) plain

abbrev pub wish_over : Verb → List (List ℕ) → Option Wish
wish_over Record words = wish_to_record (threads_in words) (file_in words)
wish_over Check words = option_map (over Check) (file_in words)
wish_over Debug words = option_map (over Debug) (file_in words)
wish_over Salvage words = option_map (over Salvage) (file_in words)

abbrev pub wish_by : Command → List (List ℕ) → Option Wish
wish_by command.Session words = if is_end words then Some session else None
wish_by (command.Over verb) words = wish_over verb words

abbrev pub wish_by_any : Option Command → List (List ℕ) → Option Wish
wish_by_any None words = None
wish_by_any (Some command) words = wish_by command words

-- ---- all words behind the program's name; words that ask for nothing here are refused
abbrev pub wish_in : List (List ℕ) → Option Wish
wish_in [] = None
wish_in (word ∷ rest) = wish_by_any (command_named word) rest
