-- What is read from a reader for a line.
use Rattle.std.specs.Prelude.{◌≡◌, ◌+◌, ◌<◌, ◌≤◌, ℕ, min, List, [], ◌∷◌, ◌++◌, Option, length, take}
use Rattle.std.specs.Io.KnownBytes.{Consumes, IsAtEnd}
use Rattle.rw_lines.specs.declared.lines.TheConstants.{LONGEST_LINE}
use Rattle.rw_lines.specs.declared.lines.Next.{Next}
use Rattle.rw_lines.specs.declared.lines.Next.TheVariants.{Line, Last, End}
use Rattle.rw_lines.specs.declared.lines.NextShort.{NextShort}
use Rattle.rw_lines.specs.declared.lines.NextShort.TheVariants as short
use Rattle.rw_lines.specs.declared.streams.StreamFault.{StreamFault}
use Rattle.rw_lines.specs.declared.streams.StreamFault.TheVariants.{Read, Write, TooMuch, NoMemory}
use Rattle.rw_lines.specs.Lines.{IsUnbroken}

-- what is stored of a line: up to one byte more than the longest line has, which shows that the line is too long
abbrev pub kept_part : List ℕ → List ℕ
kept_part text = take (LONGEST_LINE + 1) text

-- Between old and new a whole line with its LF was read.
-- before, after: how many bytes were allowed to be read, before and after
pub record GivesLine (old new : Option (List ℕ)) (before after : ℕ) (line : List ℕ) : Type 0 where
  pub text : List ℕ
  pub unbroken : IsUnbroken text
  pub fits : line ≡ kept_part text
  pub read : Consumes old new (text ++ 10 ∷ [])
  pub count : length text + 1 + after ≡ before

-- A line without LF was read, and then the reader was at its end.
pub record GivesLast (old new : Option (List ℕ)) (before after : ℕ) (line : List ℕ) : Type 0 where
  pub text : List ℕ
  pub unbroken : IsUnbroken text
  pub some : 0 < length text
  pub fits : line ≡ kept_part text
  pub read : Consumes old new text
  pub count : length text + after ≡ before
  pub ended : IsAtEnd new

-- Nothing was read, since the reader was at its end.
pub record GivesNone (old new : Option (List ℕ)) (before after : ℕ) : Type 0 where
  pub read : Consumes old new []
  pub count : after ≡ before
  pub ended : IsAtEnd new

abbrev pub GivesNext : Option (List ℕ) → Option (List ℕ) → ℕ → ℕ → List ℕ → Next → Type 0
GivesNext old new before after line Line = GivesLine old new before after line
GivesNext old new before after line Last = GivesLast old new before after line
GivesNext old new before after line End = GivesNone old new before after

-- The first bytes of a line were read, one more than the longest line has, and they are stored.
pub record GivesLong (old new : Option (List ℕ)) (before after : ℕ) (line : List ℕ) : Type 0 where
  pub unbroken : IsUnbroken line
  pub long : length line ≡ LONGEST_LINE + 1
  pub read : Consumes old new line
  pub count : length line + after ≡ before

abbrev pub GivesNextShort : Option (List ℕ) → Option (List ℕ) → ℕ → ℕ → List ℕ → NextShort → Type 0
GivesNextShort old new before after line short.Line = GivesLine old new before after line × (length line ≤ LONGEST_LINE)
GivesNextShort old new before after line short.Last = GivesLast old new before after line × (length line ≤ LONGEST_LINE)
GivesNextShort old new before after line short.TooLong = GivesLong old new before after line
GivesNextShort old new before after line short.End = GivesNone old new before after

-- Why reading stopped within a line, after this text of it was read.
-- At TooMuch, the text's last byte is the first one that wasn't allowed.
abbrev pub StopsBecause : List ℕ → ℕ → StreamFault → Type 0
StopsBecause text before Read = IsUnbroken text × (length text ≤ before)
StopsBecause text before TooMuch = length text ≡ before + 1
StopsBecause text before NoMemory = IsUnbroken text × (length text ≤ before)
StopsBecause text before Write = ⊥

-- Reading stopped: a read failed, a byte more than allowed was read, or an allocation failed.
pub record StopsInLine (old new : Option (List ℕ)) (before : ℕ) (fault : StreamFault) : Type 0 where
  pub text : List ℕ
  pub read : Consumes old new text
  pub why : StopsBecause text before fault

-- How many of the bytes that were read are stored where reading stopped: where an allocation failed, all but the last.
abbrev pub IsKept : (came kept : ℕ) → StreamFault → Type 0
IsKept came kept Read = kept ≡ min came (LONGEST_LINE + 1)
IsKept came kept TooMuch = kept ≡ min came (LONGEST_LINE + 1)
IsKept came kept NoMemory = kept + 1 ≡ came
IsKept came kept Write = ⊥
