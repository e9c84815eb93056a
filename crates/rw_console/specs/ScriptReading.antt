-- What reading a session's script returns.
use Rattle.std.specs.Prelude.{◌≡◌, ◌⊎◌, ◌+◌, ◌≤◌, ℕ, List, [], ◌++◌, Option, Result, Ok, Err, length, All, true}
use Rattle.std.specs.List.{list_any}
use Rattle.std.specs.Io.KnownBytes.{Consumes, IsAtEnd}
use Rattle.rw_lines.specs.declared.streams.StreamFault.{StreamFault}
use Rattle.rw_lines.specs.declared.streams.StreamFault.TheVariants as streams
use Rattle.rw_lines.specs.Lines.{IsUnbroken, lines, unlines}
use Rattle.rw_script.specs.declared.faults.ScriptFault.{ScriptFault}
use Rattle.rw_script.specs.Script.{Script, ScriptReader, script_at_end, is_mark, script_in, after_mark}
use Rattle.rw_console.specs.declared.reading.ScriptEnd.{ScriptEnd}
use Rattle.rw_console.specs.declared.reading.ScriptEnd.TheVariants.{Mark, Reader, Fault}
use Rattle.rw_console.specs.declared.reading.SessionScript.{SessionScript}
use Rattle.rw_console.specs.declared.reading.SessionScript.TheVariants as heads

-- the script's end was read
abbrev pub HasMark : List (List ℕ) → Type 0
HasMark ls = list_any is_mark ls ≡ true

-- Lines were read, and the last one is the mark. They mean `said`, whatever follows, and what follows is for the console.
pub record GivesScript (reader reader' : Option (List ℕ)) (before after : ℕ) (said : Result Script ScriptFault) : Type 0 where
  pub ls : List (List ℕ)
  pub each : All IsUnbroken ls
  pub read : Consumes reader reader' (unlines ls)
  pub count : length (unlines ls) + after ≡ before
  pub script : (more : List (List ℕ)) → script_in (ls ++ more) ≡ said
  pub rest : (more : List (List ℕ)) → after_mark (ls ++ more) ≡ more

-- All bytes were read, no more than are allowed. They mean `said`, and nothing is left for the console.
pub record GivesAll (reader reader' : Option (List ℕ)) (limit : ℕ) (said : Result Script ScriptFault) : Type 0 where
  pub bytes : List ℕ
  pub few : length bytes ≤ limit
  pub read : Consumes reader reader' bytes
  pub ended : IsAtEnd reader'
  pub script : script_in (lines bytes) ≡ said
  pub rest : after_mark (lines bytes) ≡ []

-- Bytes were read, no more than are allowed, and their script has this fault. They are all bytes, or the fault is the same
-- whatever follows.
pub record GivesFault (reader reader' : Option (List ℕ)) (limit : ℕ) (fault : ScriptFault) : Type 0 where
  pub bytes : List ℕ
  pub few : length bytes ≤ limit
  pub read : Consumes reader reader' bytes
  pub script : script_in (lines bytes) ≡ Err fault
  pub whole : IsAtEnd reader' ⊎ ((more : List ℕ) → script_in (lines (bytes ++ more)) ≡ Err fault)

-- why reading stopped within the script
abbrev pub ExplainsScript : ℕ → List ℕ → StreamFault → Type 0
ExplainsScript limit bytes streams.Read =
    (ls : List (List ℕ)) × (part : List ℕ) × All IsUnbroken ls × IsUnbroken part
    × (bytes ≡ unlines ls ++ part)
    × (HasMark ls → ⊥)
    × (length bytes ≤ limit)
ExplainsScript limit bytes streams.TooMuch = length bytes ≡ limit + 1
ExplainsScript limit bytes streams.Write = ⊥
ExplainsScript limit bytes streams.NoMemory = length bytes ≤ limit

pub record StopsInScript (reader reader' : Option (List ℕ)) (limit : ℕ) (fault : StreamFault) : Type 0 where
  pub bytes : List ℕ
  pub read : Consumes reader reader' bytes
  pub why : ExplainsScript limit bytes fault

-- the lines mean what r has read, or they have a fault
abbrev pub GivesLines : Option (List ℕ) → Option (List ℕ) → ℕ → ℕ → ScriptReader → ScriptEnd → Type 0
GivesLines reader reader' before after r Mark = GivesScript reader reader' before after (script_at_end r) × (r.lines ≤ before)
GivesLines reader reader' before after r Reader = GivesAll reader reader' before (script_at_end r) × (r.lines ≤ before)
GivesLines reader reader' before after r (Fault f) = GivesFault reader reader' before f

-- the bytes begin with a script, are a script, or begin with a fault
abbrev pub GivesSessionScript : Option (List ℕ) → Option (List ℕ) → ℕ → ℕ → SessionScript → Type 0
GivesSessionScript reader reader' before after (heads.Script script) = GivesScript reader reader' before after (Ok script)
GivesSessionScript reader reader' before after (heads.Ended script) = GivesAll reader reader' before (Ok script)
GivesSessionScript reader reader' before after (heads.Refused fault) = GivesFault reader reader' before fault
