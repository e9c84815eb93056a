-- What a run over a reader and a writer has read and written when it returns.
use Rattle.std.specs.Prelude.{◌≡◌, ◌⊎◌, ◌+◌, ◌≤◌, ℕ, List, ◌++◌, Option, length, All, ⊤}
use Rattle.std.specs.Io.KnownBytes.{Consumes, Appends, IsAtEnd}
use Rattle.rw_lines.specs.declared.streams.StreamFault.{StreamFault}
use Rattle.rw_lines.specs.declared.streams.StreamFault.TheVariants.{Read, Write, TooMuch, NoMemory}
use Rattle.rw_lines.specs.Lines.{IsUnbroken, unlines}

-- It read bytes, no more than are allowed, and wrote their report. Either there were no more, or more would not change the
-- report.
pub record Answers (reader reader' writer writer' : Option (List ℕ)) (report : List ℕ → List ℕ) (limit : ℕ) : Type 0 where
  pub bytes : List ℕ
  pub few : length bytes ≤ limit
  pub read : Consumes reader reader' bytes
  pub written : Appends writer writer' (report bytes)
  pub whole : IsAtEnd reader' ⊎ ((more : List ℕ) → report (bytes ++ more) ≡ report bytes)

-- Why it stopped early. At a failed read, the bytes are whole lines and a part of the next one. If the whole lines have begun
-- to run commands, their report is written in full. If there are too many bytes, the last one is the first that isn't allowed.
-- Otherwise there are no more than are allowed.
abbrev pub Explains : (List ℕ → List ℕ) → (List (List ℕ) → Type 0) → ℕ → List ℕ → List ℕ → StreamFault → Type 0
Explains report begun limit bytes text Read =
    (ls : List (List ℕ)) × (part : List ℕ) × All IsUnbroken ls × IsUnbroken part
    × (bytes ≡ unlines ls ++ part)
    × (begun ls → text ≡ report (unlines ls))
    × (length bytes ≤ limit)
Explains report begun limit bytes text TooMuch = length bytes ≡ limit + 1
Explains report begun limit bytes text Write = length bytes ≤ limit
Explains report begun limit bytes text NoMemory = length bytes ≤ limit

-- It read bytes and wrote a prefix of their report.
pub record Stops (reader reader' writer writer' : Option (List ℕ)) (report : List ℕ → List ℕ)
    (begun : List (List ℕ) → Type 0) (limit : ℕ) (fault : StreamFault) : Type 0 where
  pub bytes : List ℕ
  pub text : List ℕ
  pub rest : List ℕ
  pub read : Consumes reader reader' bytes
  pub written : Appends writer writer' text
  pub prefix : text ++ rest ≡ report bytes
  pub why : Explains report begun limit bytes text fault

-- commands run from the first line on
abbrev pub Always : List (List ℕ) → Type 0
Always ls = ⊤
