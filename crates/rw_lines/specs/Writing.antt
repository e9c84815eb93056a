-- What was written where writing stopped.
use Rattle.std.specs.Prelude.{◌≡◌, ℕ, List, ◌++◌, Option, ⊤}
use Rattle.std.specs.Io.KnownBytes.{Appends}
use Rattle.rw_lines.specs.declared.streams.StreamFault.{StreamFault}
use Rattle.rw_lines.specs.declared.streams.StreamFault.TheVariants.{Read, Write, TooMuch, NoMemory}

-- a prefix of the output was written
pub record WritesPrefix (writer writer' : Option (List ℕ)) (output : List ℕ) : Type 0 where
  pub text : List ℕ
  pub rest : List ℕ
  pub written : Appends writer writer' text
  pub prefix : text ++ rest ≡ output

-- a fault that writing can have
abbrev pub IsOfWriting : StreamFault → Type 0
IsOfWriting Read = ⊥
IsOfWriting TooMuch = ⊥
IsOfWriting Write = ⊤
IsOfWriting NoMemory = ⊤

-- writing stopped with this fault, after a prefix of the output was written
abbrev pub StopsWriting : Option (List ℕ) → Option (List ℕ) → List ℕ → StreamFault → Type 0
StopsWriting writer writer' output fault = IsOfWriting fault × WritesPrefix writer writer' output
