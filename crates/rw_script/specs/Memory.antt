-- Lines that are accepted or refused, and where reading a script allocates.
use Rattle.std.specs.Prelude.{◌≡◌, ◌⊎◌, ◌<◌, ◌+◌, ◌++◌, ◌∷◌, ℕ, List, [], length, Result, Ok, Err}
use Rattle.rw_words.specs.Words.{◌>>=◌}
use Rattle.rw_script.specs.declared.faults.ScriptFaultKind.{ScriptFaultKind}
use Rattle.rw_script.specs.declared.faults.ScriptFaultKind.TheVariants.{NoMemory}
use Rattle.rw_script.specs.declared.faults.ScriptFault.{ScriptFault}
use Rattle.rw_script.specs.Script.{ScriptReader, after_line, opening}

-- a line allocates if it adds a channel or a step; its other faults are found first
abbrev pub Adds : {E : Type 0} → ScriptReader → Result ScriptReader E → Type 0
Adds old (Ok new) = length old.specs + length old.steps < length new.specs + length new.steps
Adds old (Err fault) = ⊥

-- a line was accepted or refused as specified, or memory ran out where the line allocates; old, new: the reader before and
-- after it
abbrev pub ReadsLine : {X : Type 0} → Result X ScriptFaultKind → ScriptReader → ScriptReader → Result ScriptReader ScriptFaultKind → Type 0
ReadsLine (Ok x) old new said = said ≡ Ok new
ReadsLine (Err kind) old new said = (said ≡ Err kind) ⊎ ((kind ≡ NoMemory) × Adds old said)

-- the same, with the line's number
abbrev pub Reads : {X : Type 0} → Result X ScriptFault → ScriptReader → ScriptReader → Result ScriptReader ScriptFault → Type 0
Reads (Ok x) old new said = said ≡ Ok new
Reads (Err fault) old new said = (said ≡ Err fault) ⊎ ((fault.kind ≡ NoMemory) × Adds old said)

-- ---- a whole script

-- the reader r after some more lines, or the first fault
abbrev pub after_lines : ScriptReader → List (List ℕ) → Result ScriptReader ScriptFault
after_lines r [] = Ok r
after_lines r (line ∷ more) = after_line r line >>= λ s. after_lines s more

-- the line of this number allocates, after all lines before it were accepted
pub record AsksMemory (ls : List (List ℕ)) (number : ℕ) : Type 0 where
  pub before : List (List ℕ)
  pub line : List ℕ
  pub after : List (List ℕ)
  pub reading : ScriptReader
  pub lines : ls ≡ before ++ line ∷ after
  pub counted : number ≡ length before + 1
  pub taken : after_lines opening before ≡ Ok reading
  pub adds : Adds reading (after_line reading line)
