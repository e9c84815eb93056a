-- The words of faults, and how a fault of words is one of scripts.
use Rattle.std.specs.Prelude.{◌≡◌, ◌⊎◌, ◌++◌, ℕ, List, Result, Ok, Err, codes, decimal}
use Rattle.rw_words.specs.declared.arguments.WordFault.{WordFault}
use Rattle.rw_words.specs.declared.arguments.WordFault.TheVariants as words
use Rattle.rw_script.specs.declared.faults.ScriptFaultKind.{ScriptFaultKind}
use Rattle.rw_script.specs.declared.faults.ScriptFaultKind.TheVariants.{TooLong, Syntax, BadCapacity, TooManyChannels, BadActors, UnknownActor, UnknownChannel}
use Rattle.rw_script.specs.declared.faults.ScriptFaultKind.TheVariants.{WrongWord, BadArguments, UnknownName, NameTaken, TooManySteps, NoChannels, NoMemory}
use Rattle.rw_script.specs.declared.faults.ScriptFault.{ScriptFault}

-- the word for a fault in a fault line
abbrev pub fault_word : ScriptFaultKind → List ℕ
fault_word TooLong = codes "too-long"
fault_word Syntax = codes "syntax"
fault_word BadCapacity = codes "bad-capacity"
fault_word TooManyChannels = codes "too-many-channels"
fault_word BadActors = codes "bad-actors"
fault_word UnknownActor = codes "unknown-actor"
fault_word UnknownChannel = codes "unknown-channel"
fault_word WrongWord = codes "wrong-word"
fault_word BadArguments = codes "bad-arguments"
fault_word UnknownName = codes "unknown-name"
fault_word NameTaken = codes "name-taken"
fault_word TooManySteps = codes "too-many-steps"
fault_word NoChannels = codes "no-channels"
fault_word NoMemory = codes "no-memory"

-- the text of a fault: `script fault LINE KIND`
abbrev pub fault_text : ScriptFault → List ℕ
fault_text f = codes "script fault " ++ (decimal f.line ++ (codes " " ++ fault_word f.kind))

-- in a script, a handle that is too large is a bad argument like any other
abbrev pub kind_of_words : WordFault → ScriptFaultKind
kind_of_words words.WrongWord = WrongWord
kind_of_words words.BadArguments = BadArguments
kind_of_words words.HandleTooLarge = BadArguments

-- ---- what may also fail because memory runs out

-- the result is the specified one, or memory ran out
abbrev pub Gives : {S : Type 0} → Result S ScriptFault → Result S ScriptFault → Type 0
Gives (Ok s) said = said ≡ Ok s
Gives (Err fault) said = (said ≡ Err fault) ⊎ (fault.kind ≡ NoMemory)
