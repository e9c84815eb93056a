-- The command line as `clap` has it: what it reads of a command, without its texts.
use Rattle.std.specs.Prelude.{◌≡◌, ℕ, List, [], ◌∷◌, Some, true, false, codes}
use Rattle.clap.specs.Simple.{App, Shape, app_of, new_rule, new_shape}
use Rattle.clap.specs.Walk.{Rule}
use Rattle.clap.specs.declared.builder.command.Command.TheViews.{out-Command}
use Rattle.clap.specs.declared.builder.action.ArgAction.TheVariants.{Set, SetTrue}
use Rattle.clap.specs.declared.builder.command.Command.{Command}

-- FILE, which has to be there
abbrev pub file : Rule
file = record (new_rule (codes "FILE")) { required = true; action = Some Set }

-- `--threads`, which takes no value
abbrev pub threads : Rule
threads = record (new_rule (codes "threads")) { long = Some (codes "threads"); action = Some SetTrue }

-- a command with these arguments, and a name
abbrev pub with_arguments : List Rule → List ℕ → Shape
with_arguments rules name = record (new_shape name) { rules = rules }

-- the program, which wants one of its commands
abbrev pub program : App
program = record {
  top = record (new_shape (codes "ttd")) { is_leaf = false; subcommand_required = true };
  subs = with_arguments [] (codes "session")
      ∷ with_arguments (file ∷ threads ∷ []) (codes "record")
      ∷ with_arguments (file ∷ []) (codes "check")
      ∷ with_arguments (file ∷ []) (codes "debug")
      ∷ with_arguments (file ∷ []) (codes "salvage")
      ∷ [];
}

-- clap reads of this command what the shape says, and no argument is global
abbrev pub HasShape : Command → Shape → Type 0
HasShape command shape = ((out-Command command).has_globals ≡ false) × (app_of command ≡ record { top = shape; subs = [] })
