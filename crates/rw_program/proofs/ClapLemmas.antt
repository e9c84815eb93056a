-- Building the command line for `clap`.
use Rattle.std.proofs.Common.{◌≡◌, ◌∙◌, ◌∷◌, [], ◌++◌, List, ℕ, Option, false, ◌||◌, ap, ap₂}
use Rattle.std.specs.Borrow.{Bor}
use Rattle.clap.specs.Built.{AddsArg, AddsSubcommand}
use Rattle.clap.specs.Simple.{App, Shape, app_of, app_of_fields, new_app, with_rule, with_subcommand}
use Rattle.clap.specs.Walk.{Rule, rule_of}
use Rattle.clap.specs.declared.builder.arg.Arg.{Arg}
use Rattle.clap.specs.declared.builder.command.Command.{Command}
use Rattle.clap.specs.declared.builder.command.Command.TheOpen.{Command-F}
use Rattle.clap.specs.declared.builder.command.Command.TheViews.{out-Command}
use Rattle.rw_program.specs.Clap.{HasShape, with_arguments}

-- a new command with a text at the top of its help
pub with_text : (new told : Command) (text : Option (Bor (List ℕ))) (name : List ℕ) → app_of new ≡ new_app name → (out-Command new).has_globals ≡ false
    → out-Command told ≡ record (out-Command new) { about = text } → HasShape told (with_arguments [] name)
with_text new told text name app local is = (ap (λ (f : Command-F Command). f.has_globals) is ∙ local, ap app_of_fields is ∙ app)

-- one more argument
pub with_argument : (old new : Command) (arg : Arg) (rules : List Rule) (rule : Rule) (name : List ℕ) → HasShape old (with_arguments rules name)
    → rule_of arg ≡ rule → arg.global ≡ false → AddsArg old arg new → HasShape new (with_arguments (rules ++ rule ∷ []) name)
with_argument old new arg rules rule name has is local adds =
    (adds.globals ∙ ap₂ (◌||◌) has.0 local, adds.shape local ∙ ap₂ with_rule has.1 is)

-- one more command
pub with_command : (old sub new : Command) (shape : Shape) → HasShape sub shape → AddsSubcommand old sub new
    → app_of new ≡ with_subcommand (app_of old) shape
with_command old sub new shape has adds = adds.shape has.0 ∙ ap (λ (a : App). with_subcommand (app_of old) a.top) has.1

-- the same of another command that clap reads as this one
pub with_more : (old was new : App) (shape : Shape) → old ≡ was → new ≡ with_subcommand old shape → new ≡ with_subcommand was shape
with_more old was new shape had is = is ∙ ap (λ (a : App). with_subcommand a shape) had
