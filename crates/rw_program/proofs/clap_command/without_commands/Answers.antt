use Rattle.std.proofs.Common.{ap, ◌∙◌, true}
use Rattle.clap.specs.Simple.{app_of_fields, on_top}
use Rattle.rw_program.proofs.clap_command.without_commands.Goals as goal

pub returns : goal.returns
returns c =
    ap app_of_fields c.subcommand_required.ensures
    ∙ ap (on_top (λ s. record s { subcommand_required = true })) (ap app_of_fields c.about-program.ensures
    ∙ (ap app_of_fields c.in_ok-program.ensures.0 ∙ c.new.ensures.app))
