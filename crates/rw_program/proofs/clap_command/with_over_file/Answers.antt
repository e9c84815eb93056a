use Rattle.std.proofs.lemmas.Result.{IfOk-weaker}
use Rattle.rw_program.proofs.ClapLemmas.{with_command}
use Rattle.rw_program.proofs.clap_command.with_over_file.Goals as goal

pub returns : goal.returns
returns c = IfOk-weaker c.subcommand.result _ _ (λ command h. with_command _ _ command _ c.in_ok-over.ensures h) c.subcommand.ensures
