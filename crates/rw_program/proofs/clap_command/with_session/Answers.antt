use Rattle.std.proofs.lemmas.Result.{IfOk-weaker}
use Rattle.rw_program.proofs.ClapLemmas.{with_command, with_text}
use Rattle.rw_program.proofs.clap_command.with_session.Goals as goal

pub returns : goal.returns
returns c =
    let session = with_text _ _ _ _ c.new.ensures.app c.new.ensures.local c.about-session.ensures in
    IfOk-weaker c.subcommand.result _ _ (λ command h. with_command _ _ command _ session h) c.subcommand.ensures
