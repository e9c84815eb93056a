use Rattle.std.proofs.lemmas.Result.{IfOk-weaker}
use Rattle.rw_program.proofs.ClapLemmas.{with_more}
use Rattle.rw_program.proofs.clap_command.command_line.Goals as goal

pub returns : goal.returns
returns c =
    let session_in = with_more _ _ _ _ c.in_ok-program.ensures c.in_ok-program-2.ensures in
    let record_in = with_more _ _ _ _ session_in c.in_ok-program-3.ensures in
    let check_in = with_more _ _ _ _ record_in c.in_ok-program-4.ensures in
    let debug_in = with_more _ _ _ _ check_in c.in_ok-program-5.ensures in
    IfOk-weaker c.with_over_file-3.result _ _ (λ command h. with_more _ _ _ _ debug_in h) c.with_over_file-3.ensures
