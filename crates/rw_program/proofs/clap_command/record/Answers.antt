use Rattle.std.proofs.Common.{rules, ◌≡◌, ◌∷◌, [], false}
use Rattle.std.proofs.lemmas.Result.{IfOk-weaker}
use Rattle.clap.specs.Walk.{rule_of}
use Rattle.rw_program.specs.Clap.{file, threads}
use Rattle.rw_program.proofs.ClapLemmas.{with_argument}
use Rattle.rw_program.proofs.clap_command.record.Goals as goal

pub returns : goal.returns
returns c =
    let local : c.action-threads.result.global ≡ false = search rules in
    let is : rule_of c.action-threads.result ≡ threads = search rules in
    IfOk-weaker c.arg.result _ _ (λ command h. with_argument _ command _ (file ∷ []) threads _ c.in_ok-record.ensures is local h) c.arg.ensures
