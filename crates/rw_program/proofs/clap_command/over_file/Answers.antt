use Rattle.std.proofs.Common.{rules, ◌≡◌, [], false}
use Rattle.std.proofs.lemmas.Result.{IfOk-weaker}
use Rattle.clap.specs.Walk.{rule_of}
use Rattle.rw_program.specs.Clap.{file}
use Rattle.rw_program.proofs.ClapLemmas.{with_argument, with_text}
use Rattle.rw_program.proofs.clap_command.over_file.Goals as goal

pub returns : goal.returns
returns c =
    let local : c.action-file.result.global ≡ false = search rules in
    let is : rule_of c.action-file.result ≡ file = search rules in
    let old = with_text _ _ _ _ c.new-2.ensures.app c.new-2.ensures.local c.about-command.ensures in
    IfOk-weaker c.arg.result _ _ (λ command h. with_argument _ command _ [] file _ old is local h) c.arg.ensures
