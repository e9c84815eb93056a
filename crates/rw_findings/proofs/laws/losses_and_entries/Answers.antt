use Rattle.rw_findings.proofs.LossLaws.{lost_values_follow, told_losses_are_replies}
use Rattle.rw_findings.proofs.LossSums.{totals_add_up}
use Rattle.rw_findings.proofs.laws.losses_and_entries.Goals as goal

pub returns-clause-values : goal.returns-clause-values
returns-clause-values g c = lost_values_follow _

pub returns-clause-told : goal.returns-clause-told
returns-clause-told g c = told_losses_are_replies _

pub returns-clause-totals : goal.returns-clause-totals
returns-clause-totals g c = totals_add_up _
