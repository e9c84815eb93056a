use Rattle.rw_findings.proofs.UniqueFindings.{closings_are_unique, losses_are_unique, peaks_are_unique, totals_are_unique}
use Rattle.rw_findings.proofs.UniqueLives.{lives_are_unique, values_are_unique}
use Rattle.rw_findings.proofs.laws.unique_findings.Goals as goal

pub returns-clause-losses : goal.returns-clause-losses
returns-clause-losses g c = losses_are_unique _

pub returns-clause-totals : goal.returns-clause-totals
returns-clause-totals g c = totals_are_unique _

pub returns-clause-closings : goal.returns-clause-closings
returns-clause-closings g c = closings_are_unique _

pub returns-clause-peaks : goal.returns-clause-peaks
returns-clause-peaks g c = peaks_are_unique _

pub returns-clause-lives : goal.returns-clause-lives
returns-clause-lives g c = lives_are_unique _

pub returns-clause-values : goal.returns-clause-values
returns-clause-values g c = values_are_unique _
