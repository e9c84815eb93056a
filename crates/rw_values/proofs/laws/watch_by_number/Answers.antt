use Rattle.rw_values.proofs.NamingWatch.{watch_replies_by_name, watch_replies_by_name_throughout}
use Rattle.rw_values.proofs.laws.watch_by_number.Goals as goal

pub returns-clause-each : goal.returns-clause-each
returns-clause-each g c = watch_replies_by_name _ _

pub returns-clause-throughout : goal.returns-clause-throughout
returns-clause-throughout g c = watch_replies_by_name_throughout _ _
