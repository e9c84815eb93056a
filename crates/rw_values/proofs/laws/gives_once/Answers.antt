use Rattle.rw_values.proofs.Once.{gives_or_keeps, keeps_what_is_awaited}
use Rattle.rw_values.proofs.laws.gives_once.Goals as goal

pub returns-clause-once : goal.returns-clause-once
returns-clause-once g c = gives_or_keeps _

pub returns-clause-awaited : goal.returns-clause-awaited
returns-clause-awaited g c = keeps_what_is_awaited _
