use Rattle.rw_waiting.proofs.Watching.{watch_waits}
use Rattle.rw_waiting.proofs.Stepping.{in_vain, only_the_ready, woken_or_listed, once}
use Rattle.rw_waiting.specs.Watches.{of_watch}
use Rattle.rw_waiting.proofs.laws.nobody_waits_in_vain_for_watch.Goals as goal

pub returns-clause-in_vain : goal.returns-clause-in_vain
returns-clause-in_vain g c = in_vain (of_watch _) (watch_waits _)

pub returns-clause-ready : goal.returns-clause-ready
returns-clause-ready g c = only_the_ready (of_watch _) (watch_waits _)

pub returns-clause-nobody_lost : goal.returns-clause-nobody_lost
returns-clause-nobody_lost g c = woken_or_listed (of_watch _)

pub returns-clause-once : goal.returns-clause-once
returns-clause-once g c = once (of_watch _)
