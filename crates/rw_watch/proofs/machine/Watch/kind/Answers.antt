use Rattle.rw_watch.proofs.Strong.{strong}
use Rattle.rw_watch.proofs.machine.Watch.kind.Goals as goal

pub returns-clause-strong : goal.returns-clause-strong
returns-clause-strong g c = strong _ c.args.id _ c.self.invariant.allowed c.kind.ensures
