use Rattle.rw_watch.proofs.Cloning.{cloned_mark}
use Rattle.rw_watch.proofs.machine.Watch.perform.Goals as goal

pub make-requires-in-CloneReceiver-clause-marked : goal.make-requires-in-CloneReceiver-clause-marked
make-requires-in-CloneReceiver-clause-marked g c =
    cloned_mark c.args.self.now.shown c.args.call.now c.in-CloneReceiver.field-0 c.args.kind c.args.mark c.in-CloneReceiver.is c.requires.found
