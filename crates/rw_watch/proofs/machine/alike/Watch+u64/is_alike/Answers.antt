use Rattle.std.proofs.Common.{rules}
use Rattle.rw_watch.proofs.Comparing.{alike_by_slots}
use Rattle.rw_watch.proofs.machine.alike.Watch+u64.is_alike.Goals as goal

pub returns : goal.returns
returns c = λ yes.
    alike_by_slots c.args.numbers.now c.args.self.now.shown c.args.other.now.shown c.deref.result.now c.in_ok-there.there.items
    (search rules) (search rules) (search rules) (c.is_renaming.ensures yes)
