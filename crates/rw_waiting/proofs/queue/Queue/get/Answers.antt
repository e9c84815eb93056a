use Rattle.std.proofs.Common.{◌∙◌}
use Rattle.rw_waiting.proofs.Numbered.{found}
use Rattle.rw_waiting.proofs.queue.Queue.get.Goals as goal

pub returns : goal.returns
returns g c =
    rw (← c.self.view_is) (c.get.ensures.value ∙ found c.args.number c.self.inside.items.entries)
