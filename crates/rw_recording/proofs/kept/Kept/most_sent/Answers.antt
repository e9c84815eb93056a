use Rattle.std.proofs.Common.{ap, length, subst}
use Rattle.rw_world.specs.Machines.{of_chan}
use Rattle.rw_recording.specs.NoLeads.{IsMostOf}
use Rattle.rw_recording.proofs.Needing.{most_from}
use Rattle.rw_recording.proofs.kept.Kept.most_sent.Goals as goal

pub returns : goal.returns
returns c =
    let i = c.self.inside in
    most_from (of_chan.shown i.base) i.calls.items c.args.self.now c.most_sent.result (ap (λ k. k.before) c.self.view_is) (ap (λ k. k.entries) c.self.view_is)
    (subst (λ l. IsMostOf (of_chan.shown i.base) l (length l) c.most_sent.result) c.deref.ensures.value c.most_sent.ensures)
