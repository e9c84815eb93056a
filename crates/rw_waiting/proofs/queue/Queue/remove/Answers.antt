use Rattle.std.proofs.Common.{◌∙◌, ap, sym, subst}
use Rattle.rw_waiting.specs.Queue.{AreBelow, entries_of}
use Rattle.rw_waiting.proofs.Numbered.{below_left, found, left}
use Rattle.rw_waiting.proofs.queue.Queue.remove.Goals as goal

pub invariant_of-self : goal.invariant_of-self
invariant_of-self g c =
    let es = c.self.inside.items.entries in
    let below = below_left c.args.number c.self.inside.next es c.self.invariant.1 in
    (c.remove.ensures.ordered, subst (AreBelow c.self.inside.next) (sym c.remove.ensures.entries) below)

pub returns-clause-removed : goal.returns-clause-removed
returns-clause-removed g c =
    rw (← c.self.view_is) (c.remove.ensures.value ∙ found c.args.number c.self.inside.items.entries)

pub returns-clause-left : goal.returns-clause-left
returns-clause-left g c =
    let es = c.self.inside.items.entries in
    let others = ap entries_of c.remove.ensures.entries ∙ left c.args.number es c.self.invariant.0 in
    rw (← c.self.view_is) (ap (λ ks. record { items = ks; next = c.self.inside.next }) others)
