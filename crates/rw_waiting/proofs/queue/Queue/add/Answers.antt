use Rattle.std.proofs.Common.{◌∙◌, ap, sym, subst, ◌+◌}
use Rattle.rw_waiting.specs.Queue.{AreBelow, entries_of}
use Rattle.rw_waiting.proofs.Numbered.{added, below_next}
use Rattle.rw_waiting.proofs.queue.Queue.add.Goals as goal

pub invariant_of-self-2 : goal.invariant_of-self-2
invariant_of-self-2 g c =
    let es = c.self.inside.items.entries in
    let below = below_next c.self.inside.next es c.args.item c.self.invariant.1 in
    (c.insert.ensures.ordered, subst (AreBelow (c.self.inside.next + 1)) (sym c.in_ok-insert.ensures.entries) below)

pub returns-clause-added : goal.returns-clause-added
returns-clause-added g c =
    let es = c.self.inside.items.entries in
    let last = ap entries_of c.in_ok-insert.ensures.entries ∙ added c.self.inside.next es c.args.item c.self.invariant.1 in
    rw (← c.self.view_is) (ap (λ ks. record { items = ks; next = c.self.inside.next + 1 }) last)
