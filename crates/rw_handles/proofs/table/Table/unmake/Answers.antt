use Rattle.std.proofs.Common.{arith, ap, ◌++◌, ◌∷◌, []}
use Rattle.rw_handles.specs.declared.kinds.Slot.TheVariants.{Live}
use Rattle.rw_handles.specs.Slots.{alive}
use Rattle.rw_handles.proofs.Tallies.{alive-push}
use Rattle.rw_handles.proofs.table.Table.unmake.Goals as goal

pub invariant_of-self : goal.invariant_of-self
invariant_of-self g c = (
  omega (arith, c.self.invariant.0),
  λ k.
      let rest = c.pop.new.self.items in
      let popped = ap (alive k) c.in-Some-Live.ensures.items in
      let live = ap (λ s. alive k (rest ++ s ∷ [])) c.in-Some-Live.field-0-is in
      omega (arith, popped, live, alive-push k rest (Live c.in-Some-Live.kind c.in-Some-Live.field-0-1), c.self.invariant.1 k, c.remove.ensures k),
)
