use Rattle.std.proofs.Common.{arith, ap, ◌∙◌, ◌≡◌}
use Rattle.std.specs.Prelude.{Some, slice_get}
use Rattle.rw_handles.specs.declared.kinds.Slot.TheVariants.{Live, Spent}
use Rattle.rw_handles.proofs.Tallies.{alive-below, alive-set}
use Rattle.rw_handles.proofs.table.Table.undrop.Goals as goal

pub add-requires : goal.add-requires
add-requires g c =
    let slots = c.self.inside.slots.items in
    let at : slice_get slots c.args.id ≡ Some Spent = ap (λ v. slice_get v.slots c.args.id) c.self.view_is ∙ c.requires in
    omega (arith, alive-below c.args.kind slots c.args.id c.args.x at, c.self.invariant.1 c.args.kind, c.self.invariant.0)

pub invariant_of-self : goal.invariant_of-self
invariant_of-self g c = (
  c.self.invariant.0,
  λ k.
      let slots = c.self.inside.slots.items in
      let at : slice_get slots c.args.id ≡ Some Spent = ap (λ v. slice_get v.slots c.args.id) c.self.view_is ∙ c.requires in
      omega (arith, alive-set k slots c.args.id Spent (Live c.args.kind c.args.x) at, c.self.invariant.1 k, c.add.ensures k),
)
