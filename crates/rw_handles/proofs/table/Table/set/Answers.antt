use Rattle.std.proofs.Common.{◌∙◌, sym, ap, arith}
use Rattle.std.specs.Prelude.{Some, slice_get}
use Rattle.rw_handles.specs.declared.kinds.Slot.TheVariants.{Live}
use Rattle.rw_handles.proofs.Tallies.{alive-set}
use Rattle.rw_handles.proofs.table.Table.set.Goals as goal

pub invariant_of-self : goal.invariant_of-self
invariant_of-self g c = (
  c.self.invariant.0,
  λ k.
      let at = ap (λ v. slice_get v.slots c.args.id) c.self.view_is ∙ (sym c.in-Some-Live.ensures ∙ ap Some c.in-Some-Live.field-0-is) in
      omega (
        arith,
        alive-set k c.self.inside.slots.items c.args.id (Live c.in-Some-Live.own c.in-Some-Live.field-0-1) (Live c.in-Some-Live.own c.args.x) at,
        c.self.invariant.1 k,
      ),
)
