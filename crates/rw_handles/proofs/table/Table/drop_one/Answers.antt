use Rattle.std.proofs.Common.{◌∙◌, sym, ap, arith}
use Rattle.std.specs.Prelude.{Some, slice_get}
use Rattle.std.proofs.lemmas.Option.{slice_get_within}
use Rattle.rw_handles.specs.declared.kinds.Slot.TheVariants.{Live, Spent}
use Rattle.rw_handles.proofs.Tallies.{alive-set, alive-some}
use Rattle.rw_handles.proofs.table.Table.drop_one.Goals as goal

pub remove-requires : goal.remove-requires
remove-requires g c =
    let at = ap (λ v. slice_get v.slots c.args.id) c.self.view_is ∙ (sym c.in-Some-Live.ensures ∙ ap Some c.in-Some-Live.field-0-is) in
    omega (arith, alive-some c.in-Some-Live.kind c.self.inside.slots.items c.args.id c.in-Some-Live.x at, c.self.invariant.1 c.in-Some-Live.kind)

pub index_mut-requires : goal.index_mut-requires
index_mut-requires g c =
    let at = ap (λ v. slice_get v.slots c.args.id) c.self.view_is ∙ sym c.in-Some-Live.ensures in
    omega (arith, slice_get_within c.self.inside.slots.items c.args.id c.in-Some-Live.field-0 at)

pub invariant_of-self : goal.invariant_of-self
invariant_of-self g c = (
  c.self.invariant.0,
  λ k.
      let at = ap (λ v. slice_get v.slots c.args.id) c.self.view_is ∙ (sym c.in-Some-Live.ensures ∙ ap Some c.in-Some-Live.field-0-is) in
      omega (
        arith,
        alive-set k c.self.inside.slots.items c.args.id (Live c.in-Some-Live.kind c.in-Some-Live.x) Spent at,
        c.self.invariant.1 k,
        c.remove.ensures k,
      ),
)
