use Rattle.std.proofs.Common.{◌≡◌, ◌∙◌, ap, arith, length, subst, sym}
use Rattle.rw_ring.specs.Windows.{Ring}
use Rattle.rw_broadcast.specs.Record.{opening_record}
use Rattle.rw_broadcast.specs.Shown.{IsAllowed, Shown, shown}
use Rattle.rw_broadcast.proofs.Powers.{shown-opened}
use Rattle.rw_broadcast.proofs.Showing.{allowed_opening}
use Rattle.rw_broadcast.proofs.machine.Broadcast.open.Goals as goal

pub invariant_of-result : goal.invariant_of-result
invariant_of-result g c =
    let over : Ring g.row.V.Denot → Shown g.row.V.Denot =
    λ w. record { capacity = w.capacity; sent = w.count; window = w.values; slots = c.in_ok-handles.handles.slots } in
    let opening : over c.in_ok-values.values ≡ shown (opening_record c.args.capacity) =
    ap over c.in_ok-values.ensures ∙ rw (c.retained_capacity.ensures.capacity, c.in_ok-handles.ensures) (sym (shown-opened c.args.capacity)) in
    let P = λ (y : Shown g.row.V.Denot). IsAllowed y in
    record {
      allowed = subst P (sym opening) (allowed_opening c.args.capacity);
      within = omega (arith, ap length c.in_ok-handles.ensures, ap (λ (w : Ring g.row.V.Denot). w.count) c.in_ok-values.ensures);
      small_limit = omega arith;
      makings = omega (arith, ap length c.in_ok-handles.ensures);
    }
