use Rattle.std.proofs.Common.{◌∙◌, ap, sym, arith, ◌-◌, ◌≤◌}
use Rattle.std.specs.Prelude.{Some, slice_get}
use Rattle.rw_ring.specs.Windows.{oldest}
use Rattle.rw_ring.proofs.Cells.{cell_at}
use Rattle.rw_ring.proofs.ring.Ring.at.Goals as goal

pub returns-clause-kept : goal.returns-clause-kept
returns-clause-kept g c = λ kept.
    let k = c.self.inside.capacity in
    let n = c.self.inside.count in
    let cells = c.self.inside.cells.items in
    let position = c.args.position in
    let same = c.self.view_is in
    let within : n - k ≤ position = omega (arith, ap oldest same, kept) in
    ap Some c.index.ensures
    ∙ (sym (cell_at k n position cells c.index.result.now c.self.invariant.0 (omega (arith, c.self.invariant.2)) within c.if-position-self.false)
    ∙ ap (λ w. slice_get w.values (position - oldest w)) same)
