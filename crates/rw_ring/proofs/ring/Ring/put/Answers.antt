use Rattle.std.proofs.Common.{◌∙◌, ap, arith, set, ◌+◌, ◌%◌}
use Rattle.rw_ring.specs.Cells.{in_order}
use Rattle.rw_ring.specs.Windows.{window_after}
use Rattle.rw_ring.proofs.Cells.{push_puts, write_puts}
use Rattle.rw_ring.proofs.ring.Ring.put.Goals as goal

pub returns-clause-values : goal.returns-clause-values
returns-clause-values g c =
    let k = c.self.inside.capacity in
    let n = c.self.inside.count in
    let cells = c.self.inside.cells.items in
    ap (λ x. in_order k (n + 1) (set cells (n % k) x)) {x = c.replace.new.dest} c.replace.ensures.after
    ∙ (write_puts k n cells c.args.v c.self.invariant.0 c.if-position-self.false (omega (arith, c.self.invariant.2, c.if-position-self.false))
    ∙ ap (λ w. window_after w.capacity w.values c.args.v) c.self.view_is)

pub returns-then-position-self-clause-values : goal.returns-then-position-self-clause-values
returns-then-position-self-clause-values g c =
    let k = c.self.inside.capacity in
    let n = c.self.inside.count in
    let cells = c.self.inside.cells.items in
    ap (in_order k (n + 1)) c.push_reserved.ensures.items
    ∙ (push_puts k n cells c.args.v c.if-position-self.true (omega (arith, c.self.invariant.2, c.if-position-self.true))
    ∙ ap (λ w. window_after w.capacity w.values c.args.v) c.self.view_is)
