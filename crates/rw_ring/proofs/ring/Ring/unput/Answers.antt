use Rattle.std.proofs.Common.{◌≡◌, ◌∙◌, ap, sym, arith, ◌+◌, ◌-◌, ◌<◌}
use Rattle.std.specs.Prelude.{Some, is_some, nat_lt}
use Rattle.std.proofs.lemmas.Bool.{ltb-true}
use Rattle.rw_ring.specs.Cells.{in_order}
use Rattle.rw_ring.specs.Windows.{window_before}
use Rattle.rw_ring.proofs.Cells.{write_unputs}
use Rattle.rw_ring.proofs.ring.Ring.unput.Goals as goal

pub returns-in-Some-clause-values : goal.returns-in-Some-clause-values
returns-in-Some-clause-values g c =
    let k = c.self.inside.capacity in
    let n = c.self.inside.count in
    let cells = c.self.inside.cells.items in
    let v = c.in-Some.v in
    let same = c.self.view_is in
    let some : 0 < n = omega (arith, ap (λ w. w.count) same, c.requires.some) in
    let one_more : n - 1 + 1 ≡ n = omega (arith, some) in
    let many : k < n = ltb-true k n (ap (λ w. nat_lt w.capacity w.count) same ∙ (sym c.requires.evicted ∙ ap is_some c.in-Some.is)) in
    write_unputs k (n - 1) cells v c.self.invariant.0 (omega (arith, c.self.invariant.2, many))
    ∙ (ap (λ m. window_before (Some v) (in_order k m cells)) one_more
    ∙ (ap (λ w. window_before (Some v) w.values) same ∙ ap (λ e. window_before e c.args.self.now.values) (sym c.in-Some.is)))
