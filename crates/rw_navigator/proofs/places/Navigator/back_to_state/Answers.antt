-- `back_to_state` goes to the greatest place below at which the condition begins to hold, or finds that there is none and returns.
use Rattle.std.proofs.Common.{◌≡◌, ◌≤◌, ℕ, ◌+◌, ◌-◌, subst, arith}
use Rattle.std.specs.Prelude.{not, ◌&&◌}
use Rattle.rw_navigator.specs.Search.{state_hit}
use Rattle.rw_navigator.specs.Navigator.{MovedTo, start_of}
use Rattle.rw_navigator.proofs.Visits.{moved_on, back_one, on_one}
use Rattle.rw_navigator.proofs.Searches.{state_hit-is, found_below, not_below}
use Rattle.rw_navigator.proofs.places.Navigator.back_to_state.Goals as goal

pub returns-then-comes_true-clause-found : goal.returns-then-comes_true-clause-found
returns-then-comes_true-clause-found g c f tests =
    let m = g.R.Reversible in
    let o = c.args.self.now in
    let v = c.loop-place.self in
    let w = c.retreat-in-loop-place.new.self in
    let p : ℕ = c.loop-place.place - 1 in
    let n : ℕ = o.place - p in
    let kept = c.loop-place.invariant in
    let holds = g.P.Probe.holds_of_state c.args.probe.now in
    let before : MovedTo m o w (p - 1) (n + 1) = back_one m o v w p (p - 1) n (n + 1) kept.moved c.retreat-in-loop-place.ensures (omega arith) (omega arith) in
    let answer_before : c.state-before.result ≡ holds w.machine.state =
    subst (λ x. c.state-before.result ≡ holds x) c.state-in-loop-place.ensures.state c.state-before.ensures in
    found_below (state_hit m f (start_of m o) o.entries) p o.place c.loop-place.place (c.loop-place.holds && not c.state-before.result) c.comes_true.result
    (omega arith)
    (state_hit-is m f holds o v w p (p - 1) n (n + 1) c.loop-place.holds c.state-before.result tests (omega arith) kept.moved before kept.holds answer_before)
    c.comes_true.ensures c.if-comes_true.true (kept.rest f tests)

pub returns-then-comes_true-clause-moved : goal.returns-then-comes_true-clause-moved
returns-then-comes_true-clause-moved g c =
    let m = g.R.Reversible in
    let o = c.args.self.now in
    let v = c.loop-place.self in
    let w = c.retreat-in-loop-place.new.self in
    let p : ℕ = c.loop-place.place - 1 in
    let n : ℕ = o.place - p in
    let kept = c.loop-place.invariant in
    let below : c.loop-place.place ≤ o.place = kept.below in
    let before : MovedTo m o w (p - 1) (n + 1) = back_one m o v w p (p - 1) n (n + 1) kept.moved c.retreat-in-loop-place.ensures (omega arith) (omega arith) in
    (n + 2, omega arith, on_one m o w c.advance.new.self (p - 1) p (n + 1) (n + 2) before c.advance.ensures (omega arith) (omega arith))

pub loop-place-preserved : goal.loop-place-preserved
loop-place-preserved g c =
    let m = g.R.Reversible in
    let o = c.args.self.now in
    let v = c.loop-place.self in
    let w = c.retreat-in-loop-place.new.self in
    let p : ℕ = c.loop-place.place - 1 in
    let n : ℕ = o.place - p in
    let kept = c.loop-place.invariant in
    let below : c.loop-place.place ≤ o.place = kept.below in
    let holds = g.P.Probe.holds_of_state c.args.probe.now in
    let before : MovedTo m o w (p - 1) (o.place - (p - 1)) =
    back_one m o v w p (p - 1) n (o.place - (p - 1)) kept.moved c.retreat-in-loop-place.ensures (omega arith) (omega arith) in
    let answer_before : c.state-before.result ≡ holds w.machine.state =
    subst (λ x. c.state-before.result ≡ holds x) c.state-in-loop-place.ensures.state c.state-before.ensures in
    record {
      rest = λ f tests.
          not_below (state_hit m f (start_of m o) o.entries) p o.place c.loop-place.place (c.loop-place.holds && not c.state-before.result) c.comes_true.result
          (omega arith)
          (state_hit-is m f holds o v w p (p - 1) n (o.place - (p - 1)) c.loop-place.holds c.state-before.result tests (omega arith) kept.moved before
          kept.holds answer_before)
          c.comes_true.ensures c.if-comes_true.false (kept.rest f tests);
      holds = answer_before;
      moved = before;
      above = omega arith;
      below = omega arith;
      from = kept.from;
    }

pub returns-clause-moved : goal.returns-clause-moved
returns-clause-moved g c =
    let m = g.R.Reversible in
    let o = c.args.self.now in
    let v = c.loop-place.self in
    let p : ℕ = c.loop-place.place - 1 in
    let kept = c.loop-place.invariant in
    let here : v.place ≡ p = kept.moved.place in
    let below : c.loop-place.place ≤ o.place = kept.below in
    let onward : MovedTo m v c.go_on.new.self o.place (o.place - v.place) =
    subst (λ q. MovedTo m v c.go_on.new.self q (q - v.place)) c.place-from.ensures.place c.go_on.ensures in
    ((o.place - p) + (o.place - v.place), omega arith, moved_on m o v c.go_on.new.self p o.place (o.place - p) (o.place - v.place) kept.moved onward)
