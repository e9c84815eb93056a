-- `forward_to_state` goes to the least place above at which the condition begins to hold, or finds that there is none and returns.
use Rattle.std.proofs.Common.{◌≡◌, ◌≤◌, ℕ, ◌+◌, ◌-◌, length, refl, subst, arith}
use Rattle.std.specs.Prelude.{not, ◌&&◌}
use Rattle.rw_navigator.specs.Search.{state_hit}
use Rattle.rw_navigator.specs.Navigator.{MovedTo, start_of}
use Rattle.rw_navigator.proofs.Visits.{moved_on, on_one}
use Rattle.rw_navigator.proofs.Searches.{state_hit-is, found_above, not_above}
use Rattle.rw_navigator.proofs.places.Navigator.forward_to_state.Goals as goal

pub returns-then-comes_true-clause-found : goal.returns-then-comes_true-clause-found
returns-then-comes_true-clause-found g c f tests =
    let m = g.R.Reversible in
    let o = c.args.self.now in
    let v = c.loop-place.self in
    let w = c.advance.new.self in
    let p : ℕ = c.loop-place.place in
    let n : ℕ = p - o.place in
    let kept = c.loop-place.invariant in
    let holds = g.P.Probe.holds_of_state c.args.probe.now in
    let now : MovedTo m o w (p + 1) (n + 1) = on_one m o v w p (p + 1) n (n + 1) kept.moved c.advance.ensures (omega arith) (omega arith) in
    let answer : c.state-holds.result ≡ holds w.machine.state =
    subst (λ x. c.state-holds.result ≡ holds x) c.state-in-loop-place.ensures.state c.state-holds.ensures in
    found_above (state_hit m f (start_of m o) o.entries) p o.place (length o.entries) (c.state-holds.result && not c.loop-place.before) c.comes_true.result
    (omega arith)
    (state_hit-is m f holds o w v (p + 1) p (n + 1) n c.state-holds.result c.loop-place.before tests refl now kept.moved answer kept.before)
    c.comes_true.ensures c.if-comes_true.true (kept.rest f tests)

pub returns-then-comes_true-clause-moved : goal.returns-then-comes_true-clause-moved
returns-then-comes_true-clause-moved g c =
    let m = g.R.Reversible in
    let o = c.args.self.now in
    let v = c.loop-place.self in
    let w = c.advance.new.self in
    let p : ℕ = c.loop-place.place in
    let n : ℕ = p - o.place in
    let kept = c.loop-place.invariant in
    let above : o.place ≤ p = kept.above in
    (n + 1, omega arith, on_one m o v w p (p + 1) n (n + 1) kept.moved c.advance.ensures (omega arith) (omega arith))

pub loop-place-preserved : goal.loop-place-preserved
loop-place-preserved g c =
    let m = g.R.Reversible in
    let o = c.args.self.now in
    let v = c.loop-place.self in
    let w = c.advance.new.self in
    let p : ℕ = c.loop-place.place in
    let n : ℕ = p - o.place in
    let kept = c.loop-place.invariant in
    let above : o.place ≤ p = kept.above in
    let holds = g.P.Probe.holds_of_state c.args.probe.now in
    let now : MovedTo m o w (p + 1) (p + 1 - o.place) = on_one m o v w p (p + 1) n (p + 1 - o.place) kept.moved c.advance.ensures (omega arith) (omega arith) in
    let answer : c.state-holds.result ≡ holds w.machine.state =
    subst (λ x. c.state-holds.result ≡ holds x) c.state-in-loop-place.ensures.state c.state-holds.ensures in
    record {
      rest = λ f tests.
          not_above (state_hit m f (start_of m o) o.entries) p o.place (length o.entries) (c.state-holds.result && not c.loop-place.before) c.comes_true.result
          (omega arith)
          (state_hit-is m f holds o w v (p + 1) p (p + 1 - o.place) n c.state-holds.result c.loop-place.before tests refl now kept.moved answer kept.before)
          c.comes_true.ensures c.if-comes_true.false (kept.rest f tests);
      before = answer;
      moved = now;
      above = omega arith;
      inside = omega arith;
      from = kept.from;
    }

pub returns-clause-moved : goal.returns-clause-moved
returns-clause-moved g c =
    let m = g.R.Reversible in
    let o = c.args.self.now in
    let v = c.loop-place.self in
    let p : ℕ = c.loop-place.place in
    let kept = c.loop-place.invariant in
    let here : v.place ≡ p = kept.moved.place in
    let above : o.place ≤ p = kept.above in
    let inside : p ≤ length o.entries = kept.inside in
    let back : MovedTo m v c.go_back.new.self o.place (v.place - o.place) =
    subst (λ q. MovedTo m v c.go_back.new.self q (v.place - q)) c.place-from.ensures.place c.go_back.ensures in
    ((p - o.place) + (v.place - o.place), omega arith, moved_on m o v c.go_back.new.self p o.place (p - o.place) (v.place - o.place) kept.moved back)
