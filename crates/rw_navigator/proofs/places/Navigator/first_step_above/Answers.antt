use Rattle.std.proofs.Common.{◌+◌, length, arith}
use Rattle.rw_navigator.specs.Search.{step_hit}
use Rattle.rw_navigator.proofs.Searches.{step_hit-is, not_above}
use Rattle.rw_navigator.proofs.places.Navigator.first_step_above.Goals as goal

pub loop-place-preserved : goal.loop-place-preserved
loop-place-preserved g c =
    let o = c.args.self.now in
    let p = c.loop-place.place in
    let e = c.entry_before.result.now in
    let holds = g.P.Probe.holds_of_step c.args.probe.now in
    record {
      rest = not_above (step_hit holds o.entries) p o.place (length o.entries) (holds e) c.step.result (omega arith)
          (step_hit-is holds o.entries (p + 1) e (omega arith) c.entry_before.ensures) c.step.ensures c.if-step.false c.loop-place.invariant.rest;
      above = omega (arith, c.loop-place.invariant.above);
      inside = omega arith;
    }
