use Rattle.std.proofs.Common.{◌-◌, ap, arith}
use Rattle.rw_navigator.specs.Search.{step_hit, last_below}
use Rattle.rw_navigator.proofs.Searches.{step_hit-is, not_below}
use Rattle.rw_navigator.proofs.places.Navigator.last_step_below.Goals as goal

pub loop-place-init : goal.loop-place-init
loop-place-init g c =
    let holds = g.P.Probe.holds_of_step c.args.probe.now in
    record {
      rest = ap (last_below (step_hit holds c.args.self.now.entries)) c.place-here.ensures.place;
      below = omega (arith, c.place-here.ensures.place);
    }

pub loop-place-preserved : goal.loop-place-preserved
loop-place-preserved g c =
    let o = c.args.self.now in
    let p = c.loop-place.place - 1 in
    let e = c.entry_before.result.now in
    let holds = g.P.Probe.holds_of_step c.args.probe.now in
    record {
      rest = not_below (step_hit holds o.entries) p o.place c.loop-place.place (holds e) c.step.result (omega arith)
          (step_hit-is holds o.entries p e (omega arith) c.entry_before.ensures) c.step.ensures c.if-step.false c.loop-place.invariant.rest;
      below = omega (arith, c.loop-place.invariant.below);
    }
