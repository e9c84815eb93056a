use Rattle.std.proofs.Common.{◌∙◌}
use Rattle.rw_navigator.proofs.Debugging.{still, went, found_above}
use Rattle.rw_navigator.proofs.worlds.debugger.Debugger.forward_to.Goals as goal

pub invariant_of-self : goal.invariant_of-self
invariant_of-self g c = still _ _ _ c.self.invariant _ _ c.forward_to.ensures.moved.2

pub returns-clause-found : goal.returns-clause-found
returns-clause-found g c =
    rw (← c.self.view_is)
    (λ f tests. c.forward_to.ensures.found f tests
    ∙ found_above c.self.inside.specs.items c.self.inside.visit c.self.invariant (g.P.Probe.asks_step c.args.probe.now)
    (g.P.Probe.holds_of_step c.args.probe.now) f)

pub returns-clause-moved : goal.returns-clause-moved
returns-clause-moved g c =
    let moved = c.forward_to.ensures.moved in
    rw (← c.self.view_is) (moved.0, moved.1, went _ _ _ c.self.invariant _ _ moved.2)

pub returns-clause-above : goal.returns-clause-above
returns-clause-above g c = rw (← c.self.view_is) c.forward_to.ensures.above

pub returns-clause-found_step : goal.returns-clause-found_step
returns-clause-found_step g c = rw (← c.self.view_is) c.forward_to.ensures.found_step

pub returns-clause-moved_step : goal.returns-clause-moved_step
returns-clause-moved_step g c = rw (← c.self.view_is) (λ asks. went _ _ _ c.self.invariant _ _ (c.forward_to.ensures.moved_step asks))
