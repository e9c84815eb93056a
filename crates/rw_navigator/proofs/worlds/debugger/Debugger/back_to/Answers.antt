use Rattle.std.proofs.Common.{◌∙◌}
use Rattle.rw_navigator.proofs.Debugging.{still, went, found_below}
use Rattle.rw_navigator.proofs.worlds.debugger.Debugger.back_to.Goals as goal

pub invariant_of-self : goal.invariant_of-self
invariant_of-self g c = still _ _ _ c.self.invariant _ _ c.back_to.ensures.moved.2

pub returns-clause-found : goal.returns-clause-found
returns-clause-found g c =
    rw (← c.self.view_is)
    (λ f tests. c.back_to.ensures.found f tests ∙ found_below c.self.inside.specs.items c.self.inside.visit c.self.invariant
    (g.P.Probe.asks_step c.args.probe.now) (g.P.Probe.holds_of_step c.args.probe.now) f)

pub returns-clause-moved : goal.returns-clause-moved
returns-clause-moved g c =
    let moved = c.back_to.ensures.moved in
    rw (← c.self.view_is) (moved.0, moved.1, went _ _ _ c.self.invariant _ _ moved.2)

pub returns-clause-below : goal.returns-clause-below
returns-clause-below g c = rw (← c.self.view_is) c.back_to.ensures.below

pub returns-clause-found_step : goal.returns-clause-found_step
returns-clause-found_step g c = rw (← c.self.view_is) c.back_to.ensures.found_step

pub returns-clause-moved_step : goal.returns-clause-moved_step
returns-clause-moved_step g c = rw (← c.self.view_is) (λ asks. went _ _ _ c.self.invariant _ _ (c.back_to.ensures.moved_step asks))
