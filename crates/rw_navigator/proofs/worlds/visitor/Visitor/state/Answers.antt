use Rattle.std.proofs.Common.{◌∙◌, ap}
use Rattle.rw_world.specs.Machines.{of_world}
use Rattle.rw_navigator.proofs.worlds.visitor.Visitor.state.Goals as goal

pub returns-clause-state : goal.returns-clause-state
returns-clause-state g c = rw (← c.self.view_is) (ap of_world.shown c.state.ensures)

pub returns-clause-documented : goal.returns-clause-documented
returns-clause-documented g c =
    let is = c.self.invariant in
    rw (← c.self.view_is) (ap of_world.shown c.state.ensures ∙ is.visits.shows ∙ is.debugs.shows _)
