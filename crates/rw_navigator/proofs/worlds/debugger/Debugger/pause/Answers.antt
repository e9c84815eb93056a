use Rattle.std.proofs.Common.{subst, sym}
use Rattle.rw_world.specs.Machines.{of_world}
use Rattle.rw_navigator.specs.Debugger.{IsDebugger, IsVisitor, visit_of}
use Rattle.rw_navigator.specs.Navigator.{IsNavigator}
use Rattle.rw_navigator.proofs.worlds.debugger.Debugger.pause.Goals as goal

pub invariant_of-visitor : goal.invariant_of-visitor
invariant_of-visitor g c =
    let run = c.of_parts-run.result in
    let v = c.visit.inside in
    let i = c.self.inside.indexes in
    let is : IsDebugger c.self.inside.specs.items (visit_of v.entries.items v.machine v.place) i = rw (← c.visit.view_is) at c.self.invariant in
    subst (λ r. IsVisitor r v.machine v.place i) (sym c.of.ensures) (record {
      visits = subst (λ es. IsNavigator of_world (visit_of es v.machine v.place)) (sym c.of_parts-run.ensures.entries) c.visit.invariant;
      debugs = subst (λ ss. IsDebugger ss (visit_of run.entries v.machine v.place) i) (sym c.of_parts-run.ensures.specs)
          (subst (λ es. IsDebugger c.self.inside.specs.items (visit_of es v.machine v.place) i) (sym c.of_parts-run.ensures.entries) is);
    })
