use Rattle.rw_navigator.proofs.Debugging.{still, went, left_on}
use Rattle.rw_navigator.proofs.worlds.debugger.Debugger.step.Goals as goal

pub invariant_of-self : goal.invariant_of-self
invariant_of-self g c = still _ _ _ c.self.invariant _ _ c.step.ensures.moved

pub returns-clause-answer : goal.returns-clause-answer
returns-clause-answer g c = rw (← c.self.view_is) c.step.ensures.answer

pub returns-clause-moved : goal.returns-clause-moved
returns-clause-moved g c = rw (← c.self.view_is) (went _ _ _ c.self.invariant _ _ c.step.ensures.moved)

pub returns-clause-refused : goal.returns-clause-refused
returns-clause-refused g c = rw (← c.self.view_is) (left_on _ _ _ c.self.invariant 0 0 c.step.result c.step.ensures.refused)
