use Rattle.rw_navigator.proofs.Debugging.{still_on, went_on, left_on}
use Rattle.rw_navigator.proofs.worlds.debugger.Debugger.walk.Goals as goal

pub invariant_of-self : goal.invariant_of-self
invariant_of-self g c = still_on _ _ _ c.self.invariant _ _ c.walk.result c.walk.ensures.moved c.walk.ensures.refused

pub returns-clause-answers : goal.returns-clause-answers
returns-clause-answers g c = rw (← c.self.view_is) c.walk.ensures.answers

pub returns-clause-moved : goal.returns-clause-moved
returns-clause-moved g c = rw (← c.self.view_is) (went_on _ _ _ c.self.invariant _ _ c.walk.result c.walk.ensures.moved)

pub returns-clause-documented : goal.returns-clause-documented
returns-clause-documented g c = rw (← c.self.view_is) c.self.invariant.documented

pub returns-clause-refused : goal.returns-clause-refused
returns-clause-refused g c = rw (← c.self.view_is) (left_on _ _ _ c.self.invariant 0 0 c.walk.result c.walk.ensures.refused)
