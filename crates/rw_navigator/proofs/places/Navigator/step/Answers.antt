use Rattle.std.proofs.Common.{◌≡◌, None, length, ap, sym, ◌∙◌, subst, arith}
use Rattle.rw_navigator.specs.Moves.{answer_of, place_after}
use Rattle.rw_navigator.specs.Navigator.{MovedTo}
use Rattle.rw_navigator.proofs.Visits.{unmoved}
use Rattle.rw_navigator.proofs.places.Navigator.step.Given as given
use Rattle.rw_navigator.proofs.places.Navigator.step.Goals as goal

-- the move leads to no place
nowhere : (g : given.Over) (c : goal.In-None g) → place_after (length c.args.self.now.entries) c.args.self.now.place c.args.to ≡ None
nowhere g c = rw (c.len.ensures, c.place.ensures.place) at (sym c.destination.ensures ∙ c.in-None.is)

pub returns-in-None-clause-answer : goal.returns-in-None-clause-answer
returns-in-None-clause-answer g c = sym (ap answer_of (nowhere g c))

pub returns-in-None-clause-moved : goal.returns-in-None-clause-moved
returns-in-None-clause-moved g c =
    let o = c.args.self.now in
    rw (nowhere g c) (subst (λ n. MovedTo g.R.Reversible o o o.place n) (omega arith) (unmoved g.R.Reversible o c.place.ensures.visit))
