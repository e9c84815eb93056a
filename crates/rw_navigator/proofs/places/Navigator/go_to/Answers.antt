use Rattle.std.proofs.Common.{subst, arith}
use Rattle.rw_navigator.specs.Navigator.{MovedTo}
use Rattle.rw_navigator.proofs.places.Navigator.go_to.Goals as goal

pub returns-then-place : goal.returns-then-place
returns-then-place g c =
    subst (λ n. MovedTo g.R.Reversible c.args.self.now c.go_back.new.self c.args.place n) (omega (arith, c.if-place.true, c.place.ensures.place))
    c.go_back.ensures

pub returns-else-place : goal.returns-else-place
returns-else-place g c =
    subst (λ n. MovedTo g.R.Reversible c.args.self.now c.go_on.new.self c.args.place n) (omega (arith, c.if-place.false, c.place.ensures.place)) c.go_on.ensures
