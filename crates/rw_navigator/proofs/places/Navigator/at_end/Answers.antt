use Rattle.std.proofs.Common.{subst, sym, arith}
use Rattle.rw_navigator.specs.Navigator.{IsAtEnd}
use Rattle.rw_navigator.proofs.Visits.{at_last, start_at_last}
use Rattle.rw_navigator.proofs.places.Navigator.at_end.Goals as goal

pub invariant_of-result : goal.invariant_of-result
invariant_of-result g c =
    let m = g.R.Reversible in
    at_last m g.met.R.Reversible.laws c.new.result c.args.entries.items c.len-place.result (m.shown c.args.start.value)
    (subst (λ k. IsAtEnd m (m.shown c.args.start.value) k c.args.entries.items) (sym c.new.ensures.machine) c.requires.made)
    (omega (arith, c.len-place.ensures, c.args.entries.ok)) c.new.ensures.turns

pub returns-clause-start : goal.returns-clause-start
returns-clause-start g c =
    let m = g.R.Reversible in
    start_at_last m g.met.R.Reversible.laws c.new.result c.args.entries.items c.len-place.result (m.shown c.args.start.value)
    (subst (λ k. IsAtEnd m (m.shown c.args.start.value) k c.args.entries.items) (sym c.new.ensures.machine) c.requires.made)
    (omega (arith, c.len-place.ensures, c.args.entries.ok))

pub returns-clause-place : goal.returns-clause-place
returns-clause-place g c = omega (arith, c.len-place.ensures, c.args.entries.ok)
