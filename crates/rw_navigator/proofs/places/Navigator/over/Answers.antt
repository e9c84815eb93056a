use Rattle.std.proofs.Common.{◌∙◌, ap, refl, arith}
use Rattle.rw_navigator.proofs.Visits.{at_first}
use Rattle.rw_navigator.proofs.places.Navigator.over.Goals as goal

pub invariant_of-result : goal.invariant_of-result
invariant_of-result g c =
    let m = g.R.Reversible in
    at_first m g.met.R.Reversible.laws c.new.result c.args.entries.items (m.shown c.args.start) (ap m.shown c.new.ensures.machine ∙ c.ready.ensures.view)
    c.weight-weight.ensures.known c.requires.legal (omega (arith, ap m.reserved c.new.ensures.machine, c.in_ok-ready.ensures.room, c.len.ensures))
    c.new.ensures.turns

pub returns-clause-entries : goal.returns-clause-entries
returns-clause-entries g c = refl

pub returns-clause-start : goal.returns-clause-start
returns-clause-start g c = ap g.R.Reversible.shown c.new.ensures.machine ∙ c.ready.ensures.view

pub returns-clause-shows : goal.returns-clause-shows
returns-clause-shows g c = ap g.R.Reversible.shown c.new.ensures.machine ∙ c.ready.ensures.view
