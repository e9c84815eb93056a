use Rattle.std.proofs.Common.{◌<◌, map, length, subst, arith}
use Rattle.std.proofs.lemmas.List.{take_all}
use Rattle.rw_law.specs.declared.limits.TheConstants.{MOST_ACTORS}
use Rattle.rw_world.specs.Lists.{Each}
use Rattle.rw_desk.specs.Passes.{Pass}
use Rattle.rw_desk.proofs.Passing.{Each-more, length_passes, pass_at}
use Rattle.rw_desk.proofs.strangers.known.Goals as goal

pub loop-pass-preserved : goal.loop-pass-preserved
loop-pass-preserved g c =
    let of = g.P.HasPass.pass_of in
    let xs = c.args.passes.now in
    let i = c.loop-pass.pass-index in
    let within : i < length (map of xs) = omega (arith, length_passes of xs, c.loop-pass-test.true) in
    Each-more (λ p. p.actor < MOST_ACTORS) (map of xs) i (of c.pass-item.result) within
    (pass_at of xs i c.pass-item.result c.loop-pass-test.true c.pass-item.is)
    (omega (arith, c.actor.ensures.actor, c.actor.ensures.known)) c.loop-pass.invariant

pub returns : goal.returns
returns g c =
    let ps = map g.P.HasPass.pass_of c.args.passes.now in
    subst (Each (λ (p : Pass g.row.V.Denot). p.actor < MOST_ACTORS))
    (take_all c.loop-pass.pass-index ps (omega (arith, length_passes g.P.HasPass.pass_of c.args.passes.now))) c.loop-pass.invariant
