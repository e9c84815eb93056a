use Rattle.std.proofs.Common.{◌<◌, map, length, ◌∙◌, sym, ap, arith}
use Rattle.std.proofs.lemmas.List.{take_all}
use Rattle.rw_desk.specs.Closing.{passes_of}
use Rattle.rw_desk.proofs.Passing.{length_passes, none_of, one_of, pass_at}
use Rattle.rw_desk.proofs.strangers.passes_of.Goals as goal
use Rattle.rw_desk.proofs.strangers.passes_of.Goals.{else-actor, then-actor}

pub loop-pass-preserved : goal.loop-pass-preserved
loop-pass-preserved g c =
    let of = g.P.HasPass.pass_of in
    let xs = c.args.passes.now in
    let a = c.args.actor in
    let inv = c.loop-pass.invariant in
    let p = of c.pass-item.result in
    let i = c.loop-pass.pass-index in
    let within : i < length (map of xs) = omega (arith, length_passes of xs, c.loop-pass-test.true) in
    let at = pass_at of xs i c.pass-item.result c.loop-pass-test.true c.pass-item.is in
    elim c.if-actor.branch [
      | then-actor w ↦ (
        omega (arith, w.count-is, inv.0, one_of a i (map of xs) p within at (sym c.actor.ensures.actor ∙ w.if-actor.true)),
        omega (arith, w.count-is, inv.1),
      )
      | else-actor w ↦ (
        omega (arith, w.count-is, inv.0, none_of a i (map of xs) p within at (λ same. w.if-actor.false (c.actor.ensures.actor ∙ same))),
        omega (arith, w.count-is, inv.1),
      )
    ]

pub returns : goal.returns
returns g c =
    let of = g.P.HasPass.pass_of in
    c.loop-pass.invariant.0 ∙ ap (passes_of c.args.actor)
    (take_all c.loop-pass.pass-index (map of c.args.passes.now) (omega (arith, length_passes of c.args.passes.now)))
