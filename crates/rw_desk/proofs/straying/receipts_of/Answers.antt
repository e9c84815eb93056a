use Rattle.std.proofs.Common.{◌<◌, map, length, ◌∙◌, sym, ap, arith}
use Rattle.std.proofs.lemmas.List.{drop_all}
use Rattle.rw_desk.specs.Closing.{receipts_of}
use Rattle.rw_desk.proofs.Passing.{length_passes, pass_at, receipts_here, receipts_later}
use Rattle.rw_desk.proofs.straying.receipts_of.Goals as goal

pub returns-then-actor : goal.returns-then-actor
returns-then-actor g c =
    let of = g.P.HasPass.pass_of in
    let xs = c.args.passes.now in
    let i = c.loop-pass.pass-index in
    let within : i < length (map of xs) = omega (arith, length_passes of xs, c.loop-pass-test.true) in
    c.kept.ensures ∙ receipts_here c.args.actor i (map of xs) (of c.pass-item.result) within
    (pass_at of xs i c.pass-item.result c.loop-pass-test.true c.pass-item.is) c.loop-pass.invariant
    (sym c.actor.ensures.actor ∙ c.if-actor.true)

pub loop-pass-preserved : goal.loop-pass-preserved
loop-pass-preserved g c =
    let of = g.P.HasPass.pass_of in
    let xs = c.args.passes.now in
    let i = c.loop-pass.pass-index in
    let within : i < length (map of xs) = omega (arith, length_passes of xs, c.loop-pass-test.true) in
    receipts_later c.args.actor i (map of xs) (of c.pass-item.result) within (pass_at of xs i c.pass-item.result c.loop-pass-test.true c.pass-item.is)
    c.loop-pass.invariant
    (λ same. c.if-actor.false (c.actor.ensures.actor ∙ same))

pub returns : goal.returns
returns g c =
    let ps = map g.P.HasPass.pass_of c.args.passes.now in
    sym (ap (receipts_of c.args.actor) (drop_all c.loop-pass.pass-index ps (omega (arith, length_passes g.P.HasPass.pass_of c.args.passes.now))))
    ∙ c.loop-pass.invariant
