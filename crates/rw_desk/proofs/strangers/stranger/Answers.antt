use Rattle.std.proofs.Common.{◌<◌, map, length, ◌∙◌, below_more, refl, sym, ap, subst, arith}
use Rattle.std.proofs.lemmas.List.{take_all}
use Rattle.rw_desk.specs.Closing.{IsStranger, passes_of}
use Rattle.rw_desk.proofs.Passing.{length_passes, pass_at, passes_here, passes_more}
use Rattle.rw_desk.proofs.strangers.stranger.Goals as goal

pub returns-then-passes_of-ne1-clause-some : goal.returns-then-passes_of-ne1-clause-some
returns-then-passes_of-ne1-clause-some g c = record {
  least = λ b below less. c.loop-actor.invariant b less;
  actor = λ below one. c.if-passes_of-ne1.true (c.passes_of.ensures ∙ one);
  number = λ past. absurd (omega (arith, past, c.loop-actor-test.true));
}

pub loop-actor-preserved : goal.loop-actor-preserved
loop-actor-preserved g c = below_more _ _ c.loop-actor.invariant (sym c.passes_of.ensures ∙ c.if-passes_of-ne1.false)

pub loop-pass-preserved : goal.loop-pass-preserved
loop-pass-preserved g c =
    let of = g.P.HasPass.pass_of in
    let xs = c.args.passes.now in
    let i = c.loop-pass.pass-index in
    let within : i < length (map of xs) = omega (arith, length_passes of xs, c.loop-pass-test.true) in (
      c.loop-pass.invariant.0,
      λ b past. passes_more b i (map of xs) (of c.pass-item.result) within (pass_at of xs i c.pass-item.result c.loop-pass-test.true c.pass-item.is)
          (λ same. absurd (omega (arith, same, past, c.actor.ensures.actor, c.if-actor-actors.false))) (c.loop-pass.invariant.1 b past),
    )

pub returns-then-actor-actors-clause-some : goal.returns-then-actor-actors-clause-some
returns-then-actor-actors-clause-some g c =
    let of = g.P.HasPass.pass_of in
    let xs = c.args.passes.now in
    let p = of c.pass-item.result in
    let i = c.loop-pass.pass-index in
    let within : i < length (map of xs) = omega (arith, length_passes of xs, c.loop-pass-test.true) in
    let here : IsStranger c.args.actors (map of xs) p.actor = record {
      least = λ b below less. c.loop-pass.invariant.0 b below;
      actor = λ below. absurd (omega (arith, below, c.actor.ensures.actor, c.if-actor-actors.true));
      number = λ past. passes_here p.actor i (map of xs) p within (pass_at of xs i c.pass-item.result c.loop-pass-test.true c.pass-item.is) refl;
    } in
    subst (IsStranger c.args.actors (map of xs)) (sym c.actor-then-actor-actors.ensures.actor) here

pub returns-clause-none : goal.returns-clause-none
returns-clause-none g c =
    let ps = map g.P.HasPass.pass_of c.args.passes.now in record {
      once = c.loop-pass.invariant.0;
      others = λ a past. ap (passes_of a) (sym (take_all c.loop-pass.pass-index ps (omega (arith, length_passes g.P.HasPass.pass_of c.args.passes.now))))
          ∙ c.loop-pass.invariant.1 a past;
    }
