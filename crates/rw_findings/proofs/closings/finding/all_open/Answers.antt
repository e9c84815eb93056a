use Rattle.std.proofs.Common.{◌≡◌, ◌≤◌, ◌∙◌, ◌++◌, ◌∷◌, [], ap, arith, length, sym, take}
use Rattle.std.specs.Prelude.{None}
use Rattle.std.proofs.lemmas.List.{length-map, length-take-le, map_more, take_all}
use Rattle.rw_findings.specs.LateReaders.{opened}
use Rattle.rw_findings.proofs.closings.finding.all_open.Goals as goal

pub push_reserved-requires : goal.push_reserved-requires
push_reserved-requires g c =
    let i = c.loop-spec._spec-index in
    let specs = c.args.specs.now in
    let within : i ≤ length specs = omega (arith, c.loop-spec-test.true) in
    let many : length c.loop-spec.closed.items ≡ i =
    ap length c.loop-spec.invariant.closed ∙ length-map (take i specs) (λ s. None) ∙ length-take-le i specs within in
    omega (arith, many, c.loop-spec.closed.ok.0, c.loop-spec.invariant.room, c.loop-spec-test.true)

pub loop-spec-preserved : goal.loop-spec-preserved
loop-spec-preserved g c =
    let i = c.loop-spec._spec-index in
    let specs = c.args.specs.now in
    record {
      closed =
          c.push_reserved.ensures.items ∙ ap (λ ks. ks ++ None ∷ []) c.loop-spec.invariant.closed
          ∙ sym (map_more (λ s. None) specs i c._spec-item.result c.loop-spec-test.true);
      room = c.push_reserved.ensures.capacity ∙ c.loop-spec.invariant.room;
    }

pub returns : goal.returns
returns g c = c.loop-spec.invariant.closed ∙ ap opened (take_all c.loop-spec._spec-index c.args.specs.now c.loop-spec-test.false)
