use Rattle.std.proofs.Common.{◌≡◌, ◌≤◌, ◌∙◌, ◌++◌, ◌∷◌, [], ap, arith, get_or, length, sym, take}
use Rattle.std.proofs.lemmas.List.{length-map, length-take-le, map_more, take_all}
use Rattle.rw_world.specs.Openings.{has_bad_capacity}
use Rattle.rw_findings.specs.Tallies.{opened_tallies, tally_of}
use Rattle.rw_findings.proofs.LossCode.{is_none_from}
use Rattle.rw_findings.proofs.totals.totalling.open_tallies.Goals as goal

pub loop-spec-init : goal.loop-spec-init
loop-spec-init g c = record { tallies = c.in_ok-tallies.ensures.items; room = c.in_ok-tallies.ensures.exact }

pub tally_of-requires : goal.tally_of-requires
tally_of-requires g c =
    let good = c.refusal_of-refusal.ensures.good (is_none_from _ (c.refusal_of-refusal.ensures.refusal ∙ c.requires)) c.loop-spec.spec-index c.spec-item.result
    c.loop-spec-test.true in
    ap has_bad_capacity c.spec-item.is ∙ good

pub push_reserved-requires : goal.push_reserved-requires
push_reserved-requires g c =
    let i = c.loop-spec.spec-index in
    let specs = c.args.specs.now in
    let within : i ≤ length specs = omega (arith, c.loop-spec-test.true) in
    let many : length c.loop-spec.tallies.items ≡ i =
    ap length c.loop-spec.invariant.tallies ∙ length-map (take i specs) tally_of ∙ length-take-le i specs within in
    omega (arith, many, c.loop-spec.tallies.ok.0, c.loop-spec.invariant.room, c.loop-spec-test.true)

pub loop-spec-preserved : goal.loop-spec-preserved
loop-spec-preserved g c =
    let i = c.loop-spec.spec-index in
    let specs = c.args.specs.now in
    let spec = c.spec-item.result in
    let made = c.in_ok-tally.tally in
    let is : made ≡ tally_of (get_or specs i spec) = c.in_ok-tally.ensures ∙ ap tally_of c.spec-item.is in
    record {
      tallies = c.push_reserved.ensures.items ∙ ap (λ ts. ts ++ made ∷ []) c.loop-spec.invariant.tallies
          ∙ ap (λ t. opened_tallies (take i specs) ++ t ∷ []) is ∙ sym (map_more tally_of specs i spec c.loop-spec-test.true);
      room = c.push_reserved.ensures.capacity ∙ c.loop-spec.invariant.room;
    }

pub returns : goal.returns
returns g c = c.loop-spec.invariant.tallies ∙ ap opened_tallies (take_all c.loop-spec.spec-index c.args.specs.now c.loop-spec-test.false)
