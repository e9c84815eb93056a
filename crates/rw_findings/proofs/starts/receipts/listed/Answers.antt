use Rattle.std.proofs.Common.{◌≡◌, ◌≤◌, ◌∙◌, ◌++◌, ◌∷◌, [], ap, arith, length, map, sym, take}
use Rattle.std.proofs.lemmas.List.{length-map, length-take-le, map_more, take_all}
use Rattle.rw_findings.specs.Peaks.{peak_in}
use Rattle.rw_findings.specs.declared.totals.total.Totals.{Totals}
use Rattle.rw_findings.proofs.starts.receipts.listed.Goals as goal

pub push_reserved-requires : goal.push_reserved-requires
push_reserved-requires c =
    let i = c.loop-one.one-index in
    let totals = c.args.totals.now in
    let last = λ (t : Totals). peak_in c.args.given.now t.channel t.receiver in
    let within : i ≤ length totals = omega (arith, c.loop-one-test.true) in
    let many : length c.loop-one.places.items ≡ i = ap length c.loop-one.invariant.places ∙ length-map (take i totals) last ∙ length-take-le i totals within in
    omega (arith, many, c.loop-one.places.ok.0, c.loop-one.invariant.room, c.loop-one-test.true)

pub loop-one-preserved : goal.loop-one-preserved
loop-one-preserved c =
    let i = c.loop-one.one-index in
    let totals = c.args.totals.now in
    let last = λ (t : Totals). peak_in c.args.given.now t.channel t.receiver in
    record {
      places =
          c.push_reserved.ensures.items ∙ ap (λ ps. ps ++ c.last_of.result ∷ []) c.loop-one.invariant.places
          ∙ ap (λ p. map last (take i totals) ++ p ∷ []) c.last_of.ensures
          ∙ sym (map_more last totals i _ c.loop-one-test.true);
      room = c.push_reserved.ensures.capacity ∙ c.loop-one.invariant.room;
    }

pub returns : goal.returns
returns c =
    c.loop-one.invariant.places
    ∙ ap (map (λ (t : Totals). peak_in c.args.given.now t.channel t.receiver)) (take_all c.loop-one.one-index c.args.totals.now c.loop-one-test.false)
