use Rattle.std.proofs.Common.{◌≡◌, ◌+◌, ◌∙◌, ◌∷◌, [], ap, arith, length, sym}
use Rattle.std.proofs.lemmas.List.{length-append}
use Rattle.rw_navigator.specs.Search.{step_hit}
use Rattle.rw_navigator.proofs.Indexing.{hits_to, hits_to-hit, hits_to-miss}
use Rattle.rw_navigator.proofs.Searches.{step_hit-is}
use Rattle.rw_navigator.proofs.places.Navigator.count_step_hits.Goals as goal
use Rattle.rw_navigator.proofs.places.Navigator.count_step_hits.Goals.{then-step, else-step}

pub loop-i-preserved : goal.loop-i-preserved
loop-i-preserved g c =
    let es = c.args.self.now.entries in
    let i = c.loop-i.i in
    let holds = g.P.Probe.holds_of_step c.args.probe.now in
    let hit = step_hit holds es in
    let is : hit (i + 1) ≡ c.step.result = step_hit-is holds es (i + 1) c.entry_before.result.now (omega arith) c.entry_before.ensures ∙ sym c.step.ensures in
    elim c.if-step.branch [
      | then-step w ↦ let more = hits_to-hit hit i (is ∙ w.if-step.true) in record {
        counted = omega (arith, w.count-is, c.loop-i.invariant.counted, ap length more, length-append (hits_to hit i) ((i + 1) ∷ []));
        few = omega (arith, w.count-is, c.loop-i.invariant.few);
      }
      | else-step w ↦ record {
        counted = w.count-is ∙ (c.loop-i.invariant.counted ∙ sym (ap length (hits_to-miss hit i (is ∙ w.if-step.false))));
        few = omega (arith, w.count-is, c.loop-i.invariant.few);
      }
    ]
