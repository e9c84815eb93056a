use Rattle.std.proofs.Common.{◌≡◌, ◌+◌, ◌∙◌, ◌∷◌, ◌++◌, [], ℕ, List, ap, arith, length, sym}
use Rattle.std.proofs.lemmas.List.{length-append}
use Rattle.rw_navigator.specs.Search.{step_hit}
use Rattle.rw_navigator.proofs.Indexing.{hits_to, hits_to-grow, hits_to-hit, hits_to-miss}
use Rattle.rw_navigator.proofs.Searches.{step_hit-is}
use Rattle.rw_navigator.proofs.places.Navigator.step_hits.Goals as goal
use Rattle.rw_navigator.proofs.places.Navigator.step_hits.Goals.{then-step, else-step}

pub push_reserved-requires : goal.push_reserved-requires
push_reserved-requires g c =
    let es = c.args.self.now.entries in
    let i = c.loop-i.i in
    let holds = g.P.Probe.holds_of_step c.args.probe.now in
    let hit = step_hit holds es in
    let more : hits_to hit (i + 1) ≡ hits_to hit i ++ (i + 1) ∷ [] =
    hits_to-hit hit i (step_hit-is holds es (i + 1) c.entry_before.result.now (omega arith) c.entry_before.ensures
    ∙ (sym c.step.ensures ∙ c.if-step.true)) in
    omega (
      arith,
      c.loop-i.invariant.count,
      c.loop-i.invariant.room,
      ap length more,
      length-append (hits_to hit i) ((i + 1) ∷ []),
      hits_to-grow hit (i + 1) (length es) (omega arith),
    )

pub loop-i-preserved : goal.loop-i-preserved
loop-i-preserved g c =
    let es = c.args.self.now.entries in
    let i = c.loop-i.i in
    let holds = g.P.Probe.holds_of_step c.args.probe.now in
    let hit = step_hit holds es in
    let kept = c.loop-i.invariant in
    let is : hit (i + 1) ≡ c.step.result = step_hit-is holds es (i + 1) c.entry_before.result.now (omega arith) c.entry_before.ensures ∙ sym c.step.ensures in
    elim c.if-step.branch [
      | then-step w ↦ let more : hits_to hit (i + 1) ≡ hits_to hit i ++ (i + 1) ∷ [] = hits_to-hit hit i (is ∙ w.if-step.true) in
          rw w.places-is (record {
            found = w.push_reserved.ensures.items ∙ (ap (λ (ps : List ℕ). ps ++ (i + 1) ∷ []) kept.found ∙ sym more);
            count = omega (arith, w.push_reserved.ensures.len, kept.count, ap length more, length-append (hits_to hit i) ((i + 1) ∷ []));
            room = w.push_reserved.ensures.capacity ∙ kept.room;
          })
      | else-step w ↦ let same : hits_to hit (i + 1) ≡ hits_to hit i = hits_to-miss hit i (is ∙ w.if-step.false) in
          rw w.places-is (record { found = kept.found ∙ sym same; count = kept.count ∙ sym (ap length same); room = kept.room })
    ]

pub returns-clause-hits : goal.returns-clause-hits
returns-clause-hits g c =
    let hit = step_hit (g.P.Probe.holds_of_step c.args.probe.now) c.args.self.now.entries in
    c.loop-i.invariant.found ∙ ap (hits_to hit) (omega arith)

pub returns-clause-exact : goal.returns-clause-exact
returns-clause-exact g c =
    let hit = step_hit (g.P.Probe.holds_of_step c.args.probe.now) c.args.self.now.entries in
    c.loop-i.invariant.room ∙ ap length (sym (c.loop-i.invariant.found ∙ ap (hits_to hit) (omega arith)))
