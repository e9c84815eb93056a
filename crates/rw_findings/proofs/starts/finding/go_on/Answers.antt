use Rattle.std.proofs.Common.{◌≡◌, ◌+◌, ◌∙◌, ap, arith, sym}
use Rattle.rw_navigator.specs.Places.{last_place}
use Rattle.rw_findings.proofs.starts.finding.go_on.Goals as goal

pub each_place-init : goal.each_place-init
each_place-init g c = record { run = c.requires.run; here = c.requires.here }

pub advance-requires-clause-same : goal.advance-requires-clause-same
advance-requires-clause-same g c = sym c.each_place.invariant.run

pub advance-requires-clause-more : goal.advance-requires-clause-more
advance-requires-clause-more g c =
    let last : last_place c.each_place.visitor.run ≡ last_place c.args.run.now = ap (λ r. last_place r) c.each_place.invariant.run in
    omega (arith, last, c.each_place.invariant.here, c.each_place-test.true, c.requires.inside, c.each_place.auto._place-end)

pub each_place-preserved : goal.each_place-preserved
each_place-preserved g c = record {
  run = c.advance.ensures.run ∙ c.each_place.invariant.run;
  here = c.advance.ensures.place ∙ ap (λ k. k + 1) c.each_place.invariant.here;
}
