use Rattle.std.proofs.Common.{◌≡◌, ◌<◌, arith, subst}
use Rattle.rw_findings.specs.Lives.{AreLivesTo}
use Rattle.rw_navigator.specs.Places.{last_place}
use Rattle.rw_findings.proofs.lives.finding.follow_all.Goals as goal

pub each_place-init : goal.each_place-init
each_place-init g c = record { stands = c.requires.here; lives = c.requires.lives }

pub follow-requires-clause-here : goal.follow-requires-clause-here
follow-requires-clause-here g c = c.each_place.invariant.stands

pub follow-requires-clause-more : goal.follow-requires-clause-more
follow-requires-clause-more g c = subst (λ n. c.each_place.place < n) c.len-place-end.ensures c.each_place-test.true

pub follow-requires-clause-lives : goal.follow-requires-clause-lives
follow-requires-clause-lives g c = c.each_place.invariant.lives

pub each_place-preserved : goal.each_place-preserved
each_place-preserved g c = record { stands = c.in_ok-follow.ensures.here; lives = c.in_ok-follow.ensures.lives }

pub returns : goal.returns
returns g c =
    let run = c.args.run.now in
    let last : c.each_place.place ≡ last_place run = omega (arith, c.each_place-test.false, c.each_place.auto.place-end, c.len-place-end.ensures) in
    subst (λ n. AreLivesTo run c.args.channel n c.each_place.lives.items) last c.each_place.invariant.lives
