use Rattle.std.proofs.Common.{ap, arith, length, subst, sym}
use Rattle.rw_findings.specs.Lives.{AreLivesTo}
use Rattle.rw_navigator.specs.Places.{last_place}
use Rattle.rw_findings.proofs.LifePlaces.{no_lives}
use Rattle.rw_findings.proofs.PeakPlaces.{no_such_channel}
use Rattle.rw_findings.proofs.lives.finding.lives_of.Goals as goal

pub returns-then-specs-channel : goal.returns-then-specs-channel
returns-then-specs-channel g c =
    let run = c.args.run.now in
    let shows = c.documented.ensures.places in
    subst (λ lives. AreLivesTo run c.args.channel (last_place run) lives) (sym c.new-lives.ensures.items)
    (no_lives run c.args.channel shows (no_such_channel shows run c.args.channel (last_place run)
    (omega (arith, c.if-specs-channel.true, ap length c.specs.ensures.specs))))

pub follow_run-requires-clause-inside : goal.follow_run-requires-clause-inside
follow_run-requires-clause-inside g c = omega (arith, c.if-specs-channel.false, ap length c.specs.ensures.specs)

pub follow_run-requires-clause-empty : goal.follow_run-requires-clause-empty
follow_run-requires-clause-empty g c = c.new-lives.ensures.items

pub returns : goal.returns
returns g c = c.in_ok-follow_run.ensures
