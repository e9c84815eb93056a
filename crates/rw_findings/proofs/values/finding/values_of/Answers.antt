use Rattle.std.proofs.Common.{ap, arith, length, subst, sym}
use Rattle.rw_findings.specs.Values.{AreValuesTo}
use Rattle.rw_navigator.specs.Places.{last_place}
use Rattle.rw_findings.proofs.PeakPlaces.{no_such_channel}
use Rattle.rw_findings.proofs.ValuePlaces.{no_values}
use Rattle.rw_findings.proofs.values.finding.values_of.Goals as goal

pub returns-then-specs-channel : goal.returns-then-specs-channel
returns-then-specs-channel g c =
    let run = c.args.run.now in
    let shows = c.documented.ensures.places in
    subst (λ values. AreValuesTo run c.args.channel (last_place run) values) (sym c.new-values.ensures.items)
    (no_values shows run c.args.channel (no_such_channel shows run c.args.channel (last_place run)
    (omega (arith, c.if-specs-channel.true, ap length c.specs.ensures.specs))))

pub follow_run-requires-clause-inside : goal.follow_run-requires-clause-inside
follow_run-requires-clause-inside g c = omega (arith, c.if-specs-channel.false, ap length c.specs.ensures.specs)

pub follow_run-requires-clause-empty : goal.follow_run-requires-clause-empty
follow_run-requires-clause-empty g c = c.new-values.ensures.items

pub returns : goal.returns
returns g c = c.in_ok-follow_run.ensures
