use Rattle.std.proofs.Common.{◌≡◌, ◌+◌, ap, arith, length, refl, subst, sym}
use Rattle.rw_findings.specs.Peaks.{IsGreatest, measured_at, peak_in, start_of}
use Rattle.rw_navigator.specs.Places.{last_place}
use Rattle.rw_findings.proofs.PeakPlaces.{no_channel_measured, no_such_channel}
use Rattle.rw_findings.proofs.PeakSums.{greatest_none}
use Rattle.rw_findings.proofs.peaks.finding.peaks_of.Goals as goal

pub returns-then-specs-channel : goal.returns-then-specs-channel
returns-then-specs-channel g c =
    let run = c.args.run.now in
    λ receiver stretch within.
    let at = measured_at c.args.measure run c.args.channel receiver in
    subst (λ rows. IsGreatest at (last_place run) (start_of c.args.stretches stretch) (start_of c.args.stretches (stretch + 1)) (peak_in rows receiver stretch))
    (sym c.new-peaks.ensures)
    (greatest_none at (last_place run) _ _ (λ place old above below.
    no_channel_measured c.documented.ensures.places run c.args.measure c.args.channel receiver place
    (no_such_channel c.documented.ensures.places run c.args.channel place (omega (arith, c.if-specs-channel.true, ap length c.specs.ensures.specs)))))

pub follow_run-requires-clause-channel : goal.follow_run-requires-clause-channel
follow_run-requires-clause-channel g c = omega (arith, c.if-specs-channel.false, ap length c.specs.ensures.specs)

pub follow_run-requires-clause-fresh : goal.follow_run-requires-clause-fresh
follow_run-requires-clause-fresh g c = λ receiver stretch. subst (λ rows. peak_in rows receiver stretch ≡ 0) (sym c.new-peaks.ensures) refl

pub returns : goal.returns
returns g c = c.in_ok-follow_run.ensures
