use Rattle.std.proofs.Common.{◌+◌, arith, ap}
use Rattle.rw_world.specs.Machines.{of_chan}
use Rattle.rw_findings.specs.Peaks.{alone, measured_of}
use Rattle.rw_findings.proofs.PeakPlaces.{unmade}
use Rattle.rw_findings.proofs.PeakSums.{all_levels, first_levels, no_levels, not_raised, one_more_level, raised_more, raised_same}
use Rattle.rw_findings.proofs.peaks.finding.raise_all.Goals as goal

pub each_receiver-init : goal.each_receiver-init
each_receiver-init g c =
    let level = measured_of c.args.measure ((of_chan {V = g.row.V.Denot}).shown c.args.machine.now) in
    not_raised _ _ (first_levels level 0) (no_levels level)

pub each_receiver-preserved : goal.each_receiver-preserved
each_receiver-preserved g c =
    let level = measured_of c.args.measure ((of_chan {V = g.row.V.Denot}).shown c.args.machine.now) in
    let n = c.each_receiver.receiver in
    raised_more _ _ _ _ (first_levels level n) (alone n (level n)) (first_levels level (n + 1)) (one_more_level level n) c.each_receiver.invariant
    (raised_same _ _ _ (alone n c.of.result) (alone n (level n)) (λ other. ap (λ k. alone n k other) c.of.ensures) c.in_ok-raise.ensures)

pub returns : goal.returns
returns g c =
    let level = measured_of c.args.measure ((of_chan {V = g.row.V.Denot}).shown c.args.machine.now) in
    raised_same _ _ _ (first_levels level c.each_receiver.receiver) level
    (all_levels level c.each_receiver.receiver (λ receiver past.
    unmade c.args.measure ((of_chan {V = g.row.V.Denot}).shown c.args.machine.now) receiver
    (omega (arith, past, c.each_receiver-test.false, c.made-receiver-end.ensures))))
    c.each_receiver.invariant
