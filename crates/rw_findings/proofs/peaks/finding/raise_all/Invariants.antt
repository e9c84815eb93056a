use Rattle.rw_findings.specs.Peaks.{Raised, measured_of}
use Rattle.rw_findings.proofs.PeakSums.{first_levels}
use Rattle.rw_world.specs.Machines.{of_chan}
use Rattle.rw_findings.proofs.peaks.finding.raise_all.Given as goal

abbrev pub invariant-each_receiver : goal.invariant-each_receiver
invariant-each_receiver g l = Raised l.fn.peaks l.peaks l.stretch
    (first_levels (measured_of l.measure ((of_chan {V = g.row.V.Denot}).shown l.machine)) l.receiver)
