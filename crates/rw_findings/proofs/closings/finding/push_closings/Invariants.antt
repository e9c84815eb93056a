use Rattle.std.proofs.Common.{◌≡◌}
use Rattle.rw_findings.specs.LateReaders.{with_closings}
use Rattle.rw_findings.proofs.closings.finding.push_closings.Given as goal

abbrev pub invariant-loop-channel : goal.invariant-loop-channel
invariant-loop-channel l = l.closings.items ≡ with_closings l.fn.closings.items l.closed l.channel
