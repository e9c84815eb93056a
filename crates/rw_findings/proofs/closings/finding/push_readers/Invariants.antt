use Rattle.std.proofs.Common.{◌≡◌}
use Rattle.rw_findings.specs.LateReaders.{with_all_readers}
use Rattle.rw_findings.proofs.closings.finding.push_readers.Given as goal

abbrev pub invariant-loop-channel : goal.invariant-loop-channel
invariant-loop-channel l = l.readers.items ≡ with_all_readers l.fn.readers.items l.closed l.channel
