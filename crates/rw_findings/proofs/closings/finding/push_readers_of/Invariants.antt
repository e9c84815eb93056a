use Rattle.std.proofs.Common.{◌≡◌}
use Rattle.rw_findings.specs.LateReaders.{with_readers}
use Rattle.rw_findings.proofs.closings.finding.push_readers_of.Given as goal

abbrev pub invariant-loop-receiver : goal.invariant-loop-receiver
invariant-loop-receiver l = l.readers.items ≡ with_readers l.fn.readers.items l.closed l.channel l.receiver
