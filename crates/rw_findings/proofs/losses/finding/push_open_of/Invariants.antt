use Rattle.std.proofs.Common.{◌≡◌}
use Rattle.rw_findings.specs.LossTracks.{with_open_of}
use Rattle.rw_findings.proofs.losses.finding.push_open_of.Given as goal

abbrev pub invariant-loop-receiver : goal.invariant-loop-receiver
invariant-loop-receiver l = l.losses.items ≡ with_open_of l.fn.losses.items l.track l.channel l.receiver
