use Rattle.std.proofs.Common.{◌≡◌}
use Rattle.rw_findings.specs.LossTracks.{with_open}
use Rattle.rw_findings.proofs.losses.finding.push_open.Given as goal

abbrev pub invariant-loop-channel : goal.invariant-loop-channel
invariant-loop-channel l = l.losses.items ≡ with_open l.fn.losses.items l.tracks l.channel
