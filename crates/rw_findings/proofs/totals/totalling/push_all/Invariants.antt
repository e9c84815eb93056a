use Rattle.std.proofs.Common.{◌≡◌}
use Rattle.rw_findings.specs.Tallies.{with_channels}
use Rattle.rw_findings.proofs.totals.totalling.push_all.Given as goal

abbrev pub invariant-loop-channel : goal.invariant-loop-channel
invariant-loop-channel l = l.totals.items ≡ with_channels l.fn.totals.items l.tallies l.channel
