use Rattle.std.proofs.Common.{◌≡◌}
use Rattle.rw_findings.specs.Tallies.{with_receivers}
use Rattle.rw_findings.proofs.totals.totalling.push_receivers.Given as goal

abbrev pub invariant-loop-receiver : goal.invariant-loop-receiver
invariant-loop-receiver l = l.totals.items ≡ with_receivers l.fn.totals.items l.tally l.channel l.receiver
