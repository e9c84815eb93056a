use Rattle.std.proofs.Common.{◌≡◌}
use Rattle.rw_world.specs.Machines.{of_world}
use Rattle.rw_findings.specs.LateReaders.{readers_there}
use Rattle.rw_findings.proofs.closings.closed_channel.ClosedChannel.now.Given as goal

abbrev pub invariant-loop-receiver : goal.invariant-loop-receiver
invariant-loop-receiver g l = l.readers.items ≡ readers_there (of_world.shown l.world) l.channel l.receiver
