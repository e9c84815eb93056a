use Rattle.std.proofs.Common.{◌≤◌, length, vec_capacity}
use Rattle.rw_world.specs.Machines.{of_world}
use Rattle.rw_findings.specs.Traffic.{AreOpened}
use Rattle.rw_findings.proofs.traffic.finding.opened.Given as goal

abbrev pub invariant-each_channel : goal.invariant-each_channel
invariant-each_channel g l = record {
  opened : AreOpened (of_world.shown l.world) l.channels l.channel l.found.items;
  room : length l.world ≤ vec_capacity l.found;
}
