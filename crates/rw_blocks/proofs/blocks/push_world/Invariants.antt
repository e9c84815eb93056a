use Rattle.std.proofs.Common.{◌≡◌, ◌++◌}
use Rattle.std.specs.Prelude.{map}
use Rattle.rw_world.specs.Machines.{of_chan}
use Rattle.rw_blocks.specs.Blocks.{first_blocks}
use Rattle.rw_blocks.proofs.blocks.push_world.Given as goal

abbrev pub invariant-each_channel : goal.invariant-each_channel
invariant-each_channel l = l.out.items ≡ l.initial.out.items ++ first_blocks (map of_chan.shown l.world) l.i
