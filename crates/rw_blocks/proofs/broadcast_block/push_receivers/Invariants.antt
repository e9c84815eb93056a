use Rattle.std.proofs.Common.{◌≡◌, ◌++◌}
use Rattle.rw_blocks.specs.BroadcastBlock.{receiver_lines}
use Rattle.rw_blocks.proofs.broadcast_block.push_receivers.Given as goal

abbrev pub invariant-each_handle : goal.invariant-each_handle
invariant-each_handle l = l.out.items ≡ l.initial.out.items ++ receiver_lines l.channel.shown l.h
