use Rattle.std.proofs.Common.{◌≡◌, ◌++◌}
use Rattle.rw_blocks.specs.Handles.{handle_words}
use Rattle.rw_blocks.proofs.broadcast_block.push_handles.Given as goal

abbrev pub invariant-each_handle : goal.invariant-each_handle
invariant-each_handle l = l.out.items ≡ l.initial.out.items ++ handle_words l.kind l.channel.shown.slots l.h
