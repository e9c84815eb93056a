use Rattle.std.proofs.Common.{sym}
use Rattle.rw_world.specs.Machines.{of_chan}
use Rattle.rw_blocks.proofs.Written.{blocks_begin, blocks_go}
use Rattle.rw_blocks.proofs.blocks.push_world.Goals as goal

pub each_channel-init : goal.each_channel-init
each_channel-init c = blocks_begin _ _

pub each_channel-preserved : goal.each_channel-preserved
each_channel-preserved c = blocks_go of_chan.shown _ _ _ _ _ _ c.each_channel.invariant (sym (rw c.unwrap.ensures at c.channel.ensures))
    c.in_ok-push_channel.ensures
