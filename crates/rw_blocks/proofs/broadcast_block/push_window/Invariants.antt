use Rattle.std.proofs.Common.{◌≡◌, ◌++◌, ◌-◌, codes, length, take}
use Rattle.std.specs.List.{flat_map}
use Rattle.rw_blocks.specs.Labels.{with_number}
use Rattle.rw_blocks.proofs.broadcast_block.push_window.Given as goal

abbrev pub invariant-each_value : goal.invariant-each_value
invariant-each_value l = l.out.items ≡ l.initial.out.items ++ flat_map (with_number (codes " ")) (take l.i l.channel.shown.window)

abbrev pub decreases-each_value : goal.decreases-each_value
decreases-each_value l = length l.channel.shown.window - l.i
