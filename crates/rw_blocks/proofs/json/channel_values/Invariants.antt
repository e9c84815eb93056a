use Rattle.std.proofs.Common.{◌≡◌, ◌-◌, length, map, take}
use Rattle.serde_json.specs.View.{view}
use Rattle.rw_world.specs.Machines.{of_chan}
use Rattle.rw_blocks.specs.Json.{channel_json}
use Rattle.rw_blocks.proofs.json.channel_values.Given as goal

abbrev pub invariant-each_channel : goal.invariant-each_channel
invariant-each_channel l = map view l.list.items ≡ map (λ m. channel_json (of_chan.shown m)) (take l.i l.world)

abbrev pub decreases-each_channel : goal.decreases-each_channel
decreases-each_channel l = length l.world - l.i
