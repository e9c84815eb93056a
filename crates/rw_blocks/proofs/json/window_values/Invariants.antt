use Rattle.std.proofs.Common.{◌≡◌, ◌-◌, length, map, take}
use Rattle.serde_json.specs.View.{view}
use Rattle.rw_blocks.specs.Json.{natural}
use Rattle.rw_blocks.proofs.json.window_values.Given as goal

abbrev pub invariant-each_value : goal.invariant-each_value
invariant-each_value l = map view l.list.items ≡ map natural (take l.i l.channel.shown.window)

abbrev pub decreases-each_value : goal.decreases-each_value
decreases-each_value l = length l.channel.shown.window - l.i
