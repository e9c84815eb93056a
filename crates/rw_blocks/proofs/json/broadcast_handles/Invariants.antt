use Rattle.std.proofs.Common.{◌≡◌, map}
use Rattle.serde_json.specs.View.{view}
use Rattle.rw_blocks.specs.Json.{handles_json}
use Rattle.rw_blocks.proofs.json.broadcast_handles.Given as goal

abbrev pub invariant-each_handle : goal.invariant-each_handle
invariant-each_handle l = map view l.list.items ≡ handles_json l.kind l.channel.shown.slots l.h
