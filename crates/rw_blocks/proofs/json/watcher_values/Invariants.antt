use Rattle.std.proofs.Common.{◌≡◌, map}
use Rattle.serde_json.specs.View.{view}
use Rattle.rw_blocks.specs.Json.{watchers_json}
use Rattle.rw_blocks.proofs.json.watcher_values.Given as goal

abbrev pub invariant-each_handle : goal.invariant-each_handle
invariant-each_handle l = map view l.list.items ≡ watchers_json l.channel.shown l.h
