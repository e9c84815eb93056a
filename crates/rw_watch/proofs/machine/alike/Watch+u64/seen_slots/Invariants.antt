use Rattle.std.proofs.Common.{◌≡◌, map, take}
use Rattle.rw_watch.specs.Alike.{seen_slot}
use Rattle.rw_watch.proofs.machine.alike.Watch+u64.seen_slots.Given as goal

abbrev pub invariant-loop-slot : goal.invariant-loop-slot
invariant-loop-slot l = l.slots.items ≡ map (seen_slot l.self.shown.version) (take l.slot-index l.self.shown.slots)
