use Rattle.std.proofs.Common.{◌≡◌, map, take}
use Rattle.rw_broadcast.specs.Alike.{unread_slot}
use Rattle.rw_broadcast.proofs.machine.alike.Broadcast+u64.unread_slots.Given as goal

abbrev pub invariant-loop-slot : goal.invariant-loop-slot
invariant-loop-slot l = l.slots.items ≡ map (unread_slot l.sent) (take l.slot-index l.self.shown.slots)
