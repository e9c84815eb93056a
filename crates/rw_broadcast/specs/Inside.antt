-- What the fields of a broadcast machine mean.
use Rattle.rw_handles.specs.Channels.{HasRoom as HasRoomFor}
use Rattle.rw_broadcast.specs.declared.machine.Broadcast.TheInside.{Inside}
use Rattle.rw_broadcast.specs.Shown.{IsAllowed, weight}
use Rattle.rw_broadcast.specs.Machine.{Machine}

abbrev pub machine_of : {V : Type 0} → Inside V → Machine V
machine_of a = record {
  shown = record { capacity = a.values.capacity; sent = a.values.count; window = a.values.values; slots = a.handles.slots };
  limit = a.limit;
}

-- what it shows is allowed, and there is memory for all calls up to its limit
abbrev pub HasRoom : {V : Type 0} → Inside V → Type 0
HasRoom a = HasRoomFor IsAllowed weight (machine_of a) a.handles
