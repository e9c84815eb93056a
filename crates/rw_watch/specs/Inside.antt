-- What the fields of a watch machine mean.
use Rattle.rw_handles.specs.Channels.{HasRoom as HasRoomFor}
use Rattle.rw_watch.specs.declared.machine.Watch.TheInside.{Inside}
use Rattle.rw_watch.specs.Shown.{IsAllowed, weight}
use Rattle.rw_watch.specs.Machine.{Machine}

abbrev pub machine_of : {V : Type 0} → Inside V → Machine V
machine_of a = record {
  shown = record { version = a.version; value = a.value; slots = a.handles.slots };
  limit = a.limit;
}

-- what it shows is allowed, and there is memory for all calls up to its limit
abbrev pub HasRoom : {V : Type 0} → Inside V → Type 0
HasRoom a = HasRoomFor IsAllowed weight (machine_of a) a.handles
