use Rattle.std.proofs.Common.{◌≡◌, take}
use Rattle.rw_law.specs.Journal.{after_all}
use Rattle.rw_world.specs.Machines.{of_chan}
use Rattle.rw_recording.specs.Kept.{entries_from}
use Rattle.rw_recording.proofs.channels.make_all.Given as goal

abbrev pub invariant-loop-i : goal.invariant-loop-i
invariant-loop-i l =
    of_chan.shown l.channel ≡ after_all of_chan (of_chan.shown l.fn.channel) (entries_from (of_chan.shown l.fn.channel) (take l.i l.calls))
