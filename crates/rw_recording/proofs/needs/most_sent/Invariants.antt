use Rattle.rw_world.specs.Machines.{of_chan}
use Rattle.rw_recording.specs.NoLeads.{IsMostOf}
use Rattle.rw_recording.proofs.needs.most_sent.Given as goal

abbrev pub invariant-loop-i : goal.invariant-loop-i
invariant-loop-i l = IsMostOf (of_chan.shown l.base) l.calls l.i l.most
