use Rattle.rw_broadcast.proofs.Comparing.{AreSame}
use Rattle.rw_broadcast.proofs.machine.alike.Broadcast+u64.retains_same.Given as goal

abbrev pub invariant-loop-i : goal.invariant-loop-i
invariant-loop-i l = AreSame l.i l.self.shown.window l.other.shown.window
