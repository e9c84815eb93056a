use Rattle.std.proofs.Common.{◌≡◌}
use Rattle.rw_recording.proofs.broadcast_lead.make_receivers.Given as goal

abbrev pub invariant-loop-i : goal.invariant-loop-i
invariant-loop-i l = l.leading ≡ l.fn.leading
