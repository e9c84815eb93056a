use Rattle.std.proofs.Common.{◌≡◌}
use Rattle.rw_recording.proofs.broadcast_lead.send_all.Given as goal

abbrev pub invariant-loop-position : goal.invariant-loop-position
invariant-loop-position l = l.leading ≡ l.fn.leading
