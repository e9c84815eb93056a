use Rattle.std.proofs.Common.{◌≡◌}
use Rattle.rw_recording.proofs.broadcast_lead.make_senders.Given as goal

abbrev pub invariant-loop-handle : goal.invariant-loop-handle
invariant-loop-handle l = l.leading ≡ l.fn.leading
