use Rattle.std.proofs.Common.{◌≡◌}
use Rattle.rw_recording.proofs.watch_lead.make_receivers.Given as goal

abbrev pub invariant-loop-handle : goal.invariant-loop-handle
invariant-loop-handle l = l.leading ≡ l.fn.leading
