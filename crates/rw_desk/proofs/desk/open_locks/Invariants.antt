use Rattle.std.proofs.Common.{◌≡◌, length}
use Rattle.rw_desk.proofs.desk.open_locks.Given as goal

abbrev pub invariant-loop-spec : goal.invariant-loop-spec
invariant-loop-spec g l = length l.locks.items ≡ l.spec-index
