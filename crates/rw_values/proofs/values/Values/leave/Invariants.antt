use Rattle.std.specs.Prelude.{vec_capacity}
use Rattle.rw_values.proofs.Leaving.{IsLeaving}
use Rattle.rw_values.proofs.values.Values.leave.Given as goal

abbrev pub invariant-loop-number : goal.invariant-loop-number
invariant-loop-number g l = IsLeaving l.initial.self l.self l.from l.number l.given.items (vec_capacity l.given)
