use Rattle.std.proofs.Common.{◌≤◌, ◌-◌}
use Rattle.rw_navigator.specs.Navigator.{MovedTo}
use Rattle.rw_navigator.proofs.places.Navigator.go_on.Given as goal

-- at the place of the counter
abbrev pub invariant-loop : goal.invariant-loop
invariant-loop g l = record {
  moved : MovedTo g.R.Reversible l.fn.self l.self l.counter (l.counter - l.fn.self.place);
  way : l.fn.self.place ≤ l.counter;
}
