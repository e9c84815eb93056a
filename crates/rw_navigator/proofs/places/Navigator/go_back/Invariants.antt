use Rattle.std.proofs.Common.{◌≡◌, ◌≤◌, ◌-◌}
use Rattle.rw_navigator.specs.Navigator.{MovedTo}
use Rattle.rw_navigator.proofs.places.Navigator.go_back.Given as goal

-- as many places back as the counter has counted
abbrev pub invariant-loop : goal.invariant-loop
invariant-loop g l = record {
  moved : MovedTo g.R.Reversible l.fn.self l.self (l.fn.self.place - (l.counter - l.place)) (l.counter - l.place);
  from : l.end ≡ l.fn.self.place;
  way : l.place ≤ l.counter;
}
