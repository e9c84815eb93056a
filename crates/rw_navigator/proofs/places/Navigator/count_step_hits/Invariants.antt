use Rattle.std.proofs.Common.{◌≡◌, ◌≤◌, length}
use Rattle.rw_navigator.specs.Search.{step_hit}
use Rattle.rw_navigator.proofs.Indexing.{hits_to}
use Rattle.rw_navigator.proofs.places.Navigator.count_step_hits.Given as goal

-- the hits up to the counter
abbrev pub invariant-loop-i : goal.invariant-loop-i
invariant-loop-i g l =
    let o = l.fn.self in
    record {
      counted : l.count ≡ length (hits_to (step_hit (g.P.Probe.holds_of_step l.probe) o.entries) l.i);
      few : l.count ≤ l.i;
    }
