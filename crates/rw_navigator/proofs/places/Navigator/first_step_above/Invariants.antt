use Rattle.std.proofs.Common.{◌≡◌, ◌≤◌, length}
use Rattle.rw_navigator.specs.Search.{step_hit, first_above}
use Rattle.rw_navigator.proofs.places.Navigator.first_step_above.Given as goal

-- no place up to the counter is a hit
abbrev pub invariant-loop-place : goal.invariant-loop-place
invariant-loop-place g l =
    let o = l.fn.self in
    let len = length o.entries in
    let test = step_hit (g.P.Probe.holds_of_step l.probe) o.entries in
    record {
      rest : first_above test l.place len ≡ first_above test o.place len;
      above : o.place ≤ l.place;
      inside : l.place ≤ len;
    }
