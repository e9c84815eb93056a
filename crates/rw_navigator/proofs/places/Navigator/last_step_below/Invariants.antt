use Rattle.std.proofs.Common.{◌≡◌, ◌≤◌}
use Rattle.rw_navigator.specs.Search.{step_hit, last_below}
use Rattle.rw_navigator.proofs.places.Navigator.last_step_below.Given as goal

-- no place from the counter on is a hit
abbrev pub invariant-loop-place : goal.invariant-loop-place
invariant-loop-place g l =
    let o = l.fn.self in
    let test = step_hit (g.P.Probe.holds_of_step l.probe) o.entries in
    record {
      rest : last_below test l.place ≡ last_below test o.place;
      below : l.place ≤ o.place;
    }
