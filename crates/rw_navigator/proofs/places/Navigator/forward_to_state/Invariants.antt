use Rattle.std.proofs.Common.{◌≡◌, ◌≤◌, ◌-◌, Bool, length}
use Rattle.rw_navigator.specs.Search.{state_hit, first_above, TestsView}
use Rattle.rw_navigator.specs.Navigator.{MovedTo, start_of}
use Rattle.rw_navigator.proofs.places.Navigator.forward_to_state.Given as goal

-- the machine is at the counter, and no place up to it is a hit
abbrev pub invariant-loop-place : goal.invariant-loop-place
invariant-loop-place g l =
    let m = g.R.Reversible in
    let o = l.fn.self in
    let len = length o.entries in
    let tests = g.P.Probe.holds_of_state l.probe in
    record {
      rest : (f : m.View → Bool) → TestsView m f tests →
          first_above (state_hit m f (start_of m o) o.entries) l.place len ≡ first_above (state_hit m f (start_of m o) o.entries) o.place len;
      before : l.before ≡ tests l.self.machine.state;
      moved : MovedTo m o l.self l.place (l.place - o.place);
      above : o.place ≤ l.place;
      inside : l.place ≤ len;
      from : l.from ≡ o.place;
    }
