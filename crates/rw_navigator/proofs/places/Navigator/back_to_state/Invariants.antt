use Rattle.std.proofs.Common.{◌≡◌, ◌≤◌, ◌-◌, Bool}
use Rattle.rw_navigator.specs.Search.{state_hit, last_below, TestsView}
use Rattle.rw_navigator.specs.Navigator.{MovedTo, start_of}
use Rattle.rw_navigator.proofs.places.Navigator.back_to_state.Given as goal

-- the machine is one place before the counter, and no place from the counter on is a hit
abbrev pub invariant-loop-place : goal.invariant-loop-place
invariant-loop-place g l =
    let m = g.R.Reversible in
    let o = l.fn.self in
    let tests = g.P.Probe.holds_of_state l.probe in
    record {
      rest : (f : m.View → Bool) → TestsView m f tests →
          last_below (state_hit m f (start_of m o) o.entries) l.place ≡ last_below (state_hit m f (start_of m o) o.entries) o.place;
      holds : l.holds ≡ tests l.self.machine.state;
      moved : MovedTo m o l.self (l.place - 1) (o.place - (l.place - 1));
      above : 1 ≤ l.place;
      below : l.place ≤ o.place;
      from : l.from ≡ o.place;
    }
