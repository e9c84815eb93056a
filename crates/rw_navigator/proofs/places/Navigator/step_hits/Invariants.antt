use Rattle.std.proofs.Common.{◌≡◌, length, vec_capacity, vec_len}
use Rattle.rw_navigator.specs.Search.{step_hit}
use Rattle.rw_navigator.proofs.Indexing.{hits_to}
use Rattle.rw_navigator.proofs.places.Navigator.step_hits.Given as goal

-- the hits up to the counter, and room for all
abbrev pub invariant-loop-i : goal.invariant-loop-i
invariant-loop-i g l =
    let o = l.fn.self in
    let hit = step_hit (g.P.Probe.holds_of_step l.probe) o.entries in
    record {
      found : l.places.items ≡ hits_to hit l.i;
      count : vec_len l.places ≡ length (hits_to hit l.i);
      room : vec_capacity l.places ≡ length (hits_to hit (length o.entries));
    }
