use Rattle.std.proofs.Common.{◌≡◌, ◌≤◌, map, drop}
use Rattle.rw_world.specs.Lists.{least}
use Rattle.rw_world.proofs.members.ready_all.Given as goal

abbrev pub invariant-loop-i : goal.invariant-loop-i
invariant-loop-i g l = record {
  view : map g.M.Reversible.shown l.members ≡ map g.M.Reversible.shown l.initial.members;
  room : l.wanted ≤ least g.M.Reversible.reserved (drop l.i l.members);
  kept : least g.M.Reversible.reserved l.initial.members ≤ least g.M.Reversible.reserved l.members;
}
