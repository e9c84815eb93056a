use Rattle.std.proofs.Common.{◌≡◌, ◌≤◌, drop}
use Rattle.rw_law.specs.declared.limits.TheConstants.{MOST_WEIGHT}
use Rattle.rw_world.specs.Lists.{least}
use Rattle.rw_world.proofs.members.least_limit.Given as goal

abbrev pub invariant-loop-i : goal.invariant-loop-i
invariant-loop-i g l = record {
  limit : l.least ≡ least g.M.Reversible.reserved (drop l.i l.members);
  bound : l.least ≤ MOST_WEIGHT;
}
