use Rattle.std.proofs.Common.{◌≡◌, map, drop}
use Rattle.rw_world.specs.Lists.{Each, greatest}
use Rattle.rw_world.proofs.members.greatest_weight.Given as goal

abbrev pub invariant-loop-i : goal.invariant-loop-i
invariant-loop-i g l = record {
  weight : l.greatest ≡ greatest g.M.Reversible.weigh (map g.M.Reversible.shown (drop l.i l.members));
  known : Each g.M.Reversible.allowed (map g.M.Reversible.shown (drop l.i l.members));
}
