use Rattle.std.proofs.Common.{◌<◌, map, take}
use Rattle.rw_law.specs.declared.limits.TheConstants.{MOST_ACTORS}
use Rattle.rw_world.specs.Lists.{Each}
use Rattle.rw_desk.proofs.strangers.known.Given as goal

abbrev pub invariant-loop-pass : goal.invariant-loop-pass
invariant-loop-pass g l = Each (λ p. p.actor < MOST_ACTORS) (take l.pass-index (map g.P.HasPass.pass_of l.passes))
