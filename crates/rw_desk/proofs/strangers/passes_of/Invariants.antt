use Rattle.std.proofs.Common.{◌≡◌, ◌≤◌, map, take}
use Rattle.rw_desk.specs.Closing.{passes_of}
use Rattle.rw_desk.proofs.strangers.passes_of.Given as goal

abbrev pub invariant-loop-pass : goal.invariant-loop-pass
invariant-loop-pass g l = (l.count ≡ passes_of l.actor (take l.pass-index (map g.P.HasPass.pass_of l.passes))) × (l.count ≤ l.pass-index)
