use Rattle.std.proofs.Common.{take}
use Rattle.rw_world.specs.Lists.{Each}
use Rattle.rw_script.specs.Threads.{IsFollowed}
use Rattle.rw_script.proofs.following.follow_all.Given as goal

abbrev pub invariant-loop-pass : goal.invariant-loop-pass
invariant-loop-pass l = Each (IsFollowed l.steps) (take l.pass-index l.passes)
