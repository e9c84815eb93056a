use Rattle.std.proofs.Common.{arith, subst}
use Rattle.std.proofs.lemmas.List.{take_all}
use Rattle.rw_world.specs.Lists.{Each}
use Rattle.rw_desk.proofs.Passing.{Each-more}
use Rattle.rw_script.specs.Threads.{IsFollowed}
use Rattle.rw_script.proofs.following.follow_all.Goals as goal

pub loop-pass-preserved : goal.loop-pass-preserved
loop-pass-preserved c = Each-more (IsFollowed c.args.steps.now) c.args.passes.now c.loop-pass.pass-index c.pass-item.result c.loop-pass-test.true c.pass-item.is
    c.in_ok-follow.ensures c.loop-pass.invariant

pub returns : goal.returns
returns c = subst (Each (IsFollowed c.args.steps.now)) (take_all c.loop-pass.pass-index c.args.passes.now (omega arith)) c.loop-pass.invariant
