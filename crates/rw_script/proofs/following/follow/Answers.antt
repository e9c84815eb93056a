use Rattle.std.proofs.Common.{◌≡◌, Some}
use Rattle.rw_script.proofs.FollowLaws.{follows_at}
use Rattle.rw_script.proofs.following.follow.Goals as goal

pub each_step-preserved : goal.each_step-preserved
each_step-preserved c =
    let found : c.moved.result ≡ Some (c.in_ok-next.next, c.in_ok-next.handle) = c.in_ok-next.ensures.ok_part in
    follows_at c.args.pass.now c.args.steps.now c.each_step.step-index _ c.each_step-test.true c.each_step.number c.each_step.made.items c.each_step.invariant
    (c.in_ok-next.next, c.in_ok-next.handle) (rw c.deref.ensures.value at (rw found at c.moved.ensures))
    c.push_handle.new.made.items c.in_ok-push_handle.ensures
