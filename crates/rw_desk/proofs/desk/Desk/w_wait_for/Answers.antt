use Rattle.std.proofs.Common.{suc}
use Rattle.rw_desk.proofs.Errors.{handed_on}
use Rattle.rw_desk.proofs.WaitReplies.{in_none}
use Rattle.rw_desk.proofs.desk.Desk.w_wait_for.Goals as goal

pub loop-preserved : goal.loop-preserved
loop-preserved g c = (
  tt,
  tt,
  (
    suc c.loop.invariant.2.0,
    (c.loop.pass, c.loop.invariant.2.1, in_none c.in_ok-reply.field-0 _ _ c.in_default.not-Some c.in_ok-reply.ensures.tried),
  ),
)

pub returns-in_err-reply-clause-waited : goal.returns-in_err-reply-clause-waited
returns-in_err-reply-clause-waited g c =
    rw (handed_on c.from_residual.result c.in_err-reply.field-0.0 c.from_residual.ensures.1)
    (record { times = c.loop.invariant.2.0; last = c.loop.pass; tried = c.loop.invariant.2.1; end = c.in_err-reply.ensures.broken })

pub returns-in-Some-2-clause-waited : goal.returns-in-Some-2-clause-waited
returns-in-Some-2-clause-waited g c = record {
  times = c.loop.invariant.2.0;
  last = c.loop.pass;
  tried = c.loop.invariant.2.1;
  end = rw c.in-Some-2.is at c.in_ok-reply.ensures.tried;
}
