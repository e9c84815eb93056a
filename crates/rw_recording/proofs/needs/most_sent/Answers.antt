use Rattle.std.proofs.Common.{◌≡◌, length, subst, arith}
use Rattle.rw_world.specs.Machines.{of_chan}
use Rattle.rw_recording.specs.NoLeads.{IsMostOf}
use Rattle.rw_recording.proofs.Needing.{one_more_asking}
use Rattle.rw_recording.proofs.needs.most_sent.Goals as goal

pub loop-i-preserved : goal.loop-i-preserved
loop-i-preserved c =
    one_more_asking (of_chan.shown c.args.base.now) c.args.calls.now c.loop-i.i c.loop-i.most c.asked_for.result _ _ c.to_call-call.result
    c.loop-i-test.true c.to_call-call.ensures c.loop-i.invariant c.asked_for.ensures c.max-most.ensures

pub returns : goal.returns
returns c =
    let e : c.loop-i.i ≡ length c.args.calls.now = omega arith in
    subst (λ k. IsMostOf (of_chan.shown c.args.base.now) c.args.calls.now k c.loop-i.most) e c.loop-i.invariant
