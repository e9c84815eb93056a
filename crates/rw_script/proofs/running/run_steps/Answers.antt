use Rattle.std.proofs.Common.{sym, ap, length, ◌∙◌, arith}
use Rattle.rw_journal.specs.Interleaving.{interleaving_of}
use Rattle.rw_script.proofs.PlayLaws.{actor_at, begins, ends, goes_on_at, stops_at, never_strays, last_counted}
use Rattle.rw_script.proofs.running.run_steps.Goals as goal

pub each_step-init : goal.each_step-init
each_step-init g c = begins g.M.Reversible c.args.script.now c.args.book.now _ c.requires.fresh c.new-made.ensures.items

pub run_step-requires-clause-stamps : goal.run_step-requires-clause-stamps
run_step-requires-clause-stamps g c = omega (
  arith,
  last_counted _ c.each_step.invariant.counts,
  c.each_step.invariant.count,
  c.each_step-test.true,
  c.steps-step-items.ensures.few,
)

pub run_step-requires-clause-actor : goal.run_step-requires-clause-actor
run_step-requires-clause-actor g c = actor_at _ _ _ _ _ c.steps-step-items.ensures.each c.each_step-test.true c.steps-step-items.ensures.script.few_actors

pub run_step-requires-clause-no_stray : goal.run_step-requires-clause-no_stray
run_step-requires-clause-no_stray g c =
    rw c.deref.ensures.value (never_strays g.M.Reversible c.args.script.now _ c.requires.plays c.each_step.book _ c.each_step.step-index c.each_step.invariant _
    (c.steps-step-items.ensures.each c.each_step.step-index _ c.each_step-test.true))

pub returns-in_default-clause-calls : goal.returns-in_default-clause-calls
returns-in_default-clause-calls g c =
    let h = rw c.deref.ensures.value at (rw c.in_default.is at c.in_ok-handle.ensures) in
    ap interleaving_of h.1 ∙ sym (ap (λ ran. ran.calls)
    (stops_at g.M.Reversible c.args.script.now _ c.requires.plays c.steps-step-items.result.now c.steps-step-items.ensures.steps c.each_step.step-index _
    c.each_step-test.true c.each_step.book c.each_step.made.items c.each_step.invariant h.0))

pub returns-in_default-clause-waits : goal.returns-in_default-clause-waits
returns-in_default-clause-waits g c =
    let h = rw c.deref.ensures.value at (rw c.in_default.is at c.in_ok-handle.ensures) in
    sym (ap (λ ran. ran.waits)
    (stops_at g.M.Reversible c.args.script.now _ c.requires.plays c.steps-step-items.result.now c.steps-step-items.ensures.steps c.each_step.step-index _
    c.each_step-test.true c.each_step.book c.each_step.made.items c.each_step.invariant h.0))

pub each_step-preserved : goal.each_step-preserved
each_step-preserved g c =
    goes_on_at g.M.Reversible c.args.script.now _ c.requires.plays c.steps-step-items.result.now c.steps-step-items.ensures.steps c.each_step.step-index _
    c.each_step-test.true c.each_step.book c.run_step.new.book c.each_step.made.items c.push_handle.new.made.items c.in-Some.handle
    c.each_step.invariant (rw c.deref.ensures.value at (rw c.in-Some.is at c.in_ok-handle.ensures)) c.in_ok-push_handle.ensures

pub returns-clause-calls : goal.returns-clause-calls
returns-clause-calls g c =
    sym (ap (λ ran. ran.calls)
    (ends g.M.Reversible c.args.script.now _ c.requires.plays c.each_step.book c.each_step.made.items c.each_step.step-index c.each_step.invariant
    (omega (arith, ap length c.steps-step-items.ensures.steps))))

pub returns-clause-waits : goal.returns-clause-waits
returns-clause-waits g c =
    sym (ap (λ ran. ran.waits)
    (ends g.M.Reversible c.args.script.now _ c.requires.plays c.each_step.book c.each_step.made.items c.each_step.step-index c.each_step.invariant
    (omega (arith, ap length c.steps-step-items.ensures.steps))))
