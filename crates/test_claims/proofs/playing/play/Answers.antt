use Rattle.std.proofs.Common.{◌≡◌, ◌+◌, ◌≤◌, length, take, ap, sym, ◌∙◌, Some, arith}
use Rattle.std.proofs.lemmas.List.{length-take}
use Rattle.test_claims.specs.Calls.{after_calls}
use Rattle.test_claims.proofs.CallLists.{after_more, last_more, weigh_after}
use Rattle.test_claims.proofs.playing.play.Goals as goal

pub apply-reply-requires : goal.apply-reply-requires
apply-reply-requires g c =
    let m = g.M.Reversible in
    let start = m.shown c.args.machine.now in
    let made = take c.loop-call.call-index c.args.calls.now in
    let light : m.weigh (after_calls m start made) ≤ m.weigh start + length made = weigh_after m g.met.M.Reversible.laws start made c.requires.known in
    let shown : m.weigh (m.shown c.loop-call.machine) ≡ m.weigh (after_calls m start made) = ap m.weigh c.loop-call.invariant.shows in
    omega (arith, light, shown, length-take c.loop-call.call-index c.args.calls.now, c.requires.room, c.loop-call.invariant.room)

pub loop-call-preserved : goal.loop-call-preserved
loop-call-preserved g c =
    let m = g.M.Reversible in
    let start = m.shown c.args.machine.now in
    let cs = c.args.calls.now in
    let k = c.loop-call.call-index in
    let call = c.call-item.result in
    record {
      shows = c.apply-reply.ensures.view ∙ (ap (λ x. m.next x call) c.loop-call.invariant.shows
          ∙ sym (after_more m start cs k call (omega arith) c.call-item.is));
      last = ap (λ r. Some r) (c.apply-reply.ensures.reply ∙ ap (λ x. m.reply_of x call) c.loop-call.invariant.shows)
          ∙ sym (last_more m start cs k call (omega arith) c.call-item.is);
      room = c.apply-reply.ensures.room ∙ c.loop-call.invariant.room;
    }
