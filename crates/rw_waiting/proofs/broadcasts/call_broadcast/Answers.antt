use Rattle.std.proofs.Common.{◌≡◌, ◌∙◌, ap}
use Rattle.rw_broadcast.specs.Shown.{next}
use Rattle.rw_waiting.specs.Broadcasts.{told_after, told_by}
use Rattle.rw_waiting.specs.Listed.{woken, after_told}
use Rattle.rw_waiting.proofs.Receiving.{told_by_patch}
use Rattle.rw_waiting.proofs.broadcasts.call_broadcast.Goals as goal

pub returns-clause-woken : goal.returns-clause-woken
returns-clause-woken g c =
    let x = c.args.channel.now.shown in
    let call = c.args.call.now in
    let told : c.told_on_broadcast-told.result ≡ told_by x call =
    c.told_on_broadcast-told.ensures
    ∙ ap (λ y. told_after y c.apply-reply.result.1) c.apply-reply.ensures.view
    ∙ ap (told_after (next x call)) c.apply-reply.ensures.patch
    ∙ told_by_patch _ x call in
    c.woken.ensures.woken ∙ ap (woken c.args.waiting.now) told

pub returns-clause-left : goal.returns-clause-left
returns-clause-left g c =
    let x = c.args.channel.now.shown in
    let call = c.args.call.now in
    let told : c.told_on_broadcast-told.result ≡ told_by x call =
    c.told_on_broadcast-told.ensures
    ∙ ap (λ y. told_after y c.apply-reply.result.1) c.apply-reply.ensures.view
    ∙ ap (told_after (next x call)) c.apply-reply.ensures.patch
    ∙ told_by_patch _ x call in
    c.woken.ensures.left ∙ ap (after_told c.args.waiting.now) told
