use Rattle.std.proofs.Common.{◌≡◌, ap, sym, ◌∙◌, length, refl, rules, add-one}
use Rattle.std.specs.Prelude.{Some, slice_get}
use Rattle.std.proofs.lemmas.Option.{slice_get_read}
use Rattle.rw_findings.specs.Tallies.{made_in, with_receivers, with_channel, with_channels}
use Rattle.rw_findings.proofs.totals.totalling.push_all.Goals as goal

pub loop-channel-preserved : goal.loop-channel-preserved
loop-channel-preserved c =
    let ts = c.args.tallies.now in
    let i = c.loop-channel.channel in
    let t = c.index-tallies-channel.result in
    let there : slice_get ts i ≡ Some t = slice_get_read ts (length ts) i t refl (search rules) c.index-tallies-channel.is in
    let pushed : c.push_receivers.new.totals.items ≡ with_receivers c.loop-channel.totals.items t i (made_in t) = search rules in
    pushed ∙ ap (λ ls. with_receivers ls t i (made_in t)) c.loop-channel.invariant
    ∙ ap (λ o. with_channel (with_channels c.args.totals.now.items ts i) o i) (sym there)
    ∙ sym (ap (λ k. with_channels c.args.totals.now.items ts k) (add-one i))
