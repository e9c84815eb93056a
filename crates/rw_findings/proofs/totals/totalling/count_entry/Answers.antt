use Rattle.std.proofs.Common.{◌≡◌, ap, ◌∙◌, rules}
use Rattle.rw_findings.specs.Tallies.{with_reply}
use Rattle.rw_findings.proofs.LossCode.{set_at, past_at}
use Rattle.rw_findings.proofs.totals.totalling.count_entry.Goals as goal

pub returns-in_ok-count_call : goal.returns-in_ok-count_call
returns-in_ok-count_call g c =
    let e = c.args.entry.now in
    let tally = c.index-tallies-channel.result in
    let taken : c.count_call.new.self ≡ with_reply tally e.call.call e.reply c.args.place = search rules in
    set_at (λ t. with_reply t e.call.call e.reply c.args.place) c.args.tallies.now e.call.channel tally c.count_call.new.self c.if-channel-tallies.true
    (taken ∙ ap (λ t. with_reply t e.call.call e.reply c.args.place) c.index-tallies-channel.is)

pub returns-else-channel-tallies : goal.returns-else-channel-tallies
returns-else-channel-tallies g c =
    past_at (λ t. with_reply t c.args.entry.now.call.call c.args.entry.now.reply c.args.place) c.args.tallies.now c.args.entry.now.call.channel
    c.if-channel-tallies.false
