use Rattle.std.proofs.Common.{◌≡◌, ap, ◌∙◌, rules}
use Rattle.rw_world.specs.Machines.{of_world}
use Rattle.rw_findings.specs.LateReaders.{after_entry}
use Rattle.rw_findings.proofs.LossCode.{set_at, past_at}
use Rattle.rw_findings.proofs.closings.finding.follow_entry.Goals as goal

pub returns-in_ok-follow_on_channel : goal.returns-in_ok-follow_on_channel
returns-in_ok-follow_on_channel g c =
    let e = c.args.entry.now in
    let xs = of_world.shown c.args.world.now in
    let channel = c.index-closed-channel.result in
    let taken : c.follow_on_channel.new.closed ≡ after_entry xs e c.args.place channel = search rules in
    set_at (after_entry xs e c.args.place) c.args.closed.now e.call.channel channel c.follow_on_channel.new.closed c.if-channel-closed.true
    (taken ∙ ap (after_entry xs e c.args.place) c.index-closed-channel.is)

pub returns-else-channel-closed : goal.returns-else-channel-closed
returns-else-channel-closed g c = past_at (after_entry (of_world.shown c.args.world.now) c.args.entry.now c.args.place) c.args.closed.now
    c.args.entry.now.call.channel c.if-channel-closed.false
