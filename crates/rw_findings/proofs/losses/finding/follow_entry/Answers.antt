use Rattle.std.proofs.Common.{rules}
use Rattle.rw_findings.proofs.LossCode.{taken, not_taken}
use Rattle.rw_findings.proofs.losses.finding.follow_entry.Goals as goal

pub returns-in_ok-follow_call : goal.returns-in_ok-follow_call
returns-in_ok-follow_call g c =
    taken c.args.tracks.now c.args.entry.now.call.channel c.args.entry.now.call.call c.args.entry.now.reply c.in-B-B.call c.in-B-B.reply c.args.place
    c.index-tracks-channel.result c.follow_call.new.track
    c.in-B-B.is-0 c.in-B-B.is-1 c.if-channel-tracks.true c.index-tracks-channel.is (search rules)

pub returns-else-channel-tracks : goal.returns-else-channel-tracks
returns-else-channel-tracks g c =
    not_taken c.args.tracks.now c.args.entry.now.call.channel c.args.entry.now.call.call c.args.entry.now.reply c.in-B-B.call c.in-B-B.reply c.args.place
    c.in-B-B.is-0 c.in-B-B.is-1 c.if-channel-tracks.false
