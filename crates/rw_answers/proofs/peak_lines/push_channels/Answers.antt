use Rattle.std.proofs.Common.{refl}
use Rattle.rw_answers.proofs.PeakTexts.{appended_none, channel_more}
use Rattle.rw_answers.proofs.peak_lines.push_channels.Goals as goal

pub each_channel-init : goal.each_channel-init
each_channel-init c = appended_none _ _ refl

pub each_channel-preserved : goal.each_channel-preserved
each_channel-preserved c =
    channel_more c.args.run.now c.args.stretches c.args.channels.now c.each_channel.channel-index _ _ _ c.each_channel-test.true c.each_channel.invariant
    c.in_ok-push_channel.ensures
