use Rattle.std.proofs.Common.{take}
use Rattle.rw_answers.specs.PeakLines.{AreChannelTexts}
use Rattle.rw_answers.specs.Texts.{Appended}
use Rattle.rw_answers.proofs.peak_lines.push_channels.Given as goal

abbrev pub invariant-each_channel : goal.invariant-each_channel
invariant-each_channel l = Appended l.initial.out.items l.out.items (AreChannelTexts l.run l.stretches (take l.channel-index l.channels))
