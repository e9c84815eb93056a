use Rattle.std.proofs.Common.{refl}
use Rattle.rw_answers.specs.ValueLines.{IsValueText}
use Rattle.rw_answers.proofs.PeakTexts.{appended_none, texts_more}
use Rattle.rw_answers.proofs.value_lines.push_values_of.Goals as goal

pub each_channel-init : goal.each_channel-init
each_channel-init c = appended_none _ _ refl

pub each_channel-preserved : goal.each_channel-preserved
each_channel-preserved c =
    texts_more (IsValueText c.args.run.now) c.each_channel.channel _ _ _ c.each_channel.invariant c.in_ok-push_channel.ensures
