use Rattle.rw_answers.proofs.PeakTexts.{three_measures}
use Rattle.rw_answers.proofs.peak_lines.push_channel.Goals as goal

pub returns : goal.returns
returns c =
    three_measures c.args.run.now c.args.stretches c.args.channel _ _ _ _ c.in_ok-push_measure.ensures c.in_ok-push_measure-2.ensures
    c.in_ok-push_measure-3.ensures
