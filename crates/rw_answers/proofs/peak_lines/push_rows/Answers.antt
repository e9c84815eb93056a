use Rattle.std.proofs.Common.{◌∙◌, ◌++◌, [], ap}
use Rattle.std.specs.Prelude.{slice_index_or}
use Rattle.rw_answers.specs.PeakLines.{shown_row}
use Rattle.rw_answers.proofs.PeakTexts.{written_more}
use Rattle.rw_answers.proofs.peak_lines.push_rows.Goals as goal

pub each_receiver-preserved : goal.each_receiver-preserved
each_receiver-preserved c =
    let n = c.each_receiver.receiver in
    written_more (λ receiver. shown_row c.args.measure c.args.channel c.args.count receiver (slice_index_or c.args.peaks.now receiver [])) _ _ _ n
    c.each_receiver.invariant
    (c.in_ok-push_row.ensures ∙ ap (λ row. c.each_receiver.out.items ++ shown_row c.args.measure c.args.channel c.args.count n row) c.row.ensures)
