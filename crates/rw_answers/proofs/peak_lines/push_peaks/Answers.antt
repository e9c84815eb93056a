use Rattle.std.proofs.Common.{◌∙◌, ◌++◌, ap, codes}
use Rattle.std.specs.Prelude.{slice_index_or}
use Rattle.rw_blocks.specs.Labels.{with_number}
use Rattle.rw_answers.proofs.PeakTexts.{written_more}
use Rattle.rw_answers.proofs.peak_lines.push_peaks.Goals as goal

pub each_stretch-preserved : goal.each_stretch-preserved
each_stretch-preserved c =
    written_more (λ k. with_number (codes " ") (slice_index_or c.args.row.now k 0)) _ _ _ c.each_stretch.stretch c.each_stretch.invariant
    (c.in_ok-push_with_number.ensures ∙ ap (λ k. c.each_stretch.out.items ++ with_number (codes " ") k) c.peak.ensures)
