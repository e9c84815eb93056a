use Rattle.std.proofs.Common.{◌∙◌, ◌++◌, ap, sym}
use Rattle.std.specs.Prelude.{slice_get}
use Rattle.std.proofs.lemmas.Option.{slice_get-get_or}
use Rattle.rw_answers.specs.ValueLines.{value_line_at}
use Rattle.rw_answers.proofs.PeakTexts.{written_more}
use Rattle.rw_answers.proofs.value_lines.push_values.Goals as goal

pub each_value-preserved : goal.each_value-preserved
each_value-preserved c =
    let n = c.each_value.number in
    let values = c.args.values.now in
    written_more (λ number. value_line_at c.args.channel number (slice_get values number)) _ _ _ n c.each_value.invariant
    (c.in_ok-push_value.ensures ∙ ap (λ o. c.each_value.out.items ++ value_line_at c.args.channel n o)
    (sym (slice_get-get_or values n _ c.each_value-test.true)))
