use Rattle.rw_answers.proofs.PeakTexts.{four_parts}
use Rattle.rw_answers.proofs.found_lines.push_found.Goals as goal

pub returns : goal.returns
returns c =
    four_parts c.args.run.now _ _ _ _ _ c.in_ok-push_closings_of.ensures c.in_ok-push_totals_of.ensures c.in_ok-push_lives_of.ensures
    c.in_ok-push_values_of.ensures
