use Rattle.std.proofs.Common.{◌≡◌, ◌++◌}
use Rattle.rw_answers.specs.PeakLines.{shown_rows}
use Rattle.rw_answers.proofs.peak_lines.push_rows.Given as goal

abbrev pub invariant-each_receiver : goal.invariant-each_receiver
invariant-each_receiver l = l.out.items ≡ l.initial.out.items ++ shown_rows l.measure l.channel l.count l.peaks l.receiver
