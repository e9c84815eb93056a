use Rattle.std.proofs.Common.{◌≡◌, ◌++◌}
use Rattle.rw_answers.specs.PeakLines.{peak_numbers}
use Rattle.rw_answers.proofs.peak_lines.push_peaks.Given as goal

abbrev pub invariant-each_stretch : goal.invariant-each_stretch
invariant-each_stretch l = l.out.items ≡ l.initial.out.items ++ peak_numbers l.stretch l.row
