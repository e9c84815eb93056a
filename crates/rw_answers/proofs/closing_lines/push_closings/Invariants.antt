use Rattle.std.proofs.Common.{◌≡◌, ◌++◌, take}
use Rattle.std.specs.List.{flat_map}
use Rattle.rw_answers.specs.ClosingLines.{closing_line}
use Rattle.rw_answers.proofs.closing_lines.push_closings.Given as goal

abbrev pub invariant-loop-closing : goal.invariant-loop-closing
invariant-loop-closing l = l.out.items ≡ l.initial.out.items ++ flat_map closing_line (take l.closing-index l.closings)
