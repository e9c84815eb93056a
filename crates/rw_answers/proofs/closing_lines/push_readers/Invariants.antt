use Rattle.std.proofs.Common.{◌≡◌, ◌++◌, take}
use Rattle.std.specs.List.{flat_map}
use Rattle.rw_answers.specs.ClosingLines.{late_line}
use Rattle.rw_answers.proofs.closing_lines.push_readers.Given as goal

abbrev pub invariant-loop-late : goal.invariant-loop-late
invariant-loop-late l = l.out.items ≡ l.initial.out.items ++ flat_map late_line (take l.late-index l.readers)
