use Rattle.std.proofs.Common.{◌≡◌, ◌++◌, take}
use Rattle.std.specs.List.{flat_map}
use Rattle.rw_answers.specs.TotalLines.{totals_line}
use Rattle.rw_answers.proofs.total_lines.push_totals.Given as goal

abbrev pub invariant-loop-one : goal.invariant-loop-one
invariant-loop-one l = l.out.items ≡ l.initial.out.items ++ flat_map totals_line (take l.one-index l.totals)
