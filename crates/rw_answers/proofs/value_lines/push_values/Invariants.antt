use Rattle.std.proofs.Common.{◌≡◌, ◌++◌}
use Rattle.rw_answers.specs.ValueLines.{value_lines}
use Rattle.rw_answers.proofs.value_lines.push_values.Given as goal

abbrev pub invariant-each_value : goal.invariant-each_value
invariant-each_value l = l.out.items ≡ l.initial.out.items ++ value_lines l.channel l.values l.number
