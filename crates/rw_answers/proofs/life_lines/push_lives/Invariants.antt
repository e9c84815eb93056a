use Rattle.std.proofs.Common.{◌≡◌, ◌++◌}
use Rattle.rw_answers.specs.LifeLines.{life_lines}
use Rattle.rw_answers.proofs.life_lines.push_lives.Given as goal

abbrev pub invariant-each_handle : goal.invariant-each_handle
invariant-each_handle l = l.out.items ≡ l.initial.out.items ++ life_lines l.channel l.lives l.handle
