use Rattle.std.proofs.Common.{◌≡◌, ◌++◌}
use Rattle.rw_answers.specs.LifeLines.{callers_words}
use Rattle.rw_answers.proofs.life_lines.push_callers.Given as goal

abbrev pub invariant-each_actor : goal.invariant-each_actor
invariant-each_actor l = l.out.items ≡ l.initial.out.items ++ callers_words l.calls l.actor
