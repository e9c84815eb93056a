use Rattle.rw_answers.specs.ValueLines.{IsValueText}
use Rattle.rw_answers.specs.Texts.{Appended, AreTexts}
use Rattle.rw_answers.proofs.value_lines.push_values_of.Given as goal

abbrev pub invariant-each_channel : goal.invariant-each_channel
invariant-each_channel l = Appended l.initial.out.items l.out.items (AreTexts (IsValueText l.run) l.channel)
