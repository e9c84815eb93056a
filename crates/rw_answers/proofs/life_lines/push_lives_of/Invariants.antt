use Rattle.rw_answers.specs.LifeLines.{IsLifeText}
use Rattle.rw_answers.specs.Texts.{Appended, AreTexts}
use Rattle.rw_answers.proofs.life_lines.push_lives_of.Given as goal

abbrev pub invariant-each_channel : goal.invariant-each_channel
invariant-each_channel l = Appended l.initial.out.items l.out.items (AreTexts (IsLifeText l.run) l.channel)
