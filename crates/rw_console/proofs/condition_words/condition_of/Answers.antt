use Rattle.rw_console.proofs.ConditionReading.{again, found_if}
use Rattle.rw_console.proofs.condition_words.condition_of.Goals as goal

pub returns-clause-found : goal.returns-clause-found
returns-clause-found c = found_if c.args.text.now c.condition_from.result c.condition_from.ensures

pub returns-clause-only : goal.returns-clause-only
returns-clause-only c = λ cond fits e. rw (c.condition_from.ensures, e) (again cond fits)
