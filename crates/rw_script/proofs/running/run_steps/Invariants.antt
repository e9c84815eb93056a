use Rattle.rw_journal.specs.Book.{opening_of}
use Rattle.rw_script.proofs.PlayLaws.{Played}
use Rattle.rw_script.proofs.running.run_steps.Given as goal

abbrev pub invariant-each_step : goal.invariant-each_step
invariant-each_step g l = Played g.M.Reversible l.fn.script (opening_of g.M.Reversible l.fn.book) l.book l.made.items l.step-index
