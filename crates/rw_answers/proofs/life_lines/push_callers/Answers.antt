use Rattle.std.specs.Prelude.{slice_index_or}
use Rattle.rw_answers.specs.LifeLines.{caller_words}
use Rattle.rw_answers.proofs.PeakTexts.{written_more}
use Rattle.rw_answers.proofs.life_lines.push_callers.Goals as goal

pub each_actor-preserved : goal.each_actor-preserved
each_actor-preserved c = written_more (λ actor. caller_words actor (slice_index_or c.args.calls.now actor 0)) _ _ _ c.each_actor.actor c.each_actor.invariant
    c.in_ok-push_caller.ensures
