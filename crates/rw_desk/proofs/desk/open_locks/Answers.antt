use Rattle.std.proofs.Common.{◌+◌, length, ◌∙◌, ap}
use Rattle.std.proofs.lemmas.List.{length_push}
use Rattle.rw_desk.proofs.desk.open_locks.Goals as goal

pub loop-spec-preserved : goal.loop-spec-preserved
loop-spec-preserved g c = ap length c.in_ok-push.ensures.items ∙ (length_push c.loop-spec.locks.items c.new.result ∙ ap (λ n. n + 1) c.loop-spec.invariant)
