use Rattle.std.proofs.Common.{◌++◌, ◌∷◌, [], ◌∙◌, Some, ap, refl}
use Rattle.rw_desk.specs.Passes.{fresh_pass}
use Rattle.rw_desk.proofs.Opened.{one_more}
use Rattle.rw_desk.proofs.desk.fresh_passes.Goals as goal

pub loop-actor-preserved : goal.loop-actor-preserved
loop-actor-preserved g c =
    let inv = c.loop-actor.invariant in
    one_more (λ a. Some (fresh_pass {V = g.row.V.Denot} a)) c.loop-actor.passes.items c.push.new.self.items (fresh_pass c.loop-actor.actor) c.loop-actor.actor
    inv.0 inv.1 refl (c.in_ok-push.ensures.items ∙ ap (λ p. c.loop-actor.passes.items ++ p ∷ []) c.new.ensures)
