use Rattle.std.proofs.Common.{ap, ◌∙◌}
use Rattle.rw_navigator.specs.Counted.{count_after}
use Rattle.rw_navigator.proofs.counting.Counted.undo.Goals as goal

pub returns-clause-turns : goal.returns-clause-turns
returns-clause-turns g c = c.saturating_add-self-inside.ensures ∙ ap (λ seen. count_after seen.turns 1) c.self.view_is
