use Rattle.std.proofs.Common.{◌∙◌}
use Rattle.rw_script.proofs.NameLaws.{is_bound_by_map}
use Rattle.rw_script.proofs.names.Names.is_bound_again.Goals as goal

pub returns-in-Some : goal.returns-in-Some
returns-in-Some c = rw (c.in-Some.is, ← c.self.view_is) (c.contains_key.ensures
    ∙ is_bound_by_map (λ k. k.items) (λ x. x.actor) (λ x. x.channel) c.self.inside.bindings.entries c.in-Some.name.now)
