use Rattle.std.proofs.Common.{◌∙◌, ◌≡◌, ap, map, false, List, ◌∷◌, [], ◌++◌}
use Rattle.rw_script.specs.StepLines.{Bound, is_bound}
use Rattle.rw_script.proofs.NameLaws.{bound, bound_last}
use Rattle.rw_script.proofs.names.Names.bind.Goals as goal

pub returns-clause-ok : goal.returns-clause-ok
returns-clause-ok c =
    let es = c.self.inside.bindings.entries in
    let name = c.in-Some.name.now in
    let free : is_bound (map (bound (λ k. k.items) (λ x. x.actor) (λ x. x.channel)) es) name ≡ false =
    rw c.self.view_is (rw c.in-Some.is at c.requires) in
    let entries = c.in_ok-insert.ensures.entries in
    rw c.in-Some.is (ap (map (bound (λ k. k.items) (λ x. x.actor) (λ x. x.channel))) entries
    ∙ (bound_last (λ k. k.items) (λ x. x.actor) (λ x. x.channel) es name c.in_ok-name.name _ (c.in_ok-name.ensures.items_if_clones_equal (λ x y h. h)) free
    ∙ ap (λ (bs : List Bound). bs ++ record { name = name; actor = c.args.actor; channel = c.args.channel } ∷ []) c.self.view_is))
