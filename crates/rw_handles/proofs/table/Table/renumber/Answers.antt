use Rattle.std.proofs.Common.{rules, ◌≡◌, ◌∙◌, ap, sym, refl, arith}
use Rattle.std.proofs.lemmas.Fn.{filter_same}
use Rattle.rw_handles.specs.Slots.{alive, is_alive}
use Rattle.rw_handles.specs.Renaming.{live_ones, live_numbers}
use Rattle.rw_handles.proofs.Renaming.{counted_live, renames_live_ones}
use Rattle.rw_handles.proofs.table.Table.renumber.Goals as goal

pub invariant_of-self : goal.invariant_of-self
invariant_of-self g c =
    let left : c.retain.new.self.items ≡ live_ones c.self.inside.slots.items = filter_same _ _ _ (λ x b f' k. search rules) _ _ c.retain.ensures.filtered in (
      omega (arith, c.self.invariant.0, c.retain.ensures.bound),
      λ kind. c.self.invariant.1 kind ∙ counted_live (is_alive kind) refl c.self.inside.slots.items ∙ sym (ap (alive kind) left),
    )

pub returns-clause-renumbered : goal.returns-clause-renumbered
returns-clause-renumbered g c =
    let slots = c.args.self.now.slots in
    let left : c.retain.new.self.items ≡ live_ones c.self.inside.slots.items = filter_same _ _ _ (λ x b f' k. search rules) _ _ c.retain.ensures.filtered in
    let left = left ∙ ap (λ v. live_ones v.slots) c.self.view_is in
    let numbers : c.in_ok-before.before.items ≡ live_numbers slots = search rules in
    record {
      left = left;
      numbers = numbers;
      renaming = rw (left, numbers) (renames_live_ones _ slots);
    }
