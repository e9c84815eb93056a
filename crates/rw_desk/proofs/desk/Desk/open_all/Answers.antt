use Rattle.std.proofs.Common.{◌≡◌, None, List, length, ◌∙◌, ap, sym, subst}
use Rattle.rw_world.specs.declared.opening.Spec.{Spec}
use Rattle.rw_world.specs.Openings.{refusal}
use Rattle.rw_desk.specs.Desks.{Desk}
use Rattle.rw_desk.proofs.desk.Desk.open_all.Goals as goal

pub invariant_of-desk : goal.invariant_of-desk
invariant_of-desk g c = record {
  opens = subst (λ specs. refusal specs ≡ None) (sym c.in-Ok.ensures.items) c.requires.opens;
  some_actor = c.requires.some;
  few_actors = c.requires.few;
  locked = c.in_ok-locks.ensures ∙ ap length (sym c.in-Ok.ensures.items);
}

pub returns : goal.returns
returns g c =
    let desk : List (Spec g.row.V.Denot) → Desk g.row.V.Denot = λ specs. record { specs = specs; actors = c.args.actors } in
    record { desk_is = ap desk c.in-Ok.ensures.items; passes_are = c.in_ok-passes.ensures; ends_are = c.in_ok-ends.ensures }
