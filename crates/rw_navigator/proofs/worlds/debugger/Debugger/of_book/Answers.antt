use Rattle.std.proofs.Common.{◌∙◌, ap, length, refl, subst, sym}
use Rattle.rw_law.specs.Journal.{after_all, IsLegal}
use Rattle.rw_world.specs.Machines.{of_world}
use Rattle.rw_navigator.specs.Debugger.{as_run}
use Rattle.rw_navigator.proofs.Debugging.{begun, stands, at_last_place}
use Rattle.rw_navigator.proofs.worlds.debugger.Debugger.of_book.Goals as goal

pub at_end-visit-requires-clause-made : goal.at_end-visit-requires-clause-made
at_end-visit-requires-clause-made g c =
    let whole = c.into_whole-start.ensures in
    rw whole.opening (record {
      allowed = whole.allowed;
      legal = whole.book.legal;
      shows = whole.machine ∙ ap (after_all of_world _) (sym whole.entries);
      room = whole.room;
    })

pub invariant_of-result : goal.invariant_of-result
invariant_of-result g c =
    let whole = c.into_whole-start.ensures in
    let visit = c.at_end-visit.ensures in
    begun c.documented.ensures.places c.documented.ensures.recorded _ _ (visit.start ∙ ap of_world.shown whole.opening ∙ c.requires.opened)
    (rw visit.entries (subst (λ x. IsLegal of_world x c.into_whole-start.result.2.items) c.requires.opened whole.book.legal))

pub returns : goal.returns
returns g c =
    let whole = c.into_whole-start.ensures in
    let visit = c.at_end-visit.ensures in
    let run = as_run c.args.specs.items c.args.book.entries in
    stands c.documented.ensures.places _ _ run _ refl (visit.entries ∙ whole.entries) (visit.place ∙ ap length whole.entries)
    (ap of_world.shown visit.machine ∙ whole.machine ∙ ap (λ x. after_all of_world x c.args.book.entries) c.requires.opened ∙ at_last_place run) visit.turns
