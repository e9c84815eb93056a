use Rattle.std.proofs.Common.{◌∙◌, [], ◌∷◌, ◌++◌, ap, subst, sym}
use Rattle.std.specs.Prelude.{None}
use Rattle.rw_handles.specs.declared.kinds.Kind.TheVariants.{Sender, Receiver}
use Rattle.rw_world.specs.Machines.{of_chan}
use Rattle.rw_findings.specs.Lives.{AreLivesTo, born}
use Rattle.rw_findings.proofs.LifePlaces.{lives_first}
use Rattle.rw_findings.proofs.lives.finding.follow_run.Goals as goal

pub opened-requires : goal.opened-requires
opened-requires g c = c.requires.inside

pub follow_all-requires-clause-here : goal.follow_all-requires-clause-here
follow_all-requires-clause-here g c = c.in_ok-machine.ensures

pub follow_all-requires-clause-lives : goal.follow_all-requires-clause-lives
follow_all-requires-clause-lives g c =
    let first = c.in_ok-open_lives.ensures ∙ ap (λ lives. lives ++ born Sender 0 None ∷ born Receiver 0 None ∷ []) c.requires.empty in
    subst (λ lives. AreLivesTo c.args.run.now c.args.channel 0 lives) (sym first)
    (lives_first c.args.run.now c.args.channel c.documented.ensures.places ((of_chan {V = g.row.V.Denot}).shown c.in_ok-machine.machine)
    c.in_ok-machine.ensures.shows)

pub returns : goal.returns
returns g c = c.follow_all.ensures
