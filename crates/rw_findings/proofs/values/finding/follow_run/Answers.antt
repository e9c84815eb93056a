use Rattle.rw_findings.proofs.values.finding.follow_run.Goals as goal

pub opened-requires : goal.opened-requires
opened-requires g c = c.requires.inside

pub follow_all-requires-clause-here : goal.follow_all-requires-clause-here
follow_all-requires-clause-here g c = c.in_ok-machine.ensures

pub follow_all-requires-clause-empty : goal.follow_all-requires-clause-empty
follow_all-requires-clause-empty g c = c.requires.empty

pub returns : goal.returns
returns g c = c.follow_all.ensures
