use Rattle.rw_findings.proofs.peaks.finding.follow_run.Goals as goal

pub opened-requires : goal.opened-requires
opened-requires g c = c.requires.channel

pub advance_to-requires-clause-here : goal.advance_to-requires-clause-here
advance_to-requires-clause-here g c = c.in_ok-machine.ensures

pub advance_to-requires-clause-inside : goal.advance_to-requires-clause-inside
advance_to-requires-clause-inside g c = c.requires.inside

pub follow_all-requires-clause-here : goal.follow_all-requires-clause-here
follow_all-requires-clause-here g c = c.advance_to.ensures

pub follow_all-requires-clause-inside : goal.follow_all-requires-clause-inside
follow_all-requires-clause-inside g c = c.requires.inside

pub follow_all-requires-clause-some : goal.follow_all-requires-clause-some
follow_all-requires-clause-some g c = c.requires.some

pub follow_all-requires-clause-fresh : goal.follow_all-requires-clause-fresh
follow_all-requires-clause-fresh g c = c.requires.fresh

pub returns : goal.returns
returns g c = c.follow_all.ensures
