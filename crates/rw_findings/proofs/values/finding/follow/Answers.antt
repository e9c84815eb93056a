use Rattle.rw_world.specs.Machines.{of_chan}
use Rattle.rw_findings.proofs.ValuePlaces.{values_on}
use Rattle.rw_findings.proofs.values.finding.follow.Goals as goal

pub returns-clause-values : goal.returns-clause-values
returns-clause-values g c =
    values_on c.documented.ensures.places c.args.run.now c.args.channel c.args.place ((of_chan {V = g.row.V.Denot}).shown c.args.machine.now)
    ((of_chan {V = g.row.V.Denot}).shown c.advance.new.machine) c.args.values.now.items c.note_state.new.values.items c.requires.more c.requires.here.shows
    c.advance.ensures.shows
    c.requires.values c.in_ok-note_state.ensures

pub advance-requires-clause-here : goal.advance-requires-clause-here
advance-requires-clause-here g c = c.requires.here

pub advance-requires-clause-more : goal.advance-requires-clause-more
advance-requires-clause-more g c = c.requires.more

pub returns-clause-here : goal.returns-clause-here
returns-clause-here g c = c.advance.ensures
