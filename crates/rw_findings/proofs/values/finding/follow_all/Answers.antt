use Rattle.std.proofs.Common.{◌≡◌, ◌<◌, arith, subst}
use Rattle.rw_world.specs.Machines.{of_chan}
use Rattle.rw_findings.specs.Values.{AreValuesTo, NotedState}
use Rattle.rw_navigator.specs.Places.{last_place}
use Rattle.rw_findings.proofs.ValuePlaces.{values_first}
use Rattle.rw_findings.proofs.values.finding.follow_all.Goals as goal

pub each_place-init : goal.each_place-init
each_place-init g c =
    let x = (of_chan {V = g.row.V.Denot}).shown c.args.machine.now in
    record {
      stands = c.requires.here;
      values = values_first c.documented.ensures.places c.args.run.now c.args.channel x c.note_state.new.values.items c.requires.here.shows
          (subst (λ values. NotedState values c.note_state.new.values.items x 0) c.requires.empty c.in_ok-note_state.ensures);
    }

pub follow-requires-clause-here : goal.follow-requires-clause-here
follow-requires-clause-here g c = c.each_place.invariant.stands

pub follow-requires-clause-more : goal.follow-requires-clause-more
follow-requires-clause-more g c = subst (λ n. c.each_place.place < n) c.len-place-end.ensures c.each_place-test.true

pub follow-requires-clause-values : goal.follow-requires-clause-values
follow-requires-clause-values g c = c.each_place.invariant.values

pub each_place-preserved : goal.each_place-preserved
each_place-preserved g c = record { stands = c.in_ok-follow.ensures.here; values = c.in_ok-follow.ensures.values }

pub returns : goal.returns
returns g c =
    let run = c.args.run.now in
    let last : c.each_place.place ≡ last_place run = omega (arith, c.each_place-test.false, c.each_place.auto.place-end, c.len-place-end.ensures) in
    subst (λ n. AreValuesTo run c.args.channel n c.each_place.values.items) last c.each_place.invariant.values
