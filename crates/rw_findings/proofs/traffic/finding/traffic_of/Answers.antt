-- `traffic_of` finds what came on each channel that is asked for, or runs out of memory.
use Rattle.std.proofs.Common.{◌≡◌, ◌<◌, ◌+◌, ◌^◌, ◌∙◌, length, get_or, refl, sym, ap, subst, arith}
use Rattle.std.proofs.lemmas.List.{length-map}
use Rattle.rw_world.specs.Machines.{of_chan, of_world}
use Rattle.rw_navigator.specs.Debugger.{StandsAt, WentTo}
use Rattle.rw_navigator.specs.Places.{last_place, shown_at}
use Rattle.rw_findings.specs.Traffic.{AreFollowed, AreOpened, AreTrafficTo}
use Rattle.rw_findings.proofs.TrafficPlaces.{have_room, traffic_first, traffic_next}
use Rattle.rw_findings.proofs.traffic.finding.traffic_of.Goals as goal

pub loop-entry-init : goal.loop-entry-init
loop-entry-init g c =
    let run = c.args.run.now in
    let stands : StandsAt c.in_ok-visitor.visitor run 0 = c.in_ok-visitor.ensures in
    let world = c.state-start.result.now in
    let xs = of_world.shown world in
    let shown : xs ≡ shown_at run 0 =
    c.state-start.ensures.documented ∙ ap (λ r. shown_at r c.in_ok-visitor.visitor.place) stands.run_is ∙ ap (shown_at run) stands.place in
    let as_many = sym (length-map world (of_chan {V = g.row.V.Denot}).shown) in
    let opened : AreOpened xs c.args.channels.now (length xs) c.in_ok-found.found.items =
    subst (λ n. AreOpened xs c.args.channels.now n c.in_ok-found.found.items) as_many c.in_ok-found.ensures in
    record {
      place = refl;
      entries = c.entries-entry-items.ensures.entries;
      run = stands.run_is;
      here = stands.place;
      found = traffic_first c.documented.ensures.places run c.args.channels.now xs c.in_ok-found.found.items shown opened;
    }

pub loop-entry-preserved : goal.loop-entry-preserved
loop-entry-preserved g c =
    let run = c.args.run.now in
    let n = c.loop-entry.entry-index in
    let e = c.entry-item.result in
    let entries = c.loop-entry.invariant.entries in
    let xs = of_world.shown c.state.result.now in
    let place : c.loop-entry.place + 1 ≡ n + 1 = ap (λ k. k + 1) c.loop-entry.invariant.place in
    let within : n < length run.entries = subst (λ es. n < length es) entries c.loop-entry-test.true in
    let moved : WentTo c.loop-entry.visitor c.advance.new.self (c.loop-entry.visitor.place + 1) 1 = c.advance.ensures in
    let run_then : c.advance.new.self.run ≡ run = moved.run ∙ c.loop-entry.invariant.run in
    let here_then : c.advance.new.self.place ≡ n + 1 = moved.place ∙ ap (λ k. k + 1) c.loop-entry.invariant.here in
    let shown : xs ≡ shown_at run (n + 1) =
    c.state.ensures.documented ∙ ap (λ r. shown_at r c.advance.new.self.place) run_then ∙ ap (λ p. shown_at run p) here_then in
    let read : e ≡ get_or run.entries n e = c.entry-item.is ∙ ap (λ es. get_or es n e) entries in
    let followed : AreFollowed c.loop-entry.found.items c.follow_entry.new.found.items e xs (n + 1) =
    subst (λ p. AreFollowed c.loop-entry.found.items c.follow_entry.new.found.items e xs p) place c.in_ok-follow_entry.ensures in
    record {
      place = place;
      entries = entries;
      run = run_then;
      here = here_then;
      found = traffic_next c.documented.ensures.places run c.args.channels.now n e within read xs c.loop-entry.found.items c.follow_entry.new.found.items shown
          c.loop-entry.invariant.found followed;
    }

pub advance-requires-clause-same : goal.advance-requires-clause-same
advance-requires-clause-same g c = sym c.loop-entry.invariant.run

pub advance-requires-clause-more : goal.advance-requires-clause-more
advance-requires-clause-more g c =
    let last : last_place c.loop-entry.visitor.run ≡ length c.args.run.now.entries = ap (λ r. last_place r) c.loop-entry.invariant.run in
    omega (arith, last, c.loop-entry.invariant.here, ap length c.loop-entry.invariant.entries, c.loop-entry-test.true)

pub follow_entry-requires : goal.follow_entry-requires
follow_entry-requires g c =
    let n = c.loop-entry.entry-index in
    let few : n < 2 ^ 63 = omega arith in
    have_room c.documented.ensures.places c.args.run.now c.args.channels.now n c.loop-entry.found.items few c.loop-entry.invariant.found

pub returns : goal.returns
returns g c =
    let run = c.args.run.now in
    let last : c.loop-entry.entry-index ≡ last_place run = omega (arith, ap length c.loop-entry.invariant.entries, c.loop-entry-test.false) in
    subst (λ n. AreTrafficTo run c.args.channels.now n c.loop-entry.found.items) last c.loop-entry.invariant.found
