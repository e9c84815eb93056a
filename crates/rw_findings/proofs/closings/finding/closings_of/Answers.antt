-- `closings_of` finds all closings of a run, and what each receiver that was there did after them, or runs out of memory.
use Rattle.std.proofs.Common.{◌≡◌, ◌<◌, ◌≤◌, ◌+◌, ◌^◌, ◌∙◌, ◌++◌, [], length, get_or, take, drop, refl, sym, ap, subst, arith}
use Rattle.rw_world.specs.Machines.{of_world}
use Rattle.rw_world.specs.declared.opening.TheConstants.{MOST_CHANNELS}
use Rattle.rw_navigator.specs.Debugger.{StandsAt, WentTo}
use Rattle.rw_navigator.specs.Places.{last_place, shown_at}
use Rattle.rw_world.proofs.Modifying.{length-modified}
use Rattle.rw_findings.specs.LateReaders.{after_entry, opened, with_entry, with_closings, with_all_readers, HaveRoom, HaveFewHandles}
use Rattle.rw_findings.proofs.LossCode.{written}
use Rattle.rw_findings.proofs.LossRuns.{at_place, length_at, few_specs}
use Rattle.rw_findings.proofs.ClosingRuns.{AreKept, first_kept, have_room, few_handles, few_channels}
use Rattle.rw_findings.specs.Closings.{AreClosings}
use Rattle.rw_findings.specs.declared.closings.closing.Closings.{Closings}
use Rattle.rw_findings.proofs.ClosingsOfRuns.{kept_entry, are_closings, from_both}
use Rattle.rw_findings.proofs.closings.finding.closings_of.Goals as goal

pub loop-entry-init : goal.loop-entry-init
loop-entry-init g c =
    let run = c.args.run.now in
    let stands : StandsAt c.in_ok-visitor.visitor run 0 = c.in_ok-visitor.ensures in
    let opened_are : c.in_ok-closed.closed.items ≡ opened c.specs.result.now = c.in_ok-closed.ensures in
    record {
      place = refl;
      entries = c.entries-entry-items.ensures.entries;
      run = stands.run_is;
      here = stands.place;
      kept = subst (λ ks. AreKept (at_place run) run.entries 0 ks) (sym (opened_are ∙ ap opened c.specs.ensures.specs))
          (first_kept (at_place run) run.entries run.specs refl);
    }

pub loop-entry-preserved : goal.loop-entry-preserved
loop-entry-preserved g c =
    let run = c.args.run.now in
    let n = c.loop-entry.entry-index in
    let ks = c.loop-entry.closed.items in
    let e = c.entry-item.result in
    let entries = c.loop-entry.invariant.entries in
    let xs = of_world.shown c.state.result.now in
    let place : c.loop-entry.place + 1 ≡ n + 1 = ap (λ k. k + 1) c.loop-entry.invariant.place in
    let within : n < length run.entries = subst (λ es. n < length es) entries c.loop-entry-test.true in
    let moved : WentTo c.loop-entry.visitor c.advance.new.self (c.loop-entry.visitor.place + 1) 1 = c.advance.ensures in
    let run_then : c.advance.new.self.run ≡ run = moved.run ∙ c.loop-entry.invariant.run in
    let here_then : c.advance.new.self.place ≡ n + 1 = moved.place ∙ ap (λ k. k + 1) c.loop-entry.invariant.here in
    let place_then : c.advance.new.self.place ≡ c.loop-entry.place + 1 = here_then ∙ sym place in
    let shown : xs ≡ shown_at run (c.loop-entry.place + 1) =
    c.state.ensures.documented ∙ ap (λ r. shown_at r c.advance.new.self.place) run_then ∙ ap (λ p. shown_at run p) place_then in
    let taken : c.follow_entry.new.closed ≡ with_entry xs c.deref_mut.result.now e (c.loop-entry.place + 1) = c.in_ok-follow_entry.ensures in
    let closed_are : take c.loop-entry.closed.len (c.follow_entry.new.closed ++ drop (length c.follow_entry.new.closed) ks)
    ≡ with_entry xs ks e (c.loop-entry.place + 1) =
    written c.loop-entry.closed.len c.follow_entry.new.closed ks
    (ap length taken ∙ length-modified (after_entry xs e (c.loop-entry.place + 1)) c.deref_mut.result.now e.call.channel ∙ ap length c.deref_mut.ensures.value
    ∙ sym c.loop-entry.closed.ok.0) (sym c.loop-entry.closed.ok.0)
    ∙ taken ∙ ap (λ us. with_entry xs us e (c.loop-entry.place + 1)) c.deref_mut.ensures.value in
    let read : e ≡ get_or run.entries n e = c.entry-item.is ∙ ap (λ es. get_or es n e) entries in
    record {
      place = place;
      entries = entries;
      run = run_then;
      here = here_then;
      kept = subst (λ us. AreKept (at_place run) run.entries (n + 1) us) (sym closed_are)
          (kept_entry c.documented.ensures.places run n (c.loop-entry.place + 1) e xs ks place shown within read c.loop-entry.invariant.kept);
    }

pub advance-requires-clause-same : goal.advance-requires-clause-same
advance-requires-clause-same g c = sym c.loop-entry.invariant.run

pub advance-requires-clause-more : goal.advance-requires-clause-more
advance-requires-clause-more g c =
    let last : last_place c.loop-entry.visitor.run ≡ length c.args.run.now.entries = ap (λ r. last_place r) c.loop-entry.invariant.run in
    omega (arith, last, c.loop-entry.invariant.here, ap length c.loop-entry.invariant.entries, c.loop-entry-test.true)

pub follow_entry-requires : goal.follow_entry-requires
follow_entry-requires g c =
    let run = c.args.run.now in
    let n = c.loop-entry.entry-index in
    let few : n < 2 ^ 60 = omega arith in
    subst (λ us. HaveRoom us) (sym c.deref_mut.ensures.value) (have_room (at_place run) run.entries n c.loop-entry.closed.items few c.loop-entry.invariant.kept)

pub listed-requires-clause-few : goal.listed-requires-clause-few
listed-requires-clause-few g c =
    let run = c.args.run.now in
    let last : c.loop-entry.entry-index ≡ last_place run = omega (arith, ap length c.loop-entry.invariant.entries, c.loop-entry-test.false) in
    let kept = subst (λ n. AreKept (at_place run) run.entries n c.loop-entry.closed.items) last c.loop-entry.invariant.kept in
    let channels : length (at_place run (last_place run)) ≤ MOST_CHANNELS =
    omega (arith, length_at run (last_place run), few_specs run.specs c.entries-entry-items.ensures.run.opens) in
    subst (λ us. length us ≤ MOST_CHANNELS) (sym c.deref.ensures.value)
    (few_channels (at_place run) run.entries (last_place run) c.loop-entry.closed.items channels kept)

pub listed-requires-clause-small : goal.listed-requires-clause-small
listed-requires-clause-small g c =
    let run = c.args.run.now in
    let last : c.loop-entry.entry-index ≡ last_place run = omega (arith, ap length c.loop-entry.invariant.entries, c.loop-entry-test.false) in
    let kept = subst (λ n. AreKept (at_place run) run.entries n c.loop-entry.closed.items) last c.loop-entry.invariant.kept in
    subst (λ us. HaveFewHandles us) (sym c.deref.ensures.value) (few_handles (at_place run) run.entries (last_place run) c.loop-entry.closed.items kept)

pub returns : goal.returns
returns g c =
    let run = c.args.run.now in
    let ks = c.loop-entry.closed.items in
    let us = c.deref.result.now in
    let last : c.loop-entry.entry-index ≡ last_place run = omega (arith, ap length c.loop-entry.invariant.entries, c.loop-entry-test.false) in
    let kept = subst (λ n. AreKept (at_place run) run.entries n ks) last c.loop-entry.invariant.kept in
    from_both c.listed.result (λ (found : Closings). found.channels.items ≡ with_closings [] us (length us))
    (λ (found : Closings). found.readers.items ≡ with_all_readers [] us (length us))
    (λ (found : Closings). AreClosings run found.channels.items found.readers.items)
    (λ found closings readers.
    are_closings c.documented.ensures.places run ks found.channels.items found.readers.items kept
    (closings ∙ ap (λ vs. with_closings [] vs (length vs)) c.deref.ensures.value)
    (readers ∙ ap (λ vs. with_all_readers [] vs (length vs)) c.deref.ensures.value))
    c.listed.ensures.channels c.listed.ensures.readers
