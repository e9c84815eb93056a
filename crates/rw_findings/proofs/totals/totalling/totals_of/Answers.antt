-- `totals_of` counts exactly what each receiver of a run received and missed, or runs out of memory.
use Rattle.std.proofs.Common.{◌≡◌, ◌<◌, ◌≤◌, ◌+◌, ◌^◌, ◌∙◌, ◌++◌, [], length, get_or, take, drop, refl, sym, ap, subst, arith}
use Rattle.rw_law.specs.Journal.{IsLegal}
use Rattle.rw_world.specs.Machines.{of_world}
use Rattle.rw_world.specs.Openings.{opening_row}
use Rattle.rw_world.specs.declared.opening.TheConstants.{MOST_CHANNELS}
use Rattle.rw_navigator.specs.Places.{last_place}
use Rattle.rw_world.proofs.Modifying.{length-modified}
use Rattle.rw_findings.specs.Tallies.{opened_tallies, with_entry, with_reply, with_channels, HaveRoom, HaveFewHandles}
use Rattle.rw_findings.proofs.LossCode.{written}
use Rattle.rw_findings.proofs.LossRuns.{at_place, allowed_at, length_at, few_specs}
use Rattle.rw_findings.proofs.TallyRuns.{AreKept}
use Rattle.rw_findings.proofs.TallyStarts.{first_kept}
use Rattle.rw_findings.proofs.TallyRooms.{have_room, few_handles, few_tallies}
use Rattle.rw_findings.proofs.TotalsOfRuns.{kept_entry, are_totals}
use Rattle.rw_findings.proofs.totals.totalling.totals_of.Goals as goal

pub loop-entry-init : goal.loop-entry-init
loop-entry-init g c =
    let run = c.args.run.now in
    let opened : c.in_ok-tallies.tallies.items ≡ opened_tallies c.specs.result.now = c.in_ok-tallies.ensures in
    record {
      place = refl;
      entries = c.entries-entry-items.ensures.entries;
      kept = subst (λ ts. AreKept (at_place run) run.entries 0 ts) (sym (opened ∙ ap opened_tallies c.specs.ensures.specs))
          (first_kept (at_place run) run.entries run.specs refl);
    }

pub loop-entry-preserved : goal.loop-entry-preserved
loop-entry-preserved g c =
    let run = c.args.run.now in
    let n = c.loop-entry.entry-index in
    let ts = c.loop-entry.tallies.items in
    let e = c.entry-item.result in
    let entries = c.loop-entry.invariant.entries in
    let place : c.loop-entry.place + 1 ≡ n + 1 = ap (λ k. k + 1) c.loop-entry.invariant.place in
    let taken : c.count_entry.new.tallies ≡ with_entry c.deref_mut.result.now e (c.loop-entry.place + 1) = c.in_ok-count_entry.ensures in
    let tallies_are : take c.loop-entry.tallies.len (c.count_entry.new.tallies ++ drop (length c.count_entry.new.tallies) ts) ≡ with_entry ts e (n + 1) =
    written c.loop-entry.tallies.len c.count_entry.new.tallies ts
    (ap length taken ∙ length-modified (λ t. with_reply t e.call.call e.reply (c.loop-entry.place + 1)) c.deref_mut.result.now e.call.channel
    ∙ ap length c.deref_mut.ensures.value ∙ sym c.loop-entry.tallies.ok.0) (sym c.loop-entry.tallies.ok.0)
    ∙ taken ∙ ap (λ us. with_entry us e (c.loop-entry.place + 1)) c.deref_mut.ensures.value ∙ ap (with_entry ts e) place in
    let within : n < length run.entries = subst (λ es. n < length es) entries c.loop-entry-test.true in
    let read : e ≡ get_or run.entries n e = c.entry-item.is ∙ ap (λ es. get_or es n e) entries in
    let legal = subst (λ es. IsLegal of_world (opening_row run.specs) es) c.entries-entry-items.ensures.entries c.entries-entry-items.ensures.run.legal in
    record {
      place = place;
      entries = entries;
      kept = subst (λ us. AreKept (at_place run) run.entries (n + 1) us) (sym tallies_are)
          (kept_entry run n e ts legal within read c.loop-entry.invariant.kept);
    }

pub count_entry-requires : goal.count_entry-requires
count_entry-requires g c =
    let run = c.args.run.now in
    let n = c.loop-entry.entry-index in
    let few : n < 2 ^ 60 = omega arith in
    subst (λ us. HaveRoom us) (sym c.deref_mut.ensures.value)
    (have_room (at_place run) run.entries n few c.loop-entry.tallies.items c.loop-entry.invariant.kept)

pub push_all-requires-clause-few : goal.push_all-requires-clause-few
push_all-requires-clause-few g c =
    let run = c.args.run.now in
    let last : c.loop-entry.entry-index ≡ last_place run = omega (arith, ap length c.loop-entry.invariant.entries, c.loop-entry-test.false) in
    let kept = subst (λ n. AreKept (at_place run) run.entries n c.loop-entry.tallies.items) last c.loop-entry.invariant.kept in
    let few : last_place run < 2 ^ 60 = omega arith in
    let channels : length (at_place run (last_place run)) ≤ MOST_CHANNELS =
    omega (arith, length_at run (last_place run), few_specs run.specs c.entries-entry-items.ensures.run.opens) in
    subst (λ us. length us ≤ MOST_CHANNELS) (sym c.deref.ensures.value)
    (few_tallies (at_place run) run.entries (last_place run) few c.loop-entry.tallies.items channels kept)

pub push_all-requires-clause-small : goal.push_all-requires-clause-small
push_all-requires-clause-small g c =
    let run = c.args.run.now in
    let last : c.loop-entry.entry-index ≡ last_place run = omega (arith, ap length c.loop-entry.invariant.entries, c.loop-entry-test.false) in
    let kept = subst (λ n. AreKept (at_place run) run.entries n c.loop-entry.tallies.items) last c.loop-entry.invariant.kept in
    let few : last_place run < 2 ^ 60 = omega arith in
    subst (λ us. HaveFewHandles us) (sym c.deref.ensures.value)
    (few_handles (at_place run) run.entries (last_place run) few c.loop-entry.tallies.items (allowed_at run (last_place run)) kept)

pub push_all-requires-clause-room : goal.push_all-requires-clause-room
push_all-requires-clause-room g c =
    let run = c.args.run.now in
    let last : c.loop-entry.entry-index ≡ last_place run = omega (arith, ap length c.loop-entry.invariant.entries, c.loop-entry-test.false) in
    let kept = subst (λ n. AreKept (at_place run) run.entries n c.loop-entry.tallies.items) last c.loop-entry.invariant.kept in
    let few : last_place run < 2 ^ 60 = omega arith in
    subst (λ us. HaveRoom us) (sym c.deref.ensures.value) (have_room (at_place run) run.entries (last_place run) few c.loop-entry.tallies.items kept)

pub returns : goal.returns
returns g c =
    let run = c.args.run.now in
    let ts = c.loop-entry.tallies.items in
    let last : c.loop-entry.entry-index ≡ last_place run = omega (arith, ap length c.loop-entry.invariant.entries, c.loop-entry-test.false) in
    let kept = subst (λ n. AreKept (at_place run) run.entries n ts) last c.loop-entry.invariant.kept in
    let pushed : c.push_all.new.totals.items ≡ with_channels [] c.deref.result.now (length c.deref.result.now) =
    c.in_ok-push_all.ensures ∙ ap (λ totals. with_channels totals c.deref.result.now (length c.deref.result.now)) c.new-totals.ensures.items in
    are_totals c.documented.ensures.places run ts c.push_all.new.totals.items kept (pushed ∙ ap (λ us. with_channels [] us (length us)) c.deref.ensures.value)
