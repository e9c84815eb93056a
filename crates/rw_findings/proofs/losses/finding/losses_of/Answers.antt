-- `losses_of` finds exactly the losses of a run, in their order, or runs out of memory.
use Rattle.std.proofs.Common.{◌≡◌, ◌<◌, ◌≤◌, ◌+◌, ◌∙◌, ◌++◌, length, get_or, take, drop, refl, sym, ap, subst, rules, arith}
use Rattle.std.proofs.lemmas.List.Sorted.{IsNonDecreasingBy-from_sort_by_key}
use Rattle.rw_law.specs.Journal.{IsLegal}
use Rattle.rw_world.specs.Machines.{of_world}
use Rattle.rw_world.specs.Openings.{opening_row}
use Rattle.rw_world.specs.declared.opening.TheConstants.{MOST_CHANNELS}
use Rattle.rw_navigator.specs.Places.{last_place}
use Rattle.rw_findings.specs.Losses.{order_of}
use Rattle.rw_findings.specs.LossTracks.{HasFewHandles, opened_tracks, with_entry, loss_of_entry, with_loss, with_open}
use Rattle.rw_findings.proofs.LossEntries.{IsPassed}
use Rattle.rw_findings.proofs.LossRuns.{at_place, passed_first, passed_entry, few_tracks, few_handles, are_losses}
use Rattle.rw_findings.proofs.LossCode.{length_taken, written}
use Rattle.rw_findings.proofs.losses.finding.losses_of.Goals as goal

pub loop-entry-init : goal.loop-entry-init
loop-entry-init g c =
    let run = c.args.run.now in
    let opened : c.in_ok-tracks.tracks.items ≡ opened_tracks c.specs.result.now = c.in_ok-tracks.ensures in
    record {
      place = refl;
      entries = c.entries-entry-items.ensures.entries;
      passed = subst (λ losses. IsPassed (at_place run) (last_place run) 0 c.in_ok-tracks.tracks.items losses) (sym c.new-losses.ensures.items)
          (passed_first run c.in_ok-tracks.tracks.items (opened ∙ ap opened_tracks c.specs.ensures.specs));
    }

pub loop-entry-preserved : goal.loop-entry-preserved
loop-entry-preserved g c =
    let run = c.args.run.now in
    let n = c.loop-entry.entry-index in
    let ts = c.loop-entry.tracks.items in
    let losses = c.loop-entry.losses.items in
    let e = c.entry-item.result in
    let entries = c.loop-entry.invariant.entries in
    let place : c.loop-entry.place + 1 ≡ n + 1 = ap (λ k. k + 1) c.loop-entry.invariant.place in
    let taken : c.follow_entry.new.tracks ≡ with_entry c.deref_mut.result.now e (c.loop-entry.place + 1) = c.in_ok-follow_entry.ensures in
    let pushed : c.push.new.losses.items ≡ with_loss losses c.loss_of_entry.result = c.in_ok-push.ensures in
    let lost : c.loss_of_entry.result ≡ loss_of_entry c.deref.result.now e (c.loop-entry.place + 1) = c.loss_of_entry.ensures in
    let tracks_are : take c.loop-entry.tracks.len (c.follow_entry.new.tracks ++ drop (length c.follow_entry.new.tracks) ts) ≡ with_entry ts e (n + 1) =
    written c.loop-entry.tracks.len c.follow_entry.new.tracks ts
    (ap length taken ∙ length_taken c.deref_mut.result.now e (c.loop-entry.place + 1) ∙ ap length c.deref_mut.ensures.value ∙ sym c.loop-entry.tracks.ok.0)
    (sym c.loop-entry.tracks.ok.0)
    ∙ taken ∙ ap (λ us. with_entry us e (c.loop-entry.place + 1)) c.deref_mut.ensures.value ∙ ap (with_entry ts e) place in
    let losses_are : c.push.new.losses.items ≡ with_loss losses (loss_of_entry ts e (n + 1)) =
    pushed ∙ ap (with_loss losses) (lost ∙ ap (λ us. loss_of_entry us e (c.loop-entry.place + 1)) c.deref.ensures.value ∙ ap (loss_of_entry ts e) place) in
    let within : n < length run.entries = subst (λ es. n < length es) entries c.loop-entry-test.true in
    let read : e ≡ get_or run.entries n e = c.entry-item.is ∙ ap (λ es. get_or es n e) entries in
    let legal = subst (λ es. IsLegal of_world (opening_row run.specs) es) c.entries-entry-items.ensures.entries c.entries-entry-items.ensures.run.legal in
    let passed : IsPassed (at_place run) (last_place run) (n + 1) (with_entry ts e (n + 1)) (with_loss losses (loss_of_entry ts e (n + 1))) =
    passed_entry run n e ts losses legal within read c.loop-entry.invariant.passed in
    record {
      place = place;
      entries = entries;
      passed = subst (λ us. IsPassed (at_place run) (last_place run) (n + 1) us c.push.new.losses.items) (sym tracks_are)
          (subst (λ ls. IsPassed (at_place run) (last_place run) (n + 1) (with_entry ts e (n + 1)) ls) (sym losses_are) passed);
    }

pub push_open-requires-clause-few : goal.push_open-requires-clause-few
push_open-requires-clause-few g c =
    let run = c.args.run.now in
    let last : c.loop-entry.entry-index ≡ last_place run = omega (arith, ap length c.loop-entry.invariant.entries, c.loop-entry-test.false) in
    let passed = subst (λ n. IsPassed (at_place run) (last_place run) n c.loop-entry.tracks.items c.loop-entry.losses.items) last
    c.loop-entry.invariant.passed in
    subst (λ us. length us ≤ MOST_CHANNELS) (sym c.deref-2.ensures.value)
    (few_tracks run c.loop-entry.tracks.items c.loop-entry.losses.items c.entries-entry-items.ensures.run.opens passed)

pub push_open-requires-clause-small : goal.push_open-requires-clause-small
push_open-requires-clause-small g c =
    let run = c.args.run.now in
    let last : c.loop-entry.entry-index ≡ last_place run = omega (arith, ap length c.loop-entry.invariant.entries, c.loop-entry-test.false) in
    let passed = subst (λ n. IsPassed (at_place run) (last_place run) n c.loop-entry.tracks.items c.loop-entry.losses.items) last
    c.loop-entry.invariant.passed in
    subst (λ us. HasFewHandles us) (sym c.deref-2.ensures.value)
    (few_handles run c.loop-entry.tracks.items c.loop-entry.losses.items c.entries-entry-items.ensures.run.opens passed)

pub returns : goal.returns
returns g c =
    let run = c.args.run.now in
    let ts = c.loop-entry.tracks.items in
    let losses = c.loop-entry.losses.items in
    let last : c.loop-entry.entry-index ≡ last_place run = omega (arith, ap length c.loop-entry.invariant.entries, c.loop-entry-test.false) in
    let passed = subst (λ n. IsPassed (at_place run) (last_place run) n ts losses) last c.loop-entry.invariant.passed in
    let pushed : c.push_open.new.losses.items ≡ with_open losses c.deref-2.result.now (length c.deref-2.result.now) = c.in_ok-push_open.ensures in
    let found : c.push_open.new.losses.items ≡ with_open losses ts (length ts) = pushed ∙ ap (λ us. with_open losses us (length us)) c.deref-2.ensures.value in
    are_losses run ts losses c.entries-entry-items.ensures.run.opens passed c.documented.ensures.places c.push_open.new.losses.items
    c.sort_unstable_by_key.new.self.items found
    c.sort_unstable_by_key.ensures.permutation
    (IsNonDecreasingBy-from_sort_by_key order_of _ c.sort_unstable_by_key.ensures.sorted (λ a r q k. search rules))
