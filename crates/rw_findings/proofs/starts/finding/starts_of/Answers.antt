-- `starts_of` finds where each loss began.
use Rattle.std.proofs.Common.{◌≡◌, ◌+◌, ◌≤◌, ◌∙◌, ap, arith, get_or, length, refl, subst, sym}
use Rattle.std.proofs.lemmas.Option.{slice_get-get_or}
use Rattle.rw_world.specs.Machines.{of_world}
use Rattle.rw_navigator.specs.Debugger.{StandsAt}
use Rattle.rw_navigator.specs.Places.{shown_at}
use Rattle.rw_findings.specs.Receivers.{AreLastGiven, IsStart}
use Rattle.rw_findings.specs.declared.losses.loss.Loss.{Loss}
use Rattle.rw_findings.specs.declared.losses.loss.LossEnd.TheVariants.{Told}
use Rattle.rw_findings.proofs.ReceiptSteps.{AreFound, found_more, receipts_first}
use Rattle.rw_findings.proofs.StartSteps.{begins_within, is_start, later_from, rises_on}
use Rattle.rw_findings.proofs.starts.finding.starts_of.Goals as goal

-- what is read where the list has no loss
abbrev no_loss : Loss
no_loss = record { channel = 0; receiver = 0; from = 0; lost = 0; end = Told 0 }

pub loop-loss-init : goal.loop-loss-init
loop-loss-init g c =
    let run = c.args.run.now in
    let stands : StandsAt c.in_ok-visitor.visitor run 0 = c.in_ok-visitor.ensures in
    record {
      run = stands.run_is;
      here = stands.place;
      given = subst (AreLastGiven run 0) (sym c.new-given.ensures) (receipts_first run);
      later = λ j loss above here. omega arith;
      found = subst (AreFound (IsStart run) c.args.losses.now 0) (sym c.in_ok-starts.ensures.items) (refl, λ i loss start here there. absurd cc);
      room = c.in_ok-starts.ensures.capacity;
    }

pub follow_to-requires-clause-on : goal.follow_to-requires-clause-on
follow_to-requires-clause-on g c =
    later_from c.args.losses.now c.loop-loss.loss-index c.loop-loss.place no_loss c.loop-loss-test.true c.loop-loss.invariant.later

pub go_on-requires-clause-run : goal.go_on-requires-clause-run
go_on-requires-clause-run g c = c.loop-loss.invariant.run

pub go_on-requires-clause-here : goal.go_on-requires-clause-here
go_on-requires-clause-here g c = c.loop-loss.invariant.here

pub go_on-requires-clause-on : goal.go_on-requires-clause-on
go_on-requires-clause-on g c =
    later_from c.args.losses.now c.loop-loss.loss-index c.loop-loss.place no_loss c.loop-loss-test.true c.loop-loss.invariant.later

pub go_on-requires-clause-inside : goal.go_on-requires-clause-inside
go_on-requires-clause-inside g c = begins_within c.args.run.now c.args.losses.now c.loop-loss.loss-index no_loss c.requires c.loop-loss-test.true

pub loop-loss-preserved : goal.loop-loss-preserved
loop-loss-preserved g c =
    let run = c.args.run.now in
    let losses = c.args.losses.now in
    let i = c.loop-loss.loss-index in
    let loss = get_or losses i no_loss in
    let within = c.loop-loss-test.true in
    let xs = of_world.shown c.state.result.now in
    let went = c.go_on.new.visitor in
    let shown : xs ≡ shown_at run loss.from =
    c.state.ensures.documented ∙ ap (λ r. shown_at r went.place) c.go_on.ensures.run ∙ ap (λ p. shown_at run p) c.go_on.ensures.here in
    record {
      run = c.go_on.ensures.run;
      here = c.go_on.ensures.here;
      given = c.in_ok-follow_to.ensures;
      later = rises_on run losses i no_loss c.requires;
      found = subst (AreFound (IsStart run) losses (i + 1)) (sym c.push_reserved.ensures.items)
          (found_more (IsStart run) losses i c.loop-loss.starts.items loss _ (slice_get-get_or losses i no_loss within)
          (is_start run losses i no_loss c.requires within xs c.position_in-position.result c.follow_to.new.given shown c.position_in-position.ensures
          c.in_ok-follow_to.ensures c.unwrap_or.result c.last_of.result c.unwrap_or.ensures c.last_of.ensures)
          c.loop-loss.invariant.found);
      room = subst (λ n. length losses ≤ n) (sym c.push_reserved.ensures.capacity) c.loop-loss.invariant.room;
    }
