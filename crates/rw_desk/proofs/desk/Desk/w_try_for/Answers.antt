-- `w_try_for` records an update, which ends the wait or not, and then a wait for a change. Before a fault the recorded steps stand.
use Rattle.std.proofs.Common.{Bool, true, false, Some, None, IsErrOf, IsTrue, ◌↔◌, refl, subst, sym, inl, inr}
use Rattle.std.specs.Prelude.{slice_get}
use Rattle.std.specs.Fn.{FnReturnsAt}
use Rattle.rw_watch.specs.declared.calls.WCall.TheVariants.{Update, Changed}
use Rattle.rw_watch.specs.declared.calls.WReply.TheVariants.{Value}
use Rattle.rw_desk.specs.declared.faults.DeskFault.TheVariants.{NoChannel, Waits}
use Rattle.rw_desk.specs.Waiting.{HasChanged, HasLooked, HasTried}
use Rattle.rw_desk.proofs.Errors.{handed_on, other_error, told_on}
use Rattle.rw_desk.proofs.WaitReplies.{answered_there, beside_error, broken_there, no_fault, of_change, of_look, strays_alike}
use Rattle.rw_desk.proofs.desk.Desk.w_try_for.Goals as goal

pub returns-in_err-refused-clause-broken : goal.returns-in_err-refused-clause-broken
returns-in_err-refused-clause-broken g c = beside_error c.from_residual.result _ (inl c.in_err-refused.ensures.answered.refused)

pub returns-in_err-refused-clause-no_channel : goal.returns-in_err-refused-clause-no_channel
returns-in_err-refused-clause-no_channel g c =
    subst (λ there. IsErrOf c.from_residual.result NoChannel ↔ IsTrue there)
    (strays_alike c.args.self.now.specs c.args.receiver.now.channel (Update c.args.receiver.now.number))
    (told_on c.from_residual.result c.in_err-refused.field-0.0 NoChannel _ c.from_residual.ensures.1 c.in_err-refused.ensures.answered.no_channel)

pub returns-in_err-refused-clause-no_wait : goal.returns-in_err-refused-clause-no_wait
returns-in_err-refused-clause-no_wait g c = rw (handed_on c.from_residual.result c.in_err-refused.field-0.0 c.from_residual.ensures.1)
    (other_error c.in_err-refused.field-0.0 Waits c.in_err-refused.ensures.waited)

pub returns-then-f-clause-tried : goal.returns-then-f-clause-tried
returns-then-f-clause-tried g c =
    let told : FnReturnsAt g.F.Fn c.args.f.now c.in-Value.value true = record { shown = _; shows = refl; says = record { met = c.if-f.ensures } } in
    inl (
      c.in-Value.value,
      refl,
      told,
      subst (HasLooked (slice_get c.args.self.now.specs c.args.receiver.now.channel) c.args.receiver.now.channel
          c.args.receiver.now.number c.args.pass.now c.w_wait.new.pass) c.in-Value.is c.in_ok-refused.ensures.answered.receipt,
    )

pub returns-then-f-clause-no_channel : goal.returns-then-f-clause-no_channel
returns-then-f-clause-no_channel g c =
    answered_there c.args.self.now.specs c.args.receiver.now.channel (Update c.args.receiver.now.number) c.in_ok-refused.refused
    c.in_ok-refused.ensures.answered.no_channel (Some (Value c.in-Value.value))

pub returns-in_default : goal.returns-in_default
returns-in_default g c =
    let receipt = c.in_ok-refused.ensures.answered.receipt in
    record {
      tried = elim (of_look (slice_get c.args.self.now.specs c.args.receiver.now.channel) c.args.pass.now c.w_wait.new.pass c.args.receiver.now.channel
          c.args.receiver.now.number c.in_ok-refused.refused receipt) [
            | inl value ↦ absurd (c.in_default.not-Value value.0 value.1)
            | inr refusal ↦ inr (inl (refusal, receipt))
          ];
      broken = tt;
      no_channel = answered_there c.args.self.now.specs c.args.receiver.now.channel (Update c.args.receiver.now.number) c.in_ok-refused.refused
          c.in_ok-refused.ensures.answered.no_channel (Some c.in_ok-refused.refused);
      no_wait = λ h. no_fault (Some c.in_ok-refused.refused) Waits h;
    }

pub returns-in_err-ended-clause-broken : goal.returns-in_err-ended-clause-broken
returns-in_err-ended-clause-broken g c =
    let untrue : FnReturnsAt g.F.Fn c.args.f.now c.in-Value.value false = record { shown = _; shows = refl; says = record { met = c.if-f.ensures } } in
    let looked = subst (HasLooked (slice_get c.args.self.now.specs c.args.receiver.now.channel) c.args.receiver.now.channel c.args.receiver.now.number
    c.args.pass.now c.w_wait.new.pass) c.in-Value.is c.in_ok-refused.ensures.answered.receipt in
    let same = c.in_err-ended.ensures.answered.refused in
    beside_error c.from_residual-in_err-ended.result _
    (inr (
      c.in-Value.value,
      untrue,
      subst (λ p. HasLooked (slice_get c.args.self.now.specs c.args.receiver.now.channel) c.args.receiver.now.channel
          c.args.receiver.now.number c.args.pass.now p (Value c.in-Value.value)) (sym same) looked,
    ))

pub returns-in_err-ended-clause-no_channel : goal.returns-in_err-ended-clause-no_channel
returns-in_err-ended-clause-no_channel g c =
    broken_there c.args.self.now.specs c.args.receiver.now.channel (Update c.args.receiver.now.number) c.in_ok-refused.refused
    c.in_ok-refused.ensures.answered.no_channel (Changed c.args.receiver.now.number) c.in_err-ended.field-0.0 c.from_residual-in_err-ended.result
    c.from_residual-in_err-ended.ensures.1 c.in_err-ended.ensures.answered.no_channel

pub returns-in_err-ended-clause-no_wait : goal.returns-in_err-ended-clause-no_wait
returns-in_err-ended-clause-no_wait g c =
    rw (handed_on c.from_residual-in_err-ended.result c.in_err-ended.field-0.0 c.from_residual-in_err-ended.ensures.1)
    (other_error c.in_err-ended.field-0.0 Waits c.in_err-ended.ensures.waited)

pub returns-in-Done-clause-tried : goal.returns-in-Done-clause-tried
returns-in-Done-clause-tried g c = record {
  value = c.in-Value.value;
  between = c.w_wait.new.pass;
  looked = subst (HasLooked (slice_get c.args.self.now.specs c.args.receiver.now.channel) c.args.receiver.now.channel c.args.receiver.now.number c.args.pass.now
      c.w_wait.new.pass) c.in-Value.is c.in_ok-refused.ensures.answered.receipt;
  untrue = record { shown = _; shows = refl; says = record { met = c.if-f.ensures } };
  changed = subst (HasChanged (slice_get c.args.self.now.specs c.args.receiver.now.channel) c.args.receiver.now.channel c.args.receiver.now.number
      c.w_wait.new.pass c.w_changed.new.pass) c.in-Done.is c.in_ok-ended.ensures.answered.receipt;
}

pub returns-in-Done-clause-no_channel : goal.returns-in-Done-clause-no_channel
returns-in-Done-clause-no_channel g c =
    answered_there c.args.self.now.specs c.args.receiver.now.channel (Update c.args.receiver.now.number) c.in_ok-refused.refused
    c.in_ok-refused.ensures.answered.no_channel None

pub returns-in_default-2 : goal.returns-in_default-2
returns-in_default-2 g c =
    let tells : g.row.V.Denot → Bool → Type 0 = λ v told. FnReturnsAt g.F.Fn c.args.f.now v told in
    let receipt = c.in_ok-ended.ensures.answered.receipt in
    let tried : HasTried tells (slice_get c.args.self.now.specs c.args.receiver.now.channel) c.args.receiver.now.channel c.args.receiver.now.number
    c.args.pass.now c.w_changed.new.pass c.in_ok-ended.ended = record {
      value = c.in-Value.value;
      between = c.w_wait.new.pass;
      looked = subst (HasLooked (slice_get c.args.self.now.specs c.args.receiver.now.channel) c.args.receiver.now.channel c.args.receiver.now.number
          c.args.pass.now c.w_wait.new.pass) c.in-Value.is c.in_ok-refused.ensures.answered.receipt;
      untrue = record { shown = _; shows = refl; says = record { met = c.if-f.ensures } };
      changed = receipt;
    } in
    record {
      tried = elim (of_change (slice_get c.args.self.now.specs c.args.receiver.now.channel) c.w_wait.new.pass c.w_changed.new.pass c.args.receiver.now.channel
          c.args.receiver.now.number c.in_ok-ended.ended receipt) [
            | inl done ↦ absurd (c.in_default-2.not-Done done)
            | inr ended ↦ inr (inr (ended, tried))
          ];
      broken = tt;
      no_channel = answered_there c.args.self.now.specs c.args.receiver.now.channel (Update c.args.receiver.now.number) c.in_ok-refused.refused
          c.in_ok-refused.ensures.answered.no_channel (Some c.in_ok-ended.ended);
      no_wait = λ h. no_fault (Some c.in_ok-ended.ended) Waits h;
    }
