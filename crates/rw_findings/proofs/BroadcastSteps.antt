-- What a call of a broadcast does, in six cases.
use Rattle.std.proofs.Common.{◌≡◌, ℕ, ◌+◌, ◌-◌, ◌<◌, length, refl, arith}
use Rattle.std.specs.Prelude.{Option, Some, None, slice_get, nat_lt, ◌==◌, ⊤}
use Rattle.std.proofs.lemmas.Bool.{ltb-true, ltb-false, cond_both}
use Rattle.std.proofs.lemmas.Option.{slice_get_within}
use Rattle.rw_handles.specs.declared.kinds.Kind.{Kind}
use Rattle.rw_handles.specs.declared.kinds.Kind.TheVariants.{Receiver}
use Rattle.rw_handles.specs.declared.kinds.Slot.TheVariants.{Live}
use Rattle.rw_handles.specs.declared.kinds.Found.TheVariants.{Handle}
use Rattle.rw_handles.specs.declared.kinds.HandleFault.{HandleFault}
use Rattle.rw_handles.specs.declared.kinds.HandleFault.TheVariants as fault
use Rattle.rw_handles.specs.Slots.{lookup}
use Rattle.rw_handles.proofs.Checks.{of_checked}
use Rattle.rw_handles.proofs.SlotLaws.{found_at_is, found_at_wanted}
use Rattle.rw_broadcast.specs.declared.calls.BCall.{BCall}
use Rattle.rw_broadcast.specs.declared.calls.BCall.TheVariants.{Send, Subscribe, CloneSender, Resubscribe, TryRecv, Recv, DropHandle, SenderLen}
use Rattle.rw_broadcast.specs.declared.calls.BCall.TheVariants.{ReceiverCount, ReceiverLen, Downgrade, Upgrade, CloneWeak}
use Rattle.rw_broadcast.specs.declared.calls.BReply.{BReply}
use Rattle.rw_broadcast.specs.declared.calls.BReply.TheVariants.{Sent, Value, Lagged, Empty, Waits, New, TooManyHandles}
use Rattle.rw_broadcast.specs.declared.calls.BReply.TheVariants as reply
use Rattle.rw_broadcast.specs.Channel.{Change, Keep, Append, Make, Move, Leave, handle_of, wanted_kind, makes, fault_reply}
use Rattle.rw_broadcast.specs.Channel.{is_closed, oldest, receivers, read, receive, effect_with, effect}
use Rattle.rw_broadcast.specs.Shown.{Shown, channel_of, IsAllowed}
use Rattle.rw_findings.specs.LossTracks.{subject}
use Rattle.rw_findings.specs.Totals.{receiver_in}
use Rattle.rw_findings.specs.BroadcastTallies.{BroadcastTally, new_reader, made_reader}
use Rattle.rw_findings.proofs.LossSteps.{position_of, lag}

module _ {V : Type 0} where
  -- the reply is that of a call that changes nothing
  abbrev pub IsQuiet : BReply V → Type 0
  IsQuiet (Sent n) = ⊥
  IsQuiet (Value v) = ⊥
  IsQuiet (Lagged n) = ⊥
  IsQuiet (New h) = ⊥
  IsQuiet reply.Dropped = ⊥
  IsQuiet _ = ⊤

  -- the call receives with handle h
  pub record IsOf (call : BCall V) (h : ℕ) : Type 0 where
    pub subject : subject call ≡ Some h
    pub receiver : receiver_in call ≡ Some h

  -- what a call changes where this is shown, and its reply
  pub data StepsTo (x : Shown V) : BCall V → Change V → BReply V → Type 0 where
    keeps : {call : BCall V} {reply : BReply V} → IsQuiet reply → StepsTo x call Keep reply
    sends : {call : BCall V} {v : V} {n : ℕ} → StepsTo x call (Append v) (Sent n)
    makes_receiver : {call : BCall V} {n : ℕ} → ((t : BroadcastTally) → made_reader t call ≡ Some (new_reader t.sent))
        → StepsTo x call (Make Receiver x.sent) (New n)
    makes_other : {call : BCall V} {kind : Kind} {n : ℕ} → position_of (Live kind 0) ≡ None → ((t : BroadcastTally) → made_reader t call ≡ None)
        → StepsTo x call (Make kind 0) (New n)
    reads : {call : BCall V} {h p : ℕ} {v : V} → IsOf call h → slice_get x.slots h ≡ Some (Live Receiver p) → lag x p ≡ 0 → p < x.sent
        → StepsTo x call (Move h p (p + 1)) (Value v)
    tells : {call : BCall V} {h p n : ℕ} → IsOf call h → slice_get x.slots h ≡ Some (Live Receiver p) → 0 < lag x p
        → StepsTo x call (Move h p (oldest (channel_of x))) (Lagged n)
    leaves : {call : BCall V} {h : ℕ} {kind : Kind} {p : ℕ} → subject call ≡ Some h → slice_get x.slots h ≡ Some (Live kind p)
        → StepsTo x call (Leave h kind p) reply.Dropped

  -- a change and a reply
  abbrev Steps : Shown V → BCall V → Change V × BReply V → Type 0
  Steps x call e = StepsTo x call e.0 e.1

  module _ (x : Shown V) (ok : IsAllowed x) where
    reads_or_not : (call : BCall V) (h p : ℕ) (o : Option V) (nothing : BReply V) → IsOf call h → slice_get x.slots h ≡ Some (Live Receiver p) → lag x p ≡ 0
        → (channel_of x).value p ≡ o → IsQuiet nothing
        → Steps x call (read (channel_of x) h p o nothing)
    reads_or_not call h p None nothing who here none at quiet =
        cond_both (is_closed (channel_of x)) reply.Closed nothing (λ r. Steps x call (Keep, r)) (λ _. keeps tt) (λ _. keeps quiet)
    reads_or_not call h p (Some v) nothing who here none at quiet =
        let within : p - oldest (channel_of x) < length x.window = slice_get_within x.window (p - oldest (channel_of x)) v at in
        reads who here none (omega (arith, ok.retained))

    receives : (call : BCall V) (h p : ℕ) (nothing : BReply V) → IsOf call h → slice_get x.slots h ≡ Some (Live Receiver p) → IsQuiet nothing
        → Steps x call (receive (channel_of x) h p nothing)
    receives call h p nothing who here quiet =
        cond_both (nat_lt 0 (lag x p)) _ _ (Steps x call)
        (λ lags. tells who here (ltb-true 0 (lag x p) lags))
        (λ none. let none_is : lag x p ≡ 0 = omega (arith, ltb-false 0 (lag x p) none) in
        reads_or_not call h p ((channel_of x).value p) nothing who here none_is refl quiet)

    -- each call, with the handle that was found
    steps_with : (call : BCall V) (kind : Kind) (p : ℕ) → lookup (wanted_kind call) x.slots (handle_of call) ≡ Handle kind p
        → Steps x call (effect_with (channel_of x) call kind p)
    steps_with (Send h v) kind p found = cond_both (receivers (channel_of x) == 0) _ _ (Steps x (Send h v)) (λ _. keeps tt) (λ _. sends)
    steps_with (Subscribe h) kind p found = makes_receiver (λ t. refl)
    steps_with (CloneSender h) kind p found = makes_other refl (λ t. refl)
    steps_with (Resubscribe h) kind p found = makes_receiver (λ t. refl)
    steps_with (TryRecv h) kind p found = receives (TryRecv h) h p Empty (record { subject = refl; receiver = refl }) (found_at_wanted Receiver _ kind p found)
        tt
    steps_with (Recv h) kind p found = receives (Recv h) h p Waits (record { subject = refl; receiver = refl }) (found_at_wanted Receiver _ kind p found) tt
    steps_with (DropHandle h) kind p found = leaves refl (found_at_is None _ kind p found)
    steps_with (SenderLen h) kind p found = keeps tt
    steps_with (ReceiverCount h) kind p found = keeps tt
    steps_with (ReceiverLen h) kind p found = keeps tt
    steps_with (Downgrade h) kind p found = makes_other refl (λ t. refl)
    steps_with (Upgrade h) kind p found = cond_both (is_closed (channel_of x)) _ _ (Steps x (Upgrade h)) (λ _. keeps tt) (λ _. makes_other refl (λ t. refl))
    steps_with (CloneWeak h) kind p found = makes_other refl (λ t. refl)

    faulty : (call : BCall V) (f : HandleFault) → Steps x call (Keep, fault_reply f)
    faulty call fault.Unknown = keeps tt
    faulty call fault.Gone = keeps tt
    faulty call fault.WrongKind = keeps tt

    pub steps : (call : BCall V) → StepsTo x call (effect (channel_of x) call).0 (effect (channel_of x) call).1
    steps call =
        of_checked (Steps x call) (λ f. (Keep, fault_reply f)) (Keep, TooManyHandles) (makes call) (length x.slots) (effect_with (channel_of x) call)
        (lookup (wanted_kind call) x.slots (handle_of call))
        (faulty call) (keeps tt) (λ kind p found few. steps_with call kind p found)
