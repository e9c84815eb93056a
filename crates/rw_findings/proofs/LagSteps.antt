-- One call, and a receiver that lags: it stays where it is, is dropped, or is told by how much it lags.
use Rattle.std.proofs.Common.{◌≡◌, ℕ, ◌<◌, ◌≤◌, [], ◌∷◌, ◌++◌, length, set, inl, inr, refl, ap, sym, ◌∙◌, subst, arith}
use Rattle.std.specs.Prelude.{Option, Some, None, nat_le, nat_lt, slice_get}
use Rattle.std.proofs.lemmas.Bool.{cases_eq, cond_both, ltb-false}
use Rattle.rw_handles.specs.declared.kinds.Kind.TheVariants.{Receiver}
use Rattle.rw_handles.specs.declared.kinds.Slot.{Slot}
use Rattle.rw_handles.specs.declared.kinds.Slot.TheVariants.{Live, Spent}
use Rattle.rw_handles.specs.declared.table.TheConstants.{MOST_HANDLES}
use Rattle.rw_handles.specs.Slots.{lookup_at}
use Rattle.rw_handles.proofs.SlotLaws.{slice_get-set}
use Rattle.rw_broadcast.specs.declared.calls.BCall.{BCall}
use Rattle.rw_broadcast.specs.declared.calls.BCall.TheVariants.{Send, Subscribe, CloneSender, Resubscribe, TryRecv, Recv, DropHandle, SenderLen}
use Rattle.rw_broadcast.specs.declared.calls.BCall.TheVariants.{ReceiverCount, ReceiverLen, Downgrade, Upgrade, CloneWeak}
use Rattle.rw_broadcast.specs.declared.calls.BReply.{BReply}
use Rattle.rw_broadcast.specs.declared.calls.BReply.TheVariants.{Empty, Lagged, New, Waits}
use Rattle.rw_broadcast.specs.Channel.{Change, Keep, Append, Make, Move, Leave, handle_of, oldest, effect, effect_found, receive, wanted_kind}
use Rattle.rw_broadcast.specs.Machine.{position_at}
use Rattle.rw_broadcast.specs.Shown.{Shown, channel_of, with_change}
use Rattle.rw_findings.specs.Totals.{receiver_in}
use Rattle.rw_findings.proofs.HandleSteps.{IsKept, grows, own}
use Rattle.rw_findings.proofs.LossSteps.{get-push_before, lag, position}

module _ {V : Type 0} where
  -- a change sends nothing back
  pub sends_on : (x : Shown V) (e : Change V) → (x.sent ≤ (with_change x e).sent) × ((with_change x e).capacity ≡ x.capacity)
  sends_on x Keep = (omega arith, refl)
  sends_on x (Append v) = (omega arith, refl)
  sends_on x (Make kind p) = (omega arith, refl)
  sends_on x (Move h from to) = (omega arith, refl)
  sends_on x (Leave h kind p) = (omega arith, refl)

  -- what a call does to a receiver that lags
  pub data Leads (x y : Shown V) (h p : ℕ) (call : BCall V) (reply : BReply V) : Type 0 where
    stays : position y h ≡ Some p → Leads x y h p call reply
    leaves : position y h ≡ None → Leads x y h p call reply
    told : receiver_in call ≡ Some h → reply ≡ Lagged (lag x p) → position y h ≡ Some (oldest (channel_of x)) → y.sent ≡ x.sent → Leads x y h p call reply

  module _ (x : Shown V) (h p : ℕ) (here : slice_get x.slots h ≡ Some (Live Receiver p)) (lags : 0 < lag x p) where
    abbrev LeadsTo : BCall V → Change V × BReply V → Type 0
    LeadsTo call e = Leads x (with_change x e.0) h p call e.1

    at : position x h ≡ Some p
    at = ap position_at here

    made : (call : BCall V) (slot : Slot ℕ) (reply : BReply V) → Leads x (record x { slots = x.slots ++ slot ∷ [] }) h p call reply
    made call slot reply = stays (ap position_at (get-push_before x.slots h slot (Live Receiver p) here))

    is_told : (g : ℕ) (call : BCall V) → g ≡ h → receiver_in call ≡ Some g → LeadsTo call (Move g p (oldest (channel_of x)), Lagged (lag x p))
    is_told g call same who =
        let slot : Slot ℕ = Live Receiver (oldest (channel_of x)) in
        told (who ∙ ap Some same) refl
        (ap (λ k. position_at (slice_get (set x.slots k slot) h)) same ∙ ap position_at (slice_get-set x.slots h slot (Live Receiver p) here)) refl

    receives_told : (g : ℕ) (call : BCall V) (nothing : BReply V) → g ≡ h → receiver_in call ≡ Some g → LeadsTo call (receive (channel_of x) g p nothing)
    receives_told g call nothing same who =
        cond_both (nat_lt 0 (lag x p)) _ _ (λ (e : Change V × BReply V). LeadsTo call e) (λ _. is_told g call same who)
        (λ none. absurd (omega (arith, ltb-false 0 (lag x p) none, lags)))

    is_left : (g : ℕ) → g ≡ h → position_at (slice_get (set x.slots g Spent) h) ≡ None
    is_left g same = ap (λ k. position_at (slice_get (set x.slots k Spent) h)) same ∙ ap position_at (slice_get-set x.slots h Spent (Live Receiver p) here)

    -- a call with it
    own_call : (call : BCall V) → handle_of call ≡ h
        → LeadsTo call (effect_found (channel_of x) call (lookup_at (wanted_kind call) (Some (Live Receiver p))))
    own_call (Send g v) same = stays at
    own_call (Subscribe g) same = stays at
    own_call (CloneSender g) same = stays at
    own_call (Resubscribe g) same =
        cond_both (nat_le MOST_HANDLES (length x.slots)) _ _ (λ (e : Change V × BReply V). LeadsTo (Resubscribe g) e) (λ _. stays at)
        (λ _. made (Resubscribe g) (Live Receiver x.sent) (New (length x.slots)))
    own_call (TryRecv g) same = receives_told g (TryRecv g) Empty same refl
    own_call (Recv g) same = receives_told g (Recv g) Waits same refl
    own_call (DropHandle g) same = leaves (is_left g same)
    own_call (SenderLen g) same = stays at
    own_call (ReceiverCount g) same = stays at
    own_call (ReceiverLen g) same = stays at
    own_call (Downgrade g) same = stays at
    own_call (Upgrade g) same = stays at
    own_call (CloneWeak g) same = stays at

    kept : (y : Shown V) (call : BCall V) (reply : BReply V) → IsKept (slice_get x.slots h) (slice_get y.slots h) → Leads x y h p call reply
    kept y call reply (inl none) = let e : ◌≡◌ {A = Option (Slot ℕ)} None (Some (Live Receiver p)) = sym none ∙ here in absurd cc
    kept y call reply (inr same) = stays (ap position_at same ∙ at)

    pub leads : (call : BCall V) → LeadsTo call (effect (channel_of x) call)
    leads call =
        elim (cases_eq h (handle_of call)) [
          | inl same ↦ subst (λ o. LeadsTo call (effect_found (channel_of x) call (lookup_at (wanted_kind call) o)))
              (sym (ap (λ k. slice_get x.slots k) (sym same) ∙ here)) (own_call call (sym same))
          | inr apart ↦ kept (with_change x (effect (channel_of x) call).0) call (effect (channel_of x) call).1
              (grows x (effect (channel_of x) call).0 (handle_of call) h (own (channel_of x) call) apart).2
        ]
