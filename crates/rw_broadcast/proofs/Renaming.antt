-- With other numbers of handles, calls have the same replies, but for the numbers.
use Rattle.std.proofs.Common.{◌≡◌, ℕ, ◌+◌, ◌<◌, Bool, true, false, cond, List, length, refl, ap, sym, ◌∙◌, subst, arith}
use Rattle.std.specs.Prelude.{Option, Some, None, nat_lt, nat_le, ◌&&◌, ◌==◌}
use Rattle.std.proofs.lemmas.Bool.{lt-leb}
use Rattle.rw_handles.specs.declared.kinds.Kind.{Kind}
use Rattle.rw_handles.specs.declared.kinds.Kind.TheVariants.{Sender, Receiver, Weak}
use Rattle.rw_handles.specs.declared.kinds.Slot.{Slot}
use Rattle.rw_handles.specs.declared.kinds.Slot.TheVariants.{Live, Spent}
use Rattle.rw_handles.specs.declared.kinds.HandleFault.TheVariants as fault
use Rattle.rw_handles.specs.declared.kinds.Found.{Found}
use Rattle.rw_handles.specs.declared.kinds.Found.TheVariants.{Fault, Handle}
use Rattle.rw_handles.specs.declared.table.TheConstants.{MOST_HANDLES}
use Rattle.rw_handles.specs.Slots.{lookup, lookup_at, alive, is_alive}
use Rattle.rw_handles.specs.Renaming.{IsRenaming}
use Rattle.rw_handles.proofs.Renaming.{keeps_renaming_at_make, keeps_renaming_at_set}
use Rattle.rw_broadcast.specs.declared.calls.BCall.{BCall}
use Rattle.rw_broadcast.specs.declared.calls.BCall.TheVariants.{Send, Subscribe, CloneSender, Resubscribe, TryRecv, Recv, DropHandle}
use Rattle.rw_broadcast.specs.declared.calls.BCall.TheVariants.{SenderLen, ReceiverCount, ReceiverLen, Downgrade, Upgrade, CloneWeak}
use Rattle.rw_broadcast.specs.declared.calls.BReply.{BReply}
use Rattle.rw_broadcast.specs.declared.calls.BReply.TheVariants.{Sent, NoReceivers, Lagged, Empty, Closed, Waits, New, Count, TooManyHandles, NoSender}
use Rattle.rw_broadcast.specs.Arithmetic as number
use Rattle.rw_broadcast.specs.Channel.{Channel, Change, Keep, Append, Make, Move, Leave, receivers, oldest, queued, is_closed, read, receive}
use Rattle.rw_broadcast.specs.Channel.{effect_with, effect_found, effect, handle_of, wanted_kind, makes, send, upgrade, make}
use Rattle.rw_broadcast.specs.Shown.{Shown, channel_of, with_change, next, reply_of}
use Rattle.rw_broadcast.specs.Renaming.{IsRenamed, renamed_call, renamed_reply, RepliesRenamed}
use Rattle.rw_broadcast.proofs.LeastRenamed.{least_renamed}

module _ {V : Type 0} (to : ℕ → ℕ) where
  abbrev renamed_change : Change V → Change V
  renamed_change Keep = Keep
  renamed_change (Append v) = Append v
  renamed_change (Make kind p) = Make kind p
  renamed_change (Move h from onto) = Move (to h) from onto
  renamed_change (Leave h kind p) = Leave (to h) kind p

  abbrev renamed_effect : Change V × BReply V → Change V × BReply V
  renamed_effect e = (renamed_change e.0, renamed_reply to e.1)

  -- a renamed call is of the same sort
  same_wanted : (call : BCall V) → wanted_kind (renamed_call to call) ≡ wanted_kind call
  same_wanted (Send h v) = refl
  same_wanted (Subscribe h) = refl
  same_wanted (CloneSender h) = refl
  same_wanted (Resubscribe h) = refl
  same_wanted (TryRecv h) = refl
  same_wanted (Recv h) = refl
  same_wanted (DropHandle h) = refl
  same_wanted (SenderLen h) = refl
  same_wanted (ReceiverCount h) = refl
  same_wanted (ReceiverLen h) = refl
  same_wanted (Downgrade h) = refl
  same_wanted (Upgrade h) = refl
  same_wanted (CloneWeak h) = refl

  same_makes : (call : BCall V) → makes (renamed_call to call) ≡ makes call
  same_makes (Send h v) = refl
  same_makes (Subscribe h) = refl
  same_makes (CloneSender h) = refl
  same_makes (Resubscribe h) = refl
  same_makes (TryRecv h) = refl
  same_makes (Recv h) = refl
  same_makes (DropHandle h) = refl
  same_makes (SenderLen h) = refl
  same_makes (ReceiverCount h) = refl
  same_makes (ReceiverLen h) = refl
  same_makes (Downgrade h) = refl
  same_makes (Upgrade h) = refl
  same_makes (CloneWeak h) = refl

  other_handle : (call : BCall V) → handle_of (renamed_call to call) ≡ to (handle_of call)
  other_handle (Send h v) = refl
  other_handle (Subscribe h) = refl
  other_handle (CloneSender h) = refl
  other_handle (Resubscribe h) = refl
  other_handle (TryRecv h) = refl
  other_handle (Recv h) = refl
  other_handle (DropHandle h) = refl
  other_handle (SenderLen h) = refl
  other_handle (ReceiverCount h) = refl
  other_handle (ReceiverLen h) = refl
  other_handle (Downgrade h) = refl
  other_handle (Upgrade h) = refl
  other_handle (CloneWeak h) = refl

  -- a call that makes no handle, or one of few, isn't refused for their number
  few_enough : (b : Bool) (n : ℕ) (e f : Change V × BReply V) → (b ≡ true → n < MOST_HANDLES) → cond (b && nat_le MOST_HANDLES n) e f ≡ f
  few_enough true n e f few = ap (λ c. cond c e f) (lt-leb MOST_HANDLES n (few refl))
  few_enough false n e f few = refl

  module _ (x : Shown V) (ys : List (Slot ℕ)) (is : IsRenaming to x.slots ys) where
    abbrev here : Channel V
    here = channel_of x

    abbrev there : Channel V
    there = channel_of (record x { slots = ys })

    same_alive : (kind : Kind) → alive kind ys ≡ alive kind x.slots
    same_alive kind = is.counted (is_alive kind) refl

    next_number : length ys ≡ to (length x.slots)
    next_number =
        let none : length x.slots ≡ length x.slots + 0 = omega arith in
        let after = ap to none ∙ is.onward 0 in
        omega (arith, after)

    change_renamed : (c : Change V) → IsRenamed to (with_change x c) (with_change (record x { slots = ys }) (renamed_change c))
    change_renamed Keep = record { same = refl; renaming = is }
    change_renamed (Append v) = record { same = refl; renaming = is }
    change_renamed (Make kind p) = record { same = refl; renaming = keeps_renaming_at_make ℕ to x.slots ys (Live kind p) is }
    change_renamed (Move h from onto) = record { same = refl; renaming = keeps_renaming_at_set ℕ to x.slots ys h (Live Receiver onto) is }
    change_renamed (Leave h kind p) = record { same = refl; renaming = keeps_renaming_at_set ℕ to x.slots ys h Spent is }

    send_renamed : (v : V) → send there v ≡ renamed_effect (send here v)
    send_renamed v = ap (λ k. cond (k == 0) (Keep, NoReceivers v) (Append v, Sent k)) (same_alive Receiver) ∙ by_test (receivers here == 0) where
      by_test : (b : Bool) → cond b (Keep, NoReceivers v) (Append v, Sent (receivers here))
          ≡ renamed_effect (cond b (Keep, NoReceivers v) (Append v, Sent (receivers here)))
      by_test true = refl
      by_test false = refl

    made_renamed : (kind : Kind) (p : ℕ) → make there kind p ≡ renamed_effect (make here kind p)
    made_renamed kind p = ap (λ k. (Make kind p, New k)) next_number

    upgrade_renamed : upgrade there ≡ renamed_effect (upgrade here)
    upgrade_renamed =
        ap (λ k. cond (k == 0) (Keep, NoSender) (make there Sender 0)) (same_alive Sender)
        ∙ ap (λ e. cond (is_closed here) (Keep, NoSender) e) (made_renamed Sender 0)
        ∙ by_test (is_closed here) where
          by_test : (b : Bool) → cond b (Keep, NoSender) (renamed_effect (make here Sender 0)) ≡ renamed_effect (cond b (Keep, NoSender) (make here Sender 0))
          by_test true = refl
          by_test false = refl

    read_renamed : (h p : ℕ) (o : Option V) (nothing : BReply V) → renamed_reply to nothing ≡ nothing
        → read there (to h) p o nothing ≡ renamed_effect (read here h p o nothing)
    read_renamed h p (Some v) nothing plain = refl
    read_renamed h p None nothing plain = ap (λ k. (Keep, cond (k == 0) Closed nothing)) (same_alive Sender) ∙ by_test (is_closed here) where
      by_test : (b : Bool) → ◌≡◌ {A = Change V × BReply V} (Keep, cond b Closed nothing) (Keep, renamed_reply to (cond b Closed nothing))
      by_test true = refl
      by_test false = ap (λ a. (Keep, a)) (sym plain)

    receive_renamed : (h p : ℕ) (nothing : BReply V) → renamed_reply to nothing ≡ nothing
        → receive there (to h) p nothing ≡ renamed_effect (receive here h p nothing)
    receive_renamed h p nothing plain = by_test (nat_lt 0 (number.lag (oldest here) p)) where
      by_test : (b : Bool) → cond b (Move (to h) p (oldest here), Lagged (number.lag (oldest here) p)) (read there (to h) p (here.value p) nothing)
          ≡ renamed_effect (cond b (Move h p (oldest here), Lagged (number.lag (oldest here) p)) (read here h p (here.value p) nothing))
      by_test true = refl
      by_test false = read_renamed h p (here.value p) nothing plain

    queued_renamed : queued there ≡ queued here
    queued_renamed = ap (number.queued_from x.sent (oldest here)) (least_renamed to x.slots ys is)

    with_renamed : (call : BCall V) (kind : Kind) (p : ℕ) → effect_with there (renamed_call to call) kind p ≡ renamed_effect (effect_with here call kind p)
    with_renamed (Send h v) kind p = send_renamed v
    with_renamed (Subscribe h) kind p = made_renamed Receiver x.sent
    with_renamed (CloneSender h) kind p = made_renamed Sender 0
    with_renamed (Resubscribe h) kind p = made_renamed Receiver x.sent
    with_renamed (TryRecv h) kind p = receive_renamed h p Empty refl
    with_renamed (Recv h) kind p = receive_renamed h p Waits refl
    with_renamed (DropHandle h) kind p = refl
    with_renamed (SenderLen h) kind p = ap (λ k. (Keep, Count k)) queued_renamed
    with_renamed (ReceiverCount h) kind p = ap (λ k. (Keep, Count k)) (same_alive Receiver)
    with_renamed (ReceiverLen h) kind p = refl
    with_renamed (Downgrade h) kind p = made_renamed Weak 0
    with_renamed (Upgrade h) kind p = upgrade_renamed
    with_renamed (CloneWeak h) kind p = made_renamed Weak 0

    -- neither channel has made all the handles that it may make, where the call makes one
    abbrev HasRoomFor : BCall V → Type 0
    HasRoomFor call = makes call ≡ true → (length x.slots < MOST_HANDLES) × (length ys < MOST_HANDLES)

    found_renamed : (call : BCall V) → HasRoomFor call → (f : Found ℕ) → effect_found there (renamed_call to call) f ≡ renamed_effect (effect_found here call f)
    found_renamed call few (Fault fault.Unknown) = refl
    found_renamed call few (Fault fault.Gone) = refl
    found_renamed call few (Fault fault.WrongKind) = refl
    found_renamed call few (Handle kind p) =
        few_enough (makes (renamed_call to call)) (length ys) (Keep, TooManyHandles) (effect_with there (renamed_call to call) kind p)
        (λ one. (few (sym (same_makes call) ∙ one)).1)
        ∙ with_renamed call kind p
        ∙ ap renamed_effect (sym (few_enough (makes call) (length x.slots) (Keep, TooManyHandles) (effect_with here call kind p) (λ one. (few one).0)))

    effect_renamed : (call : BCall V) → HasRoomFor call → effect there (renamed_call to call) ≡ renamed_effect (effect here call)
    effect_renamed call few =
        ap (λ w. effect_found there (renamed_call to call) (lookup w ys (handle_of (renamed_call to call)))) (same_wanted call)
        ∙ ap (λ h. effect_found there (renamed_call to call) (lookup (wanted_kind call) ys h)) (other_handle call)
        ∙ ap (λ o. effect_found there (renamed_call to call) (lookup_at (wanted_kind call) o)) (is.found (handle_of call))
        ∙ found_renamed call few (lookup (wanted_kind call) x.slots (handle_of call))

    abbrev Follows : Shown V → BCall V → Type 0
    Follows y call = (reply_of y (renamed_call to call) ≡ renamed_reply to (reply_of x call)) × IsRenamed to (next x call) (next y (renamed_call to call))

    follows : (call : BCall V) → HasRoomFor call → Follows (record x { slots = ys }) call
    follows call few =
        let same = effect_renamed call few in
        let change = (effect here call).0 in
        (ap (λ e. e.1) same, subst (λ e. IsRenamed to (with_change x change) (with_change (record x { slots = ys }) e.0)) (sym same) (change_renamed change))

pub replies_renamed : (V : Type 0) → RepliesRenamed V
replies_renamed V to x y call is few = subst (λ z. Follows to x y.slots is.renaming z call) (sym is.same) (follows to x y.slots is.renaming call few)
