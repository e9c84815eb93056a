-- With other numbers of handles, calls have the same replies, but for the numbers.
use Rattle.std.proofs.Common.{◌≡◌, ℕ, ◌+◌, ◌<◌, Bool, true, false, cond, List, length, refl, ap, sym, ◌∙◌, subst, arith}
use Rattle.std.specs.Prelude.{Option, Some, None, nat_le, ◌&&◌, ◌==◌}
use Rattle.std.proofs.lemmas.Bool.{lt-leb}
use Rattle.rw_handles.specs.declared.kinds.Kind.{Kind}
use Rattle.rw_handles.specs.declared.kinds.Kind.TheVariants.{Sender, Receiver}
use Rattle.rw_handles.specs.declared.kinds.Slot.{Slot}
use Rattle.rw_handles.specs.declared.kinds.Slot.TheVariants.{Live, Spent}
use Rattle.rw_handles.specs.declared.kinds.HandleFault.TheVariants as fault
use Rattle.rw_handles.specs.declared.kinds.Found.{Found}
use Rattle.rw_handles.specs.declared.kinds.Found.TheVariants.{Fault, Handle}
use Rattle.rw_handles.specs.declared.table.TheConstants.{MOST_HANDLES}
use Rattle.rw_handles.specs.Slots.{lookup, lookup_at, alive, is_alive}
use Rattle.rw_handles.specs.Renaming.{IsRenaming}
use Rattle.rw_handles.proofs.Renaming.{keeps_renaming_at_make, keeps_renaming_at_set}
use Rattle.rw_watch.specs.declared.calls.WCall.{WCall}
use Rattle.rw_watch.specs.declared.calls.WCall.TheVariants.{Send, SendReplace, Modify, Subscribe, CloneSender, CloneReceiver, Borrow, Update, HasChanged}
use Rattle.rw_watch.specs.declared.calls.WCall.TheVariants.{Changed, MarkChanged, MarkUnchanged, DropHandle, ReceiverCount, IsClosed, AwaitClosed}
use Rattle.rw_watch.specs.declared.calls.WReply.{WReply}
use Rattle.rw_watch.specs.declared.calls.WReply.TheVariants.{Stored, NoReceivers, New, Flag, Closed, Waits, Done, Count, TooManyHandles}
use Rattle.rw_watch.specs.Channel.{Change, Keep, Write, Make, Mark, Leave, has_no_receiver, is_closed, is_unseen}
use Rattle.rw_watch.specs.Channel.{effect_with, effect_found, effect, handle_of, wanted_kind, makes, send, make, see, has_changed, wait_effect, await_closed}
use Rattle.rw_watch.specs.Shown.{Shown, with_change, next, reply_of}
use Rattle.rw_watch.specs.Renaming.{IsRenamed, renamed_call, renamed_reply, RepliesRenamed}

module _ {V : Type 0} (to : ℕ → ℕ) where
  abbrev renamed_change : Change V → Change V
  renamed_change Keep = Keep
  renamed_change (Write v told) = Write v told
  renamed_change (Make kind m) = Make kind m
  renamed_change (Mark h from onto) = Mark (to h) from onto
  renamed_change (Leave h kind m) = Leave (to h) kind m

  abbrev renamed_effect : Change V × WReply V → Change V × WReply V
  renamed_effect e = (renamed_change e.0, renamed_reply to e.1)

  -- a renamed call is of the same sort
  same_wanted : (call : WCall V) → wanted_kind (renamed_call to call) ≡ wanted_kind call
  same_wanted (Send h v) = refl
  same_wanted (SendReplace h v) = refl
  same_wanted (Modify told h v) = refl
  same_wanted (Subscribe h) = refl
  same_wanted (CloneSender h) = refl
  same_wanted (CloneReceiver h) = refl
  same_wanted (Borrow h) = refl
  same_wanted (Update h) = refl
  same_wanted (HasChanged h) = refl
  same_wanted (Changed h) = refl
  same_wanted (MarkChanged h) = refl
  same_wanted (MarkUnchanged h) = refl
  same_wanted (DropHandle h) = refl
  same_wanted (ReceiverCount h) = refl
  same_wanted (IsClosed h) = refl
  same_wanted (AwaitClosed h) = refl

  same_makes : (call : WCall V) → makes (renamed_call to call) ≡ makes call
  same_makes (Send h v) = refl
  same_makes (SendReplace h v) = refl
  same_makes (Modify told h v) = refl
  same_makes (Subscribe h) = refl
  same_makes (CloneSender h) = refl
  same_makes (CloneReceiver h) = refl
  same_makes (Borrow h) = refl
  same_makes (Update h) = refl
  same_makes (HasChanged h) = refl
  same_makes (Changed h) = refl
  same_makes (MarkChanged h) = refl
  same_makes (MarkUnchanged h) = refl
  same_makes (DropHandle h) = refl
  same_makes (ReceiverCount h) = refl
  same_makes (IsClosed h) = refl
  same_makes (AwaitClosed h) = refl

  other_handle : (call : WCall V) → handle_of (renamed_call to call) ≡ to (handle_of call)
  other_handle (Send h v) = refl
  other_handle (SendReplace h v) = refl
  other_handle (Modify told h v) = refl
  other_handle (Subscribe h) = refl
  other_handle (CloneSender h) = refl
  other_handle (CloneReceiver h) = refl
  other_handle (Borrow h) = refl
  other_handle (Update h) = refl
  other_handle (HasChanged h) = refl
  other_handle (Changed h) = refl
  other_handle (MarkChanged h) = refl
  other_handle (MarkUnchanged h) = refl
  other_handle (DropHandle h) = refl
  other_handle (ReceiverCount h) = refl
  other_handle (IsClosed h) = refl
  other_handle (AwaitClosed h) = refl

  -- a call that makes no handle, or one of few, isn't refused for their number
  few_enough : (b : Bool) (n : ℕ) (e f : Change V × WReply V) → (b ≡ true → n < MOST_HANDLES) → cond (b && nat_le MOST_HANDLES n) e f ≡ f
  few_enough true n e f few = ap (λ c. cond c e f) (lt-leb MOST_HANDLES n (few refl))
  few_enough false n e f few = refl

  module _ (x : Shown V) (ys : List (Slot (Option ℕ))) (is : IsRenaming to x.slots ys) where
    abbrev there : Shown V
    there = record x { slots = ys }

    same_alive : (kind : Kind) → alive kind ys ≡ alive kind x.slots
    same_alive kind = is.counted (is_alive kind) refl

    next_number : length ys ≡ to (length x.slots)
    next_number =
        let none : length x.slots ≡ length x.slots + 0 = omega arith in
        let after = ap to none ∙ is.onward 0 in
        omega (arith, after)

    change_renamed : (c : Change V) → IsRenamed to (with_change x c) (with_change there (renamed_change c))
    change_renamed Keep = record { same = refl; renaming = is }
    change_renamed (Write v told) = record { same = refl; renaming = is }
    change_renamed (Make kind m) = record { same = refl; renaming = keeps_renaming_at_make (Option ℕ) to x.slots ys (Live kind m) is }
    change_renamed (Mark h from onto) = record { same = refl; renaming = keeps_renaming_at_set (Option ℕ) to x.slots ys h (Live Receiver onto) is }
    change_renamed (Leave h kind m) = record { same = refl; renaming = keeps_renaming_at_set (Option ℕ) to x.slots ys h Spent is }

    send_renamed : (v : V) → send there v ≡ renamed_effect (send x v)
    send_renamed v = ap (λ k. cond (k == 0) (Keep, NoReceivers v) (Write v true, Stored)) (same_alive Receiver) ∙ by_test (has_no_receiver x) where
      by_test : (b : Bool) → cond b (Keep, NoReceivers v) (Write v true, Stored) ≡ renamed_effect (cond b (Keep, NoReceivers v) (Write v true, Stored))
      by_test true = refl
      by_test false = refl

    made_renamed : (kind : Kind) (m : Option ℕ) → make there kind m ≡ renamed_effect (make x kind m)
    made_renamed kind m = ap (λ k. (Make kind m, New k)) next_number

    -- one of two replies without a number
    either_plain : (b : Bool) (one two : WReply V) → renamed_reply to one ≡ one → renamed_reply to two ≡ two
        → cond b one two ≡ renamed_reply to (cond b one two)
    either_plain true one two first second = sym first
    either_plain false one two first second = sym second

    changed_renamed : (m : Option ℕ) → has_changed there m ≡ renamed_reply to (has_changed x m)
    changed_renamed m =
        ap (λ k. cond (k == 0) Closed (Flag (is_unseen x.version m))) (same_alive Sender)
        ∙ either_plain (is_closed x) Closed (Flag (is_unseen x.version m)) refl refl

    waits_renamed : (h : ℕ) (m : Option ℕ) → wait_effect there (to h) m ≡ renamed_effect (wait_effect x h m)
    waits_renamed h m = by_test (is_unseen x.version m) where
      by_test : (b : Bool) → cond b (see there (to h) m, Done) (Keep, cond (is_closed there) Closed Waits)
          ≡ renamed_effect (cond b (see x h m, Done) (Keep, cond (is_closed x) Closed Waits))
      by_test true = refl
      by_test false = ap (λ k. (Keep, cond (k == 0) Closed Waits)) (same_alive Sender) ∙ ap (λ a. (Keep, a)) (either_plain (is_closed x) Closed Waits refl refl)

    awaits_renamed : await_closed there ≡ renamed_reply to (await_closed x)
    awaits_renamed = ap (λ k. cond (k == 0) Done Waits) (same_alive Receiver) ∙ either_plain (has_no_receiver x) Done Waits refl refl

    with_renamed : (call : WCall V) (kind : Kind) (m : Option ℕ) → effect_with there (renamed_call to call) kind m ≡ renamed_effect (effect_with x call kind m)
    with_renamed (Send h v) kind m = send_renamed v
    with_renamed (SendReplace h v) kind m = refl
    with_renamed (Modify told h v) kind m = refl
    with_renamed (Subscribe h) kind m = made_renamed Receiver (Some x.version)
    with_renamed (CloneSender h) kind m = made_renamed Sender None
    with_renamed (CloneReceiver h) kind m = made_renamed Receiver m
    with_renamed (Borrow h) kind m = refl
    with_renamed (Update h) kind m = refl
    with_renamed (HasChanged h) kind m = ap (λ a. (Keep, a)) (changed_renamed m)
    with_renamed (Changed h) kind m = waits_renamed h m
    with_renamed (MarkChanged h) kind m = refl
    with_renamed (MarkUnchanged h) kind m = refl
    with_renamed (DropHandle h) kind m = refl
    with_renamed (ReceiverCount h) kind m = ap (λ k. (Keep, Count k)) (same_alive Receiver)
    with_renamed (IsClosed h) kind m = ap (λ k. (Keep, Flag (k == 0))) (same_alive Receiver)
    with_renamed (AwaitClosed h) kind m = ap (λ a. (Keep, a)) awaits_renamed

    -- neither channel has made all the handles that it may make, where the call makes one
    abbrev HasRoomFor : WCall V → Type 0
    HasRoomFor call = makes call ≡ true → (length x.slots < MOST_HANDLES) × (length ys < MOST_HANDLES)

    found_renamed : (call : WCall V) → HasRoomFor call → (f : Found (Option ℕ))
        → effect_found there (renamed_call to call) f ≡ renamed_effect (effect_found x call f)
    found_renamed call few (Fault fault.Unknown) = refl
    found_renamed call few (Fault fault.Gone) = refl
    found_renamed call few (Fault fault.WrongKind) = refl
    found_renamed call few (Handle kind m) =
        few_enough (makes (renamed_call to call)) (length ys) (Keep, TooManyHandles) (effect_with there (renamed_call to call) kind m)
        (λ one. (few (sym (same_makes call) ∙ one)).1)
        ∙ with_renamed call kind m
        ∙ ap renamed_effect (sym (few_enough (makes call) (length x.slots) (Keep, TooManyHandles) (effect_with x call kind m) (λ one. (few one).0)))

    effect_renamed : (call : WCall V) → HasRoomFor call → effect there (renamed_call to call) ≡ renamed_effect (effect x call)
    effect_renamed call few =
        ap (λ w. effect_found there (renamed_call to call) (lookup w ys (handle_of (renamed_call to call)))) (same_wanted call)
        ∙ ap (λ h. effect_found there (renamed_call to call) (lookup (wanted_kind call) ys h)) (other_handle call)
        ∙ ap (λ o. effect_found there (renamed_call to call) (lookup_at (wanted_kind call) o)) (is.found (handle_of call))
        ∙ found_renamed call few (lookup (wanted_kind call) x.slots (handle_of call))

    abbrev Follows : Shown V → WCall V → Type 0
    Follows y call = (reply_of y (renamed_call to call) ≡ renamed_reply to (reply_of x call)) × IsRenamed to (next x call) (next y (renamed_call to call))

    follows : (call : WCall V) → HasRoomFor call → Follows there call
    follows call few =
        let same = effect_renamed call few in
        let change = (effect x call).0 in
        (ap (λ e. e.1) same, subst (λ e. IsRenamed to (with_change x change) (with_change there e.0)) (sym same) (change_renamed change))

pub replies_renamed : (V : Type 0) → RepliesRenamed V
replies_renamed V to x y call is few = subst (λ z. Follows to x y.slots is.renaming z call) (sym is.same) (follows to x y.slots is.renaming call few)
