-- A broadcast channel obeys the laws of a machine whose steps can be undone.
use Rattle.std.proofs.Common.{◌≡◌, ℕ, ◌+◌, ◌-◌, ◌<◌, ◌≤◌, Bool, true, false, cond, List, [], ◌∷◌, length, set, refl, ap, ◌∙◌, arith, length-set}
use Rattle.std.specs.Prelude.{Option, Some, None, slice_get, ◌==◌, nat_lt}
use Rattle.std.proofs.lemmas.Bool.{ltb-true, ltb-false}
use Rattle.std.proofs.lemmas.List.{length_push}
use Rattle.std.proofs.lemmas.Option.{slice_get_within}
use Rattle.std.proofs.lemmas.List.Elements.{All-push, All-set, All-weaker}
use Rattle.rw_handles.specs.declared.kinds.Kind.{Kind}
use Rattle.rw_handles.specs.declared.kinds.Kind.TheVariants.{Sender, Receiver, Weak}
use Rattle.rw_handles.specs.declared.kinds.Slot.{Slot}
use Rattle.rw_handles.specs.declared.kinds.Slot.TheVariants.{Live, Spent}
use Rattle.rw_handles.specs.declared.kinds.Found.TheVariants.{Handle}
use Rattle.rw_handles.specs.Slots.{lookup}
use Rattle.rw_handles.specs.declared.table.TheConstants.{MOST_HANDLES}
use Rattle.rw_handles.proofs.Checks.{of_checked}
use Rattle.rw_handles.proofs.SlotLaws.{found_at_is, found_at_wanted, set_back, slice_get-set, live_push, receiver_set, All-slice_get}
use Rattle.rw_law.specs.Laws.{Laws}
use Rattle.rw_law.specs.Outcomes.{IsSound, sound_if, laws_of}
use Rattle.rw_law.proofs.Lists.{push_back}
use Rattle.rw_broadcast.specs.declared.calls.BCall.{BCall}
use Rattle.rw_broadcast.specs.declared.calls.BCall.TheVariants.{Send, Subscribe, CloneSender, Resubscribe, TryRecv, Recv, DropHandle}
use Rattle.rw_broadcast.specs.declared.calls.BCall.TheVariants.{SenderLen, ReceiverCount, ReceiverLen, Downgrade, Upgrade, CloneWeak}
use Rattle.rw_broadcast.specs.declared.calls.BReply.{BReply}
use Rattle.rw_broadcast.specs.declared.calls.BReply.TheVariants.{Sent, Value, Lagged, Empty, Waits, New, Dropped, TooManyHandles}
use Rattle.rw_broadcast.specs.Arithmetic.{lag}
use Rattle.rw_broadcast.specs.Channel.{Change, Keep, Append, Make, Move, Leave, handle_of, wanted_kind, makes}
use Rattle.rw_broadcast.specs.Channel.{fault_reply, is_closed, oldest, receivers, read, receive, effect_with, effect}
use Rattle.rw_broadcast.specs.Shown.{Shown, channel_of, with_change, patch_of_send, outcome_of, outcome, next, reply_of}
use Rattle.rw_broadcast.specs.Shown.{patch_of, back, IsPlaced, IsAllowed, CanUnsend, Fits, weight, refuses, waits, strays}
use Rattle.rw_ring.specs.Windows.{window_after, eviction, window_before, window_before-after, length-window_after}

-- the laws, for one change and reply of a call
abbrev IsRight : {V : Type 0} → Shown V → BCall V → Change V × BReply V → Type 0
IsRight x call e = IsSound IsAllowed weight back Fits refuses x call (outcome_of x e)

-- this slot is under the number of the call's handle
Stands : {V : Type 0} → Shown V → BCall V → Slot ℕ → Type 0
Stands x call slot = slice_get x.slots (handle_of call) ≡ Some slot

right_keep : {V : Type 0} (x : Shown V) (call : BCall V) (reply : BReply V) → IsRight x call (Keep, reply)
right_keep x call reply = record {
  undone = λ _. refl;
  next_allowed = λ ok. ok;
  patch_fits = λ _. tt;
  refused = λ _. refl;
  weight_rises = omega arith;
}

right_make : {V : Type 0} (x : Shown V) (call : BCall V) (kind : Kind) (position : ℕ)
    → IsPlaced x.sent (Live kind position)
    → length x.slots < MOST_HANDLES
    → IsRight x call (Make kind position, New (length x.slots))
right_make x call kind position placed few = record {
  undone = λ _. ap (λ slots. record x { slots = slots }) (push_back x.slots (Live kind position));
  next_allowed = λ ok. record {
    some_capacity = ok.some_capacity;
    small_capacity = ok.small_capacity;
    retained = ok.retained;
    few_slots = omega (arith, length_push x.slots (Live kind position));
    placed = All-push (IsPlaced x.sent) x.slots (Live kind position) ok.placed placed;
  };
  patch_fits = λ _. live_push x.slots kind position;
  refused = λ h. cc;
  weight_rises = omega (arith, length_push x.slots (Live kind position));
}

-- after a write to the call's handle, what is shown is still allowed
set_allowed : {V : Type 0} (x : Shown V) (call : BCall V) (slot : Slot ℕ)
    → (IsAllowed x → IsPlaced x.sent slot)
    → IsAllowed x
    → IsAllowed (record x { slots = set x.slots (handle_of call) slot })
set_allowed x call slot placed ok = record {
  some_capacity = ok.some_capacity;
  small_capacity = ok.small_capacity;
  retained = ok.retained;
  few_slots = omega (arith, ok.few_slots, length-set x.slots (handle_of call) slot);
  placed = All-set (IsPlaced x.sent) x.slots (handle_of call) slot (placed ok) ok.placed;
}

right_move : {V : Type 0} (x : Shown V) (call : BCall V) (from to : ℕ) (reply : BReply V)
    → Stands x call (Live Receiver from)
    → (IsAllowed x → to ≤ x.sent)
    → refuses reply ≡ false
    → IsRight x call (Move (handle_of call) from to, reply)
unfolding Stands
right_move x call from to reply here within served = record {
  undone = λ _. ap (λ slots. record x { slots = slots }) (set_back x.slots (handle_of call) (Live Receiver to) (Live Receiver from) here);
  next_allowed = set_allowed x call (Live Receiver to) within;
  patch_fits = λ ok. (
    receiver_set x.slots (handle_of call) to from here,
    All-slice_get (IsPlaced x.sent) x.slots (handle_of call) (Live Receiver from) here ok.placed,
  );
  refused = λ h. cc;
  weight_rises = omega (arith, length-set x.slots (handle_of call) (Live Receiver to));
}

right_leave : {V : Type 0} (x : Shown V) (call : BCall V) (kind : Kind) (position : ℕ)
    → Stands x call (Live kind position)
    → IsRight x call (Leave (handle_of call) kind position, Dropped)
unfolding Stands
right_leave x call kind position here = record {
  undone = λ _. ap (λ slots. record x { slots = slots }) (set_back x.slots (handle_of call) Spent (Live kind position) here);
  next_allowed = set_allowed x call Spent (λ _. tt);
  patch_fits = λ ok. (
    slice_get-set x.slots (handle_of call) Spent (Live kind position) here,
    All-slice_get (IsPlaced x.sent) x.slots (handle_of call) (Live kind position) here ok.placed,
  );
  refused = λ h. cc;
  weight_rises = omega (arith, length-set x.slots (handle_of call) Spent);
}

placed_more : (n : ℕ) (slot : Slot ℕ) → IsPlaced n slot → IsPlaced (n + 1) slot
placed_more n (Live Receiver position) h = omega arith
placed_more n (Live kind position) h = h
placed_more n Spent h = h

-- undoing a send, by the value that it evicted
back_send : {V : Type 0} (y : Shown V) (call : BCall V) (old : Option V)
    → back y call (patch_of_send old) ≡ record y { sent = y.sent - 1; window = window_before old y.window }
back_send y call None = refl
back_send y call (Some old) = refl

-- the patch of a send fits: it evicted nothing where there was room, and the oldest value where there was none
fits_send : {V : Type 0} (y : Shown V) (call : BCall V) (b : Bool) (w : List V)
    → CanUnsend y
    → (b ≡ true → y.sent ≤ y.capacity)
    → (b ≡ false → (0 < length w) × (y.capacity < y.sent))
    → Fits y call (patch_of_send (cond b None (slice_get w 0)))
fits_send y call true w can room full = (can, room refl)
fits_send y call false [] can room full = absurd (omega (arith, (full refl).0))
fits_send y call false (v ∷ w) can room full = (can, (full refl).1)

right_append : {V : Type 0} (x : Shown V) (call : BCall V) (v : V) (reply : BReply V) → refuses reply ≡ false → IsRight x call (Append v, reply)
right_append x call v reply served =
    let one_less : x.sent + 1 - 1 ≡ x.sent = omega arith in
    let old = eviction x.capacity x.window in
    let y = with_change x (Append v) in
    record {
      undone = λ ok.
          back_send y call old
          ∙ ap (λ n. record x { sent = n; window = window_before old (window_after x.capacity x.window v) }) one_less
          ∙ ap (λ w. record x { window = w }) (window_before-after x.capacity x.window v ok.some_capacity);
      next_allowed = λ ok. record {
        some_capacity = ok.some_capacity;
        small_capacity = ok.small_capacity;
        retained = length-window_after x.capacity x.window v x.sent ok.some_capacity ok.retained;
        few_slots = ok.few_slots;
        placed = All-weaker (IsPlaced x.sent) (IsPlaced (x.sent + 1)) (placed_more x.sent) x.slots ok.placed;
      };
      patch_fits = λ ok.
          let has_room = nat_lt (length x.window) x.capacity in
          fits_send y call has_room x.window
          (record { some_sent = omega arith; placed = rw one_less ok.placed })
          (λ room. omega (arith, ok.retained, ltb-true (length x.window) x.capacity room))
          (λ full. (
            omega (arith, ok.some_capacity, ltb-false (length x.window) x.capacity full),
            omega (arith, ok.retained, ltb-false (length x.window) x.capacity full),
          ));
      refused = λ h. cc;
      weight_rises = omega arith;
    }

right_read : {V : Type 0} (x : Shown V) (call : BCall V) (position : ℕ) (o : Option V) (nothing : BReply V)
    → Stands x call (Live Receiver position)
    → lag (oldest (channel_of x)) position ≡ 0
    → (channel_of x).value position ≡ o
    → IsRight x call (read (channel_of x) (handle_of call) position o nothing)
right_read x call position None nothing here none at = right_keep x call _
right_read x call position (Some v) nothing here none at =
    right_move x call position (position + 1) (Value v) here
    (λ ok. omega (arith, ok.retained, slice_get_within x.window (position - oldest (channel_of x)) v at))
    refl

right_receive : {V : Type 0} (x : Shown V) (call : BCall V) (position : ℕ) (nothing : BReply V)
    → Stands x call (Live Receiver position)
    → IsRight x call (receive (channel_of x) (handle_of call) position nothing)
right_receive x call position nothing here =
    let behind = lag (oldest (channel_of x)) position in
    sound_if IsAllowed weight back Fits refuses (outcome_of x) (nat_lt 0 behind)
    (λ _. right_move x call position (oldest (channel_of x)) (Lagged behind) here (λ _. omega arith) refl)
    (λ none. right_read x call position _ nothing here (omega (arith, ltb-false 0 behind none)) refl)

-- each call, with the handle that was found
right_with : {V : Type 0} (x : Shown V) (call : BCall V) (kind : Kind) (position : ℕ)
    → lookup (wanted_kind call) x.slots (handle_of call) ≡ Handle kind position
    → (makes call ≡ true → length x.slots < MOST_HANDLES)
    → IsRight x call (effect_with (channel_of x) call kind position)
unfolding Stands
right_with x (Send h v) kind position is few =
    sound_if IsAllowed weight back Fits refuses (outcome_of x) (receivers (channel_of x) == 0)
    (λ _. right_keep x _ _)
    (λ _. right_append x _ v (Sent (receivers (channel_of x))) refl)
right_with x (Subscribe h) kind position is few = right_make x _ Receiver x.sent (omega arith) (few refl)
right_with x (CloneSender h) kind position is few = right_make x _ Sender 0 refl (few refl)
right_with x (Resubscribe h) kind position is few = right_make x _ Receiver x.sent (omega arith) (few refl)
right_with x (TryRecv h) kind position is few = right_receive x (TryRecv h) position Empty (found_at_wanted Receiver _ kind position is)
right_with x (Recv h) kind position is few = right_receive x (Recv h) position Waits (found_at_wanted Receiver _ kind position is)
right_with x (DropHandle h) kind position is few = right_leave x (DropHandle h) kind position (found_at_is None _ kind position is)
right_with x (SenderLen h) kind position is few = right_keep x _ _
right_with x (ReceiverCount h) kind position is few = right_keep x _ _
right_with x (ReceiverLen h) kind position is few = right_keep x _ _
right_with x (Downgrade h) kind position is few = right_make x _ Weak 0 refl (few refl)
right_with x (Upgrade h) kind position is few =
    sound_if IsAllowed weight back Fits refuses (outcome_of x) (is_closed (channel_of x))
    (λ _. right_keep x _ _)
    (λ _. right_make x _ Sender 0 refl (few refl))
right_with x (CloneWeak h) kind position is few = right_make x _ Weak 0 refl (few refl)

right : {V : Type 0} (x : Shown V) (call : BCall V) → IsRight x call (effect (channel_of x) call)
right x call =
    of_checked (IsRight x call) (λ fault. (Keep, fault_reply fault)) (Keep, TooManyHandles) (makes call) (length x.slots) (effect_with (channel_of x) call)
    (lookup (wanted_kind call) x.slots (handle_of call))
    (λ fault. right_keep x call _)
    (right_keep x call _)
    (right_with x call)

waiting_refuses : {V : Type 0} (r : BReply V) → waits r ≡ true → refuses r ≡ true
waiting_refuses Waits h = refl
waiting_refuses _ h = cc

pub broadcast_laws : {V : Type 0} → Laws (IsAllowed {V = V}) weight next reply_of patch_of back Fits refuses waits strays
broadcast_laws = laws_of IsAllowed weight back Fits refuses outcome waits strays right waiting_refuses (λ r h. cc)
