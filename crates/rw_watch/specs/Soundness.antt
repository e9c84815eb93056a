-- A watch channel obeys the laws of a machine whose steps can be undone.
use Rattle.std.proofs.Common.{◌≡◌, ℕ, ◌+◌, ◌-◌, ◌<◌, Bool, true, false, length, set, refl, ap, ◌∙◌, arith, length-set}
use Rattle.std.specs.Prelude.{Option, Some, None, slice_get}
use Rattle.std.proofs.lemmas.List.{length_push}
use Rattle.std.proofs.lemmas.List.Elements.{All-push, All-set, All-weaker}
use Rattle.rw_handles.specs.declared.kinds.Kind.{Kind}
use Rattle.rw_handles.specs.declared.kinds.Kind.TheVariants.{Sender, Receiver}
use Rattle.rw_handles.specs.declared.kinds.Slot.{Slot}
use Rattle.rw_handles.specs.declared.kinds.Slot.TheVariants.{Live, Spent}
use Rattle.rw_handles.specs.declared.kinds.Found.TheVariants.{Handle}
use Rattle.rw_handles.specs.Slots.{lookup, IsReceiver}
use Rattle.rw_handles.specs.declared.table.TheConstants.{MOST_HANDLES}
use Rattle.rw_handles.proofs.Checks.{of_checked}
use Rattle.rw_handles.proofs.SlotLaws.{found_at_is, found_at_wanted, set_back, slice_get-set, live_push, receiver_set, All-slice_get}
use Rattle.rw_law.specs.Laws.{Laws}
use Rattle.rw_law.specs.Outcomes.{IsSound, sound_if, laws_of}
use Rattle.rw_law.proofs.Lists.{push_back}
use Rattle.rw_watch.specs.declared.calls.WCall.{WCall}
use Rattle.rw_watch.specs.declared.calls.WCall.TheVariants.{Send, SendReplace, Modify, Subscribe, CloneSender, CloneReceiver, Borrow, Update, HasChanged}
use Rattle.rw_watch.specs.declared.calls.WCall.TheVariants.{Changed, MarkChanged, MarkUnchanged, DropHandle, ReceiverCount, IsClosed, AwaitClosed}
use Rattle.rw_watch.specs.declared.calls.WReply.{WReply}
use Rattle.rw_watch.specs.declared.calls.WReply.TheVariants.{Stored, Old, Told, New, Value, Waits, Done, Dropped, TooManyHandles}
use Rattle.rw_watch.specs.Channel.{Change, Keep, Write, Make, Mark, Leave, handle_of, wanted_kind}
use Rattle.rw_watch.specs.Channel.{makes, fault_reply, has_no_receiver, is_unseen, effect_with, effect}
use Rattle.rw_watch.specs.Shown.{Shown, with_change, patch_of_mark, patch_of_drop, outcome_of, outcome, next, reply_of}
use Rattle.rw_watch.specs.Shown.{patch_of, back, IsMark, IsMarked, IsAllowed, Fits, weight, refuses, waits, strays}

-- the laws, for one change and reply of a call
abbrev IsRight : {V : Type 0} → Shown V → WCall V → Change V × WReply V → Type 0
IsRight x call e = IsSound IsAllowed weight back Fits refuses x call (outcome_of x e)

-- this slot is under the number of the call's handle
Stands : {V : Type 0} → Shown V → WCall V → Slot (Option ℕ) → Type 0
Stands x call slot = slice_get x.slots (handle_of call) ≡ Some slot

-- in an allowed channel, it is one that can be there
marked_at : {V : Type 0} (x : Shown V) (call : WCall V) (slot : Slot (Option ℕ)) → Stands x call slot → IsAllowed x → IsMarked x.version slot
unfolding Stands
marked_at x call slot here ok = All-slice_get (IsMarked x.version) x.slots (handle_of call) slot here ok.marked

right_keep : {V : Type 0} (x : Shown V) (call : WCall V) (reply : WReply V) → IsRight x call (Keep, reply)
right_keep x call reply = record {
  undone = λ _. refl;
  next_allowed = λ ok. ok;
  patch_fits = λ _. tt;
  refused = λ _. refl;
  weight_rises = omega arith;
}

right_make : {V : Type 0} (x : Shown V) (call : WCall V) (kind : Kind) (mark : Option ℕ)
    → (IsAllowed x → IsMarked x.version (Live kind mark))
    → length x.slots < MOST_HANDLES
    → IsRight x call (Make kind mark, New (length x.slots))
right_make x call kind mark marked few = record {
  undone = λ _. ap (λ slots. record x { slots = slots }) (push_back x.slots (Live kind mark));
  next_allowed = λ ok. record {
    few_slots = omega (arith, length_push x.slots (Live kind mark));
    marked = All-push (IsMarked x.version) x.slots (Live kind mark) ok.marked (marked ok);
  };
  patch_fits = λ _. live_push x.slots kind mark;
  refused = λ h. cc;
  weight_rises = omega (arith, length_push x.slots (Live kind mark));
}

-- after a write to the call's handle, what is shown is still allowed
set_allowed : {V : Type 0} (x : Shown V) (call : WCall V) (slot : Slot (Option ℕ))
    → IsMarked x.version slot
    → IsAllowed x
    → IsAllowed (record x { slots = set x.slots (handle_of call) slot })
set_allowed x call slot marked ok = record {
  few_slots = omega (arith, ok.few_slots, length-set x.slots (handle_of call) slot);
  marked = All-set (IsMarked x.version) x.slots (handle_of call) slot marked ok.marked;
}

-- the patch of a mark and of a drop: undoing it writes back what was under the handle's number
back_mark : {V : Type 0} (y : Shown V) (call : WCall V) (from : Option ℕ)
    → back y call (patch_of_mark from) ≡ record y { slots = set y.slots (handle_of call) (Live Receiver from) }
back_mark y call None = refl
back_mark y call (Some mark) = refl

fits_mark : {V : Type 0} (y : Shown V) (call : WCall V) (from : Option ℕ)
    → IsReceiver (slice_get y.slots (handle_of call))
    → IsMark y.version from
    → Fits y call (patch_of_mark from)
fits_mark y call None here mark = here
fits_mark y call (Some seen) here mark = (here, mark)

back_drop : {V : Type 0} (y : Shown V) (call : WCall V) (kind : Kind) (mark : Option ℕ)
    → back y call (patch_of_drop kind mark) ≡ record y { slots = set y.slots (handle_of call) (Live kind mark) }
back_drop y call kind None = refl
back_drop y call kind (Some seen) = refl

fits_drop : {V : Type 0} (y : Shown V) (call : WCall V) (kind : Kind) (mark : Option ℕ)
    → slice_get y.slots (handle_of call) ≡ Some Spent
    → IsMarked y.version (Live kind mark)
    → Fits y call (patch_of_drop kind mark)
fits_drop y call kind None spent marked = (spent, marked)
fits_drop y call kind (Some seen) spent marked = (spent, marked)

right_mark : {V : Type 0} (x : Shown V) (call : WCall V) (from to : Option ℕ) (reply : WReply V)
    → Stands x call (Live Receiver from)
    → IsMark x.version to
    → refuses reply ≡ false
    → IsRight x call (Mark (handle_of call) from to, reply)
unfolding Stands
right_mark x call from to reply here mark served =
    let y = with_change x (Mark (handle_of call) from to) in
    record {
      undone = λ _.
          back_mark y call from
          ∙ ap (λ slots. record x { slots = slots }) (set_back x.slots (handle_of call) (Live Receiver to) (Live Receiver from) here);
      next_allowed = set_allowed x call (Live Receiver to) mark;
      patch_fits = λ ok. fits_mark y call from (receiver_set x.slots (handle_of call) to from here) (marked_at x call (Live Receiver from) here ok);
      refused = λ h. cc;
      weight_rises = omega (arith, length-set x.slots (handle_of call) (Live Receiver to));
    }

-- a receiver marks the value as seen
right_see : {V : Type 0} (x : Shown V) (call : WCall V) (from : Option ℕ) (reply : WReply V)
    → Stands x call (Live Receiver from)
    → refuses reply ≡ false
    → IsRight x call (Mark (handle_of call) from (Some x.version), reply)
right_see x call from reply here served = right_mark x call from (Some x.version) reply here (omega arith) served

right_leave : {V : Type 0} (x : Shown V) (call : WCall V) (kind : Kind) (mark : Option ℕ)
    → Stands x call (Live kind mark)
    → IsRight x call (Leave (handle_of call) kind mark, Dropped)
unfolding Stands
right_leave x call kind mark here =
    let y = with_change x (Leave (handle_of call) kind mark) in
    record {
      undone = λ _. back_drop y call kind mark ∙ ap (λ slots. record x { slots = slots }) (set_back x.slots (handle_of call) Spent (Live kind mark) here);
      next_allowed = set_allowed x call Spent tt;
      patch_fits = λ ok.
          fits_drop y call kind mark
          (slice_get-set x.slots (handle_of call) Spent (Live kind mark) here)
          (marked_at x call (Live kind mark) here ok);
      refused = λ h. cc;
      weight_rises = omega (arith, length-set x.slots (handle_of call) Spent);
    }

marked_more : (n : ℕ) (slot : Slot (Option ℕ)) → IsMarked n slot → IsMarked (n + 1) slot
marked_more n (Live Sender mark) h = h
marked_more n (Live Receiver None) h = h
marked_more n (Live Receiver (Some mark)) h = omega arith
marked_more n (Live other mark) h = h
marked_more n Spent h = h

right_write : {V : Type 0} (x : Shown V) (call : WCall V) (v : V) (told : Bool) (reply : WReply V)
    → refuses reply ≡ false
    → IsRight x call (Write v told, reply)
right_write x call v true reply served =
    let one_less : x.version + 1 - 1 ≡ x.version = omega arith in
    record {
      undone = λ _. ap (λ n. record x { version = n }) one_less;
      next_allowed = λ ok. record {
        few_slots = ok.few_slots;
        marked = All-weaker (IsMarked x.version) (IsMarked (x.version + 1)) (marked_more x.version) x.slots ok.marked;
      };
      patch_fits = λ ok. record { some_told = omega arith; marked = rw one_less ok.marked };
      refused = λ h. cc;
      weight_rises = omega arith;
    }
right_write x call v false reply served = record {
  undone = λ _. refl;
  next_allowed = λ ok. record { few_slots = ok.few_slots; marked = ok.marked };
  patch_fits = λ _. tt;
  refused = λ h. cc;
  weight_rises = omega arith;
}

-- each call, with the handle that was found
right_with : {V : Type 0} (x : Shown V) (call : WCall V) (kind : Kind) (mark : Option ℕ)
    → lookup (wanted_kind call) x.slots (handle_of call) ≡ Handle kind mark
    → (makes call ≡ true → length x.slots < MOST_HANDLES)
    → IsRight x call (effect_with x call kind mark)
unfolding Stands
right_with x (Send h v) kind mark is few =
    sound_if IsAllowed weight back Fits refuses (outcome_of x) (has_no_receiver x)
    (λ _. right_keep x _ _)
    (λ _. right_write x _ v true Stored refl)
right_with x (SendReplace h v) kind mark is few = right_write x _ v true (Old x.value) refl
right_with x (Modify told h v) kind mark is few = right_write x _ v told (Told told) refl
right_with x (Subscribe h) kind mark is few = right_make x _ Receiver (Some x.version) (λ _. omega arith) (few refl)
right_with x (CloneSender h) kind mark is few = right_make x _ Sender None (λ _. refl) (few refl)
right_with x (CloneReceiver h) kind mark is few =
    right_make x _ Receiver mark
    (marked_at x (CloneReceiver h) (Live Receiver mark) (found_at_wanted Receiver _ kind mark is))
    (few refl)
right_with x (Borrow h) kind mark is few = right_keep x _ _
right_with x (Update h) kind mark is few = right_see x (Update h) mark (Value x.value) (found_at_wanted Receiver _ kind mark is) refl
right_with x (HasChanged h) kind mark is few = right_keep x _ _
right_with x (Changed h) kind mark is few =
    sound_if IsAllowed weight back Fits refuses (outcome_of x) (is_unseen x.version mark)
    (λ _. right_see x (Changed h) mark Done (found_at_wanted Receiver _ kind mark is) refl)
    (λ _. right_keep x _ _)
right_with x (MarkChanged h) kind mark is few = right_mark x (MarkChanged h) mark None Done (found_at_wanted Receiver _ kind mark is) tt refl
right_with x (MarkUnchanged h) kind mark is few = right_see x (MarkUnchanged h) mark Done (found_at_wanted Receiver _ kind mark is) refl
right_with x (DropHandle h) kind mark is few = right_leave x (DropHandle h) kind mark (found_at_is None _ kind mark is)
right_with x (ReceiverCount h) kind mark is few = right_keep x _ _
right_with x (IsClosed h) kind mark is few = right_keep x _ _
right_with x (AwaitClosed h) kind mark is few = right_keep x _ _

right : {V : Type 0} (x : Shown V) (call : WCall V) → IsRight x call (effect x call)
right x call =
    of_checked (IsRight x call) (λ fault. (Keep, fault_reply fault)) (Keep, TooManyHandles) (makes call) (length x.slots) (effect_with x call)
    (lookup (wanted_kind call) x.slots (handle_of call))
    (λ fault. right_keep x call _)
    (right_keep x call _)
    (right_with x call)

waiting_refuses : {V : Type 0} (r : WReply V) → waits r ≡ true → refuses r ≡ true
waiting_refuses Waits h = refl
waiting_refuses _ h = cc

pub watch_laws : {V : Type 0} → Laws {V = Shown V} IsAllowed weight next reply_of patch_of back Fits refuses waits strays
watch_laws = laws_of IsAllowed weight back Fits refuses outcome waits strays right waiting_refuses (λ r h. cc)
