-- With the values in place of their names, all calls of a watch reply alike.
use Rattle.std.proofs.Common.{◌≡◌, ℕ, Bool, true, false, cond, [], ◌∷◌, length, map, refl, ap, ◌∙◌}
use Rattle.std.specs.Prelude.{Option, nat_le, ◌&&◌}
use Rattle.rw_handles.specs.declared.kinds.Kind.{Kind}
use Rattle.rw_handles.specs.declared.kinds.HandleFault.TheVariants as fault
use Rattle.rw_handles.specs.declared.kinds.Found.{Found}
use Rattle.rw_handles.specs.declared.kinds.Found.TheVariants.{Fault, Handle}
use Rattle.rw_handles.specs.declared.table.TheConstants.{MOST_HANDLES}
use Rattle.rw_handles.specs.Slots.{lookup}
use Rattle.rw_watch.specs.declared.calls.WCall.{WCall}
use Rattle.rw_watch.specs.declared.calls.WCall.TheVariants.{Send, SendReplace, Modify, Subscribe, CloneSender, CloneReceiver, Borrow, Update, HasChanged}
use Rattle.rw_watch.specs.declared.calls.WCall.TheVariants.{Changed, MarkChanged, MarkUnchanged, DropHandle, ReceiverCount, IsClosed, AwaitClosed}
use Rattle.rw_watch.specs.declared.calls.WReply.{WReply}
use Rattle.rw_watch.specs.declared.calls.WReply.TheVariants.{Stored, NoReceivers, Flag, Closed, Waits, Done, TooManyHandles}
use Rattle.rw_watch.specs.Channel.{Change, Keep, Write, Make, Mark, Leave, see, is_unseen, is_closed, has_no_receiver, wait_effect}
use Rattle.rw_watch.specs.Channel.{effect_with, effect_found, effect, handle_of, wanted_kind, makes}
use Rattle.rw_watch.specs.Laws.{shown_after}
use Rattle.rw_watch.specs.Shown.{Shown, with_change, next, reply_of}
use Rattle.rw_values.specs.NamedWatch.{named, named_call, named_reply, WatchRepliesByName, WatchRepliesByNameThroughout}

module _ {V W : Type 0} (f : V → W) where
  abbrev named_change : Change V → Change W
  named_change Keep = Keep
  named_change (Write v told) = Write (f v) told
  named_change (Make kind mark) = Make kind mark
  named_change (Mark h from to) = Mark h from to
  named_change (Leave h kind mark) = Leave h kind mark

  abbrev named_effect : Change V × WReply V → Change W × WReply W
  named_effect e = (named_change e.0, named_reply f e.1)

  same_wanted : (c : WCall V) → wanted_kind (named_call f c) ≡ wanted_kind c
  same_wanted (Send h v) = refl
  same_wanted (SendReplace h v) = refl
  same_wanted (Modify told h v) = refl
  same_wanted (Subscribe h) = refl
  same_wanted (CloneSender h) = refl
  same_wanted (CloneReceiver h) = refl
  same_wanted (Borrow h) = refl
  same_wanted (Update h) = refl
  same_wanted (HasChanged h) = refl
  same_wanted (Changed h) = refl
  same_wanted (MarkChanged h) = refl
  same_wanted (MarkUnchanged h) = refl
  same_wanted (DropHandle h) = refl
  same_wanted (ReceiverCount h) = refl
  same_wanted (IsClosed h) = refl
  same_wanted (AwaitClosed h) = refl

  same_makes : (c : WCall V) → makes (named_call f c) ≡ makes c
  same_makes (Send h v) = refl
  same_makes (SendReplace h v) = refl
  same_makes (Modify told h v) = refl
  same_makes (Subscribe h) = refl
  same_makes (CloneSender h) = refl
  same_makes (CloneReceiver h) = refl
  same_makes (Borrow h) = refl
  same_makes (Update h) = refl
  same_makes (HasChanged h) = refl
  same_makes (Changed h) = refl
  same_makes (MarkChanged h) = refl
  same_makes (MarkUnchanged h) = refl
  same_makes (DropHandle h) = refl
  same_makes (ReceiverCount h) = refl
  same_makes (IsClosed h) = refl
  same_makes (AwaitClosed h) = refl

  same_handle : (c : WCall V) → handle_of (named_call f c) ≡ handle_of c
  same_handle (Send h v) = refl
  same_handle (SendReplace h v) = refl
  same_handle (Modify told h v) = refl
  same_handle (Subscribe h) = refl
  same_handle (CloneSender h) = refl
  same_handle (CloneReceiver h) = refl
  same_handle (Borrow h) = refl
  same_handle (Update h) = refl
  same_handle (HasChanged h) = refl
  same_handle (Changed h) = refl
  same_handle (MarkChanged h) = refl
  same_handle (MarkUnchanged h) = refl
  same_handle (DropHandle h) = refl
  same_handle (ReceiverCount h) = refl
  same_handle (IsClosed h) = refl
  same_handle (AwaitClosed h) = refl

  by_if : (b : Bool) (one two : Change V × WReply V) → cond b (named_effect one) (named_effect two) ≡ named_effect (cond b one two)
  by_if true one two = refl
  by_if false one two = refl

  by_reply : (b : Bool) (one two : WReply V) → cond b (named_reply f one) (named_reply f two) ≡ named_reply f (cond b one two)
  by_reply true one two = refl
  by_reply false one two = refl

  module _ (x : Shown V) where
    abbrev y : Shown W
    y = named f x

    by_wait : (h : ℕ) (mark : Option ℕ) → wait_effect y h mark ≡ named_effect (wait_effect x h mark)
    by_wait h mark =
        ap (λ r. cond (is_unseen x.version mark) (see y h mark, Done) (Keep, r)) (by_reply (is_closed x) Closed Waits)
        ∙ by_if (is_unseen x.version mark) (see x h mark, Done) (Keep, cond (is_closed x) Closed Waits)

    by_call : (call : WCall V) (kind : Kind) (mark : Option ℕ) → effect_with y (named_call f call) kind mark ≡ named_effect (effect_with x call kind mark)
    by_call (Send h v) kind mark = by_if (has_no_receiver x) (Keep, NoReceivers v) (Write v true, Stored)
    by_call (SendReplace h v) kind mark = refl
    by_call (Modify told h v) kind mark = refl
    by_call (Subscribe h) kind mark = refl
    by_call (CloneSender h) kind mark = refl
    by_call (CloneReceiver h) kind mark = refl
    by_call (Borrow h) kind mark = refl
    by_call (Update h) kind mark = refl
    by_call (HasChanged h) kind mark = ap (λ r. (Keep, r)) (by_reply (is_closed x) Closed (Flag (is_unseen x.version mark)))
    by_call (Changed h) kind mark = by_wait h mark
    by_call (MarkChanged h) kind mark = refl
    by_call (MarkUnchanged h) kind mark = refl
    by_call (DropHandle h) kind mark = refl
    by_call (ReceiverCount h) kind mark = refl
    by_call (IsClosed h) kind mark = refl
    by_call (AwaitClosed h) kind mark = ap (λ r. (Keep, r)) (by_reply (has_no_receiver x) Done Waits)

    by_found : (call : WCall V) (o : Found (Option ℕ)) → effect_found y (named_call f call) o ≡ named_effect (effect_found x call o)
    by_found call (Fault fault.Unknown) = refl
    by_found call (Fault fault.Gone) = refl
    by_found call (Fault fault.WrongKind) = refl
    by_found call (Handle kind mark) =
        ap (λ b. cond (b && nat_le MOST_HANDLES (length x.slots)) (Keep, TooManyHandles) (effect_with y (named_call f call) kind mark)) (same_makes call)
        ∙ ap (λ e. cond (makes call && nat_le MOST_HANDLES (length x.slots)) (Keep, TooManyHandles) e) (by_call call kind mark)
        ∙ by_if (makes call && nat_le MOST_HANDLES (length x.slots)) (Keep, TooManyHandles) (effect_with x call kind mark)

    by_effect : (call : WCall V) → effect y (named_call f call) ≡ named_effect (effect x call)
    by_effect call =
        ap (λ k. effect_found y (named_call f call) (lookup k x.slots (handle_of (named_call f call)))) (same_wanted call)
        ∙ ap (λ h. effect_found y (named_call f call) (lookup (wanted_kind call) x.slots h)) (same_handle call)
        ∙ by_found call (lookup (wanted_kind call) x.slots (handle_of call))

    by_change : (ch : Change V) → with_change y (named_change ch) ≡ named f (with_change x ch)
    by_change Keep = refl
    by_change (Write v told) = refl
    by_change (Make kind mark) = refl
    by_change (Mark h from to) = refl
    by_change (Leave h kind mark) = refl

pub watch_replies_by_name : (V W : Type 0) → WatchRepliesByName V W
watch_replies_by_name V W f x call = (
  ap (λ e. e.1) (by_effect f x call),
  ap (λ e. with_change (named f x) e.0) (by_effect f x call) ∙ by_change f x (effect x call).0,
)

pub watch_replies_by_name_throughout : (V W : Type 0) → WatchRepliesByNameThroughout V W
watch_replies_by_name_throughout V W f x [] call = (watch_replies_by_name V W f x call).0
watch_replies_by_name_throughout V W f x (first ∷ calls) call =
    ap (λ y. reply_of (shown_after y (map (named_call f) calls)) (named_call f call)) (watch_replies_by_name V W f x first).1
    ∙ watch_replies_by_name_throughout V W f (next x first) calls call
