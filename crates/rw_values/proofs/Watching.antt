-- What is stored beside a watch of numbers is the value of the number that it holds.
use Rattle.std.proofs.Common.{◌≡◌, ℕ, Bool, true, false, cond, [], ◌∷◌, length, refl, ap, ◌∙◌}
use Rattle.std.specs.Prelude.{Option, nat_le, ◌&&◌}
use Rattle.rw_handles.specs.declared.kinds.Kind.{Kind}
use Rattle.rw_handles.specs.declared.kinds.HandleFault.TheVariants as fault
use Rattle.rw_handles.specs.declared.kinds.Found.{Found}
use Rattle.rw_handles.specs.declared.kinds.Found.TheVariants.{Fault, Handle}
use Rattle.rw_handles.specs.declared.table.TheConstants.{MOST_HANDLES}
use Rattle.rw_handles.specs.Slots.{lookup}
use Rattle.rw_watch.specs.declared.calls.WCall.{WCall}
use Rattle.rw_watch.specs.declared.calls.WCall.TheVariants.{Send, SendReplace, Modify, Subscribe, CloneSender, CloneReceiver, Borrow, Update, HasChanged}
use Rattle.rw_watch.specs.declared.calls.WCall.TheVariants.{Changed, MarkChanged, MarkUnchanged, DropHandle, ReceiverCount, IsClosed, AwaitClosed}
use Rattle.rw_watch.specs.declared.calls.WReply.{WReply}
use Rattle.rw_watch.specs.declared.calls.WReply.TheVariants.{Stored, NoReceivers, Closed, Waits, Done, TooManyHandles}
use Rattle.rw_watch.specs.Channel.{Change, Keep, Write, see, is_unseen, is_closed, has_no_receiver}
use Rattle.rw_watch.specs.Channel.{effect_with, effect_found, handle_of, wanted_kind, makes}
use Rattle.rw_watch.specs.Shown.{Shown, with_change, next, reply_of}
use Rattle.rw_values.specs.Watched.{after_send, says_stored, stored_after, stored_after_all, StoresTheLast}

-- a call that sends nothing leaves what is stored, whatever its reply
unsent : {V : Type 0} (v : V) (b : Bool) → after_send v v b ≡ v
unsent v true = refl
unsent v false = refl

module _ {N V : Type 0} (f : N → V) (x : Shown N) where
  -- what is stored after a call with this effect is the value of the number that the watch then holds
  abbrev Agrees : WCall N → Change N × WReply N → Type 0
  Agrees call e = stored_after f call e.1 (f x.value) ≡ f (with_change x e.0).value

  by_send : (h : ℕ) (n : N) (b : Bool) → Agrees (Send h n) (cond b (Keep, NoReceivers n) (Write n true, Stored))
  by_send h n true = refl
  by_send h n false = refl

  by_wait : (h : ℕ) (mark : Option ℕ) (b : Bool) (reply : WReply N) → Agrees (Changed h) (cond b (see x h mark, Done) (Keep, reply))
  by_wait h mark true reply = refl
  by_wait h mark false reply = unsent (f x.value) (says_stored reply)

  by_call : (call : WCall N) (kind : Kind) (mark : Option ℕ) → Agrees call (effect_with x call kind mark)
  by_call (Send h n) kind mark = by_send h n (has_no_receiver x)
  by_call (SendReplace h n) kind mark = refl
  by_call (Modify told h n) kind mark = refl
  by_call (Subscribe h) kind mark = refl
  by_call (CloneSender h) kind mark = refl
  by_call (CloneReceiver h) kind mark = refl
  by_call (Borrow h) kind mark = refl
  by_call (Update h) kind mark = refl
  by_call (HasChanged h) kind mark = unsent (f x.value) (says_stored (effect_with x (HasChanged h) kind mark).1)
  by_call (Changed h) kind mark = by_wait h mark (is_unseen x.version mark) (cond (is_closed x) Closed Waits)
  by_call (MarkChanged h) kind mark = refl
  by_call (MarkUnchanged h) kind mark = refl
  by_call (DropHandle h) kind mark = refl
  by_call (ReceiverCount h) kind mark = refl
  by_call (IsClosed h) kind mark = refl
  by_call (AwaitClosed h) kind mark = unsent (f x.value) (says_stored (effect_with x (AwaitClosed h) kind mark).1)

  by_room : (call : WCall N) (too_many : Bool) (kind : Kind) (mark : Option ℕ)
      → Agrees call (cond too_many (Keep, TooManyHandles) (effect_with x call kind mark))
  by_room call true kind mark = refl
  by_room call false kind mark = by_call call kind mark

  by_found : (call : WCall N) (o : Found (Option ℕ)) → Agrees call (effect_found x call o)
  by_found call (Fault fault.Unknown) = refl
  by_found call (Fault fault.Gone) = refl
  by_found call (Fault fault.WrongKind) = refl
  by_found call (Handle kind mark) = by_room call (makes call && nat_le MOST_HANDLES (length x.slots)) kind mark

  stores_one : (call : WCall N) → stored_after f call (reply_of x call) (f x.value) ≡ f (next x call).value
  stores_one call = by_found call (lookup (wanted_kind call) x.slots (handle_of call))

pub stores_the_last : (N V : Type 0) → StoresTheLast N V
stores_the_last N V f x [] = refl
stores_the_last N V f x (call ∷ calls) =
    ap (stored_after_all f (next x call) calls) (stores_one f x call)
    ∙ stores_the_last N V f (next x call) calls
