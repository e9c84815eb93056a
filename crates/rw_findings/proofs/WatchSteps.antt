-- What a call of a watch does, in eleven cases.
use Rattle.std.proofs.Common.{◌≡◌, ℕ, ◌+◌, ◌≤◌, Bool, false, cond, length, refl, sym, subst, arith}
use Rattle.std.specs.Prelude.{Option, Some, None, slice_get}
use Rattle.std.proofs.lemmas.Bool.{cond_both}
use Rattle.rw_handles.specs.declared.kinds.Kind.{Kind}
use Rattle.rw_handles.specs.declared.kinds.Kind.TheVariants.{Sender, Receiver, Weak}
use Rattle.rw_handles.specs.declared.kinds.Slot.{Slot}
use Rattle.rw_handles.specs.declared.kinds.Slot.TheVariants.{Live, Spent}
use Rattle.rw_handles.specs.declared.kinds.Found.TheVariants.{Handle}
use Rattle.rw_handles.specs.declared.kinds.HandleFault.{HandleFault}
use Rattle.rw_handles.specs.declared.kinds.HandleFault.TheVariants as fault
use Rattle.rw_handles.specs.Slots.{lookup}
use Rattle.rw_handles.proofs.Checks.{of_checked}
use Rattle.rw_handles.proofs.SlotLaws.{found_at_is, found_at_wanted, All-slice_get}
use Rattle.rw_watch.specs.declared.calls.WCall.{WCall}
use Rattle.rw_watch.specs.declared.calls.WCall.TheVariants.{Send, SendReplace, Modify, Subscribe, CloneSender, CloneReceiver, Borrow, Update, HasChanged}
use Rattle.rw_watch.specs.declared.calls.WCall.TheVariants.{Changed, MarkChanged, MarkUnchanged, DropHandle, ReceiverCount, IsClosed, AwaitClosed}
use Rattle.rw_watch.specs.declared.calls.WReply.{WReply}
use Rattle.rw_watch.specs.declared.calls.WReply.TheVariants as reply
use Rattle.rw_watch.specs.declared.calls.WReply.TheVariants.{New, Value, Done, TooManyHandles}
use Rattle.rw_watch.specs.Channel.{Change, Keep, Write, Make, Mark, Leave, handle_of, wanted_kind, makes, fault_reply}
use Rattle.rw_watch.specs.Channel.{is_closed, is_unseen, has_no_receiver, effect_with, effect}
use Rattle.rw_watch.specs.Shown.{Shown, IsAllowed, IsMark, IsMarked}
use Rattle.rw_world.specs.declared.channels.ChanCall.TheVariants as call_of
use Rattle.rw_world.specs.declared.channels.ChanReply.TheVariants as reply_of
use Rattle.rw_findings.specs.Totals.{is_notified, looks}
use Rattle.rw_findings.specs.WatchTallies.{WatchTally, new_watcher, made_watcher, with_call}

-- the mark is no newer than this version
abbrev pub IsUpTo : ℕ → Option ℕ → Type 0
IsUpTo version mark = (m : ℕ) → mark ≡ Some m → m ≤ version

-- the newest version
newest : (version : ℕ) → IsUpTo version (Some version)
newest version m same = let e : version ≡ m = cc in omega (arith, e)

-- a mark in a slot
up_to : (version : ℕ) (mark : Option ℕ) → IsMark version mark → IsUpTo version mark
up_to version None is m same = absurd cc
up_to version (Some mark) is m same = let e : mark ≡ m = cc in omega (arith, e, is)

-- a handle that is there and no receiver
abbrev pub IsOther : Option (Slot (Option ℕ)) → Type 0
IsOther (Some (Live Sender mark)) = Unit {0}
IsOther (Some (Live Weak mark)) = Unit {0}
IsOther (Some (Live Receiver mark)) = ⊥
IsOther (Some Spent) = ⊥
IsOther None = ⊥

module _ {V : Type 0} where
  -- no receiver is told of a change by this reply, and none looks at the value
  abbrev pub IsSilent : WCall V → WReply V → Type 0
  IsSilent call r = (h : ℕ) → (is_notified h (call_of.W call) (reply_of.W r) ≡ false) × (looks h (call_of.W call) (reply_of.W r) ≡ false)

  -- what a call changes where this is shown, and its reply
  pub data StepsTo (y : Shown V) : WCall V → Change V → WReply V → Type 0 where
    keeps : {call : WCall V} {r : WReply V} → IsSilent call r → ((t : WatchTally) → with_call t call r ≡ t) → StepsTo y call Keep r
    writes : {call : WCall V} {v : V} {told : Bool} {r : WReply V} → IsSilent call r
        → ((t : WatchTally) → with_call t call r ≡ record t { version = cond told (t.version + 1) t.version }) → StepsTo y call (Write v told) r
    makes_receiver : {call : WCall V} {mark : Option ℕ} {n : ℕ} → IsUpTo y.version mark
        → ((t : WatchTally) → made_watcher t call ≡ Some (new_watcher t.version)) → StepsTo y call (Make Receiver mark) (New n)
    makes_other : {call : WCall V} {n : ℕ} → ((t : WatchTally) → made_watcher t call ≡ None) → StepsTo y call (Make Sender None) (New n)
    peeks : {h : ℕ} {v : V} → IsOther (slice_get y.slots h) → StepsTo y (Borrow h) Keep (Value v)
    borrows : {h : ℕ} {from : Option ℕ} {v : V} → slice_get y.slots h ≡ Some (Live Receiver from) → StepsTo y (Borrow h) Keep (Value v)
    updates : {h : ℕ} {from : Option ℕ} {v : V} → slice_get y.slots h ≡ Some (Live Receiver from)
        → StepsTo y (Update h) (Mark h from (Some y.version)) (Value v)
    marks : {h : ℕ} {from : Option ℕ} → slice_get y.slots h ≡ Some (Live Receiver from) → StepsTo y (MarkUnchanged h) (Mark h from (Some y.version)) Done
    changes : {h : ℕ} {from : Option ℕ} → slice_get y.slots h ≡ Some (Live Receiver from) → StepsTo y (Changed h) (Mark h from (Some y.version)) Done
    unmarks : {h : ℕ} {from : Option ℕ} → slice_get y.slots h ≡ Some (Live Receiver from) → StepsTo y (MarkChanged h) (Mark h from None) Done
    leaves : {h : ℕ} {kind : Kind} {mark : Option ℕ} → slice_get y.slots h ≡ Some (Live kind mark) → StepsTo y (DropHandle h) (Leave h kind mark) reply.Dropped

  -- a change and a reply
  abbrev Steps : Shown V → WCall V → Change V × WReply V → Type 0
  Steps y call e = StepsTo y call e.0 e.1

  module _ (y : Shown V) (ok : IsAllowed y) where
    -- each call, with the handle that was found
    steps_with : (call : WCall V) (kind : Kind) (mark : Option ℕ) → lookup (wanted_kind call) y.slots (handle_of call) ≡ Handle kind mark
        → Steps y call (effect_with y call kind mark)
    steps_with (Send h v) kind mark found = cond_both (has_no_receiver y) _ _ (Steps y (Send h v)) (λ _. keeps (λ h. (refl, refl)) (λ t. refl))
        (λ _. writes (λ h. (refl, refl)) (λ t. refl))
    steps_with (SendReplace h v) kind mark found = writes (λ h. (refl, refl)) (λ t. refl)
    steps_with (Modify told h v) kind mark found = writes (λ h. (refl, refl)) (λ t. refl)
    steps_with (Subscribe h) kind mark found = makes_receiver (newest y.version) (λ t. refl)
    steps_with (CloneSender h) kind mark found = makes_other (λ t. refl)
    steps_with (CloneReceiver h) kind mark found =
        makes_receiver (up_to y.version mark (All-slice_get (IsMarked y.version) y.slots h (Live Receiver mark) (found_at_wanted Receiver _ kind mark found)
        ok.marked)) (λ t. refl)
    steps_with (Borrow h) Receiver mark found = borrows (found_at_is None _ Receiver mark found)
    steps_with (Borrow h) Sender mark found = peeks (subst IsOther (sym (found_at_is None _ Sender mark found)) tt)
    steps_with (Borrow h) Weak mark found = peeks (subst IsOther (sym (found_at_is None _ Weak mark found)) tt)
    steps_with (Update h) kind mark found = updates (found_at_wanted Receiver _ kind mark found)
    steps_with (HasChanged h) kind mark found = cond_both (is_closed y) _ _ (λ r. Steps y (HasChanged h) (Keep, r)) (λ _. keeps (λ h. (refl, refl)) (λ t. refl))
        (λ _. keeps (λ h. (refl, refl)) (λ t. refl))
    steps_with (Changed h) kind mark found =
        cond_both (is_unseen y.version mark) _ _ (Steps y (Changed h)) (λ _. changes (found_at_wanted Receiver _ kind mark found))
        (λ _. cond_both (is_closed y) reply.Closed reply.Waits (λ r. Steps y (Changed h) (Keep, r)) (λ _. keeps (λ h. (refl, refl)) (λ t. refl))
        (λ _. keeps (λ h. (refl, refl)) (λ t. refl)))
    steps_with (MarkChanged h) kind mark found = unmarks (found_at_wanted Receiver _ kind mark found)
    steps_with (MarkUnchanged h) kind mark found = marks (found_at_wanted Receiver _ kind mark found)
    steps_with (DropHandle h) kind mark found = leaves (found_at_is None _ kind mark found)
    steps_with (ReceiverCount h) kind mark found = keeps (λ h. (refl, refl)) (λ t. refl)
    steps_with (IsClosed h) kind mark found = keeps (λ h. (refl, refl)) (λ t. refl)
    steps_with (AwaitClosed h) kind mark found = cond_both (has_no_receiver y) Done reply.Waits (λ r. Steps y (AwaitClosed h) (Keep, r))
        (λ _. keeps (λ h. (refl, refl)) (λ t. refl)) (λ _. keeps (λ h. (refl, refl)) (λ t. refl))

    faulty : (call : WCall V) (f : HandleFault) → Steps y call (Keep, fault_reply f)
    faulty call fault.Unknown = keeps (λ h. (refl, refl)) (λ t. unknown t call) where
      unknown : (t : WatchTally) (call : WCall V) → with_call t call reply.Unknown ≡ t
      unknown t (Borrow h) = refl
      unknown t (Update h) = refl
      unknown t (Changed h) = refl
      unknown t (MarkUnchanged h) = refl
      unknown t (DropHandle h) = refl
      unknown t _ = refl
    faulty call fault.Gone = keeps (λ h. (refl, refl)) (λ t. gone t call) where
      gone : (t : WatchTally) (call : WCall V) → with_call t call reply.Gone ≡ t
      gone t (Borrow h) = refl
      gone t (Update h) = refl
      gone t (Changed h) = refl
      gone t (MarkUnchanged h) = refl
      gone t (DropHandle h) = refl
      gone t _ = refl
    faulty call fault.WrongKind = keeps (λ h. (refl, refl)) (λ t. wrong t call) where
      wrong : (t : WatchTally) (call : WCall V) → with_call t call reply.WrongKind ≡ t
      wrong t (Borrow h) = refl
      wrong t (Update h) = refl
      wrong t (Changed h) = refl
      wrong t (MarkUnchanged h) = refl
      wrong t (DropHandle h) = refl
      wrong t _ = refl

    many : (t : WatchTally) (call : WCall V) → with_call t call TooManyHandles ≡ t
    many t (Borrow h) = refl
    many t (Update h) = refl
    many t (Changed h) = refl
    many t (MarkUnchanged h) = refl
    many t (DropHandle h) = refl
    many t _ = refl

    pub steps : (call : WCall V) → StepsTo y call (effect y call).0 (effect y call).1
    steps call =
        of_checked (Steps y call) (λ f. (Keep, fault_reply f)) (Keep, TooManyHandles) (makes call) (length y.slots) (effect_with y call)
        (lookup (wanted_kind call) y.slots (handle_of call))
        (faulty call) (keeps (λ h. (refl, refl)) (λ t. many t call)) (λ kind mark found few. steps_with call kind mark found)
