-- Whom a call on a watch has told, given its reply: what a caller knows that doesn't see the patch.
use Rattle.std.proofs.Common.{◌≡◌, ℕ, Bool, true, false, cond, length, refl, ◌∙◌}
use Rattle.std.specs.Prelude.{Option, Some, None}
use Rattle.rw_handles.specs.declared.kinds.Kind.{Kind}
use Rattle.rw_handles.specs.declared.kinds.HandleFault.{HandleFault}
use Rattle.rw_handles.specs.declared.kinds.HandleFault.TheVariants.{Unknown, Gone, WrongKind}
use Rattle.rw_handles.specs.declared.kinds.Found.TheVariants.{Handle}
use Rattle.rw_handles.specs.Slots.{lookup, alive}
use Rattle.rw_handles.proofs.Checks.{of_checked}
use Rattle.rw_handles.proofs.SlotLaws.{found_at_is}
use Rattle.rw_watch.specs.declared.calls.WCall.{WCall}
use Rattle.rw_watch.specs.declared.calls.WCall.TheVariants.{Send, Update, HasChanged}
use Rattle.rw_watch.specs.declared.calls.WCall.TheVariants.{Changed, MarkChanged, MarkUnchanged, DropHandle, AwaitClosed}
use Rattle.rw_watch.specs.declared.calls.WReply.{WReply}
use Rattle.rw_watch.specs.declared.calls.WReply.TheVariants.{TooManyHandles}
use Rattle.rw_watch.specs.Channel.{Change, Keep, Mark, Leave, handle_of, wanted_kind, makes, is_unseen}
use Rattle.rw_watch.specs.Channel.{fault_reply, is_closed, has_no_receiver, effect_with}
use Rattle.rw_watch.specs.Shown.{Shown, with_change, patch_for, patch_of_mark, patch_of_drop, next, reply_of}
use Rattle.rw_waiting.specs.declared.notices.WaitFor.{WaitFor}
use Rattle.rw_waiting.specs.Watches.{told_by, told_after, told_after_reply, drops, IsToldByReply, IsToldByReplyAlone}
use Rattle.rw_waiting.specs.Told.{told_by_drop, told_by_counts, counts_of}
use Rattle.rw_waiting.proofs.Dropping.{told_as_counted}
use Rattle.rw_waiting.proofs.Watching.{told_by_patch}

module _ {V : Type 0} (dropped : Shown V → Option WaitFor) (x : Shown V) (call : WCall V) where
  abbrev Says : Change V × WReply V → Type 0
  Says e = told_after_reply (dropped (with_change x e.0)) e.1 ≡ told_after (with_change x e.0) (patch_for x e.0)

  says_fault : (fault : HandleFault) → Says (Keep, fault_reply fault)
  says_fault Unknown = refl
  says_fault Gone = refl
  says_fault WrongKind = refl

  says_if : (b : Bool) (one two : Change V × WReply V) → Says one → Says two → Says (cond b one two)
  says_if true one two first second = first
  says_if false one two first second = second

  -- a reply that tells nobody, with a change that tells nobody
  says_kept : (b : Bool) (one two : WReply V) → Says (Keep, one) → Says (Keep, two) → Says (Keep, cond b one two)
  says_kept true one two first second = first
  says_kept false one two first second = second

  says_mark : (g : ℕ) (from to : Option ℕ) → None ≡ told_after (with_change x (Mark g from to)) (patch_of_mark from)
  says_mark g None to = refl
  says_mark g (Some mark) to = refl

says_drop : {V : Type 0} (y : Shown V) (kind : Kind) (m : Option ℕ) → told_by_drop kind (alive kind y.slots) ≡ told_after y (patch_of_drop kind m)
says_drop y kind None = refl
says_drop y kind (Some mark) = refl

-- of a drop, this says what it told
abbrev AtDrop : {V : Type 0} → (Shown V → Option WaitFor) → Shown V → WCall V → Kind → Option ℕ → Type 0
AtDrop dropped x (DropHandle g) kind m = dropped (with_change x (Leave g kind m)) ≡ told_after (with_change x (Leave g kind m)) (patch_for x (Leave g kind m))
AtDrop dropped x _ kind m = Unit {0}

by_call_says : {V : Type 0} (dropped : Shown V → Option WaitFor) (x : Shown V) (call : WCall V) (kind : Kind) (m : Option ℕ) → AtDrop dropped x call kind m
    → lookup (wanted_kind call) x.slots (handle_of call) ≡ Handle kind m
    → Says dropped x call (effect_with x call kind m)
by_call_says dropped x (Send g v) kind m at is = says_if dropped x (Send g v) (has_no_receiver x) _ _ refl refl
by_call_says dropped x (Update g) kind m at is = says_mark dropped x (Update g) g m (Some x.version)
by_call_says dropped x (HasChanged g) kind m at is = says_kept dropped x (HasChanged g) (is_closed x) _ _ refl refl
by_call_says dropped x (Changed g) kind m at is =
    says_if dropped x (Changed g) (is_unseen x.version m) _ _ (says_mark dropped x (Changed g) g m (Some x.version))
    (says_kept dropped x (Changed g) (is_closed x) _ _ refl refl)
by_call_says dropped x (MarkChanged g) kind m at is = says_mark dropped x (MarkChanged g) g m None
by_call_says dropped x (MarkUnchanged g) kind m at is = says_mark dropped x (MarkUnchanged g) g m (Some x.version)
by_call_says dropped x (DropHandle g) kind m at is = at
by_call_says dropped x (AwaitClosed g) kind m at is = says_kept dropped x (AwaitClosed g) (has_no_receiver x) _ _ refl refl
by_call_says dropped x _ kind m at is = refl

-- the counts before and after it do
abbrev by_counts : {V : Type 0} → Shown V → Shown V → Option WaitFor
by_counts x y = told_by_counts (counts_of x.slots) (counts_of y.slots)

counted : {V : Type 0} (x : Shown V) (call : WCall V) (kind : Kind) (m : Option ℕ) → lookup (wanted_kind call) x.slots (handle_of call) ≡ Handle kind m
    → AtDrop (by_counts x) x call kind m
counted x (DropHandle g) kind m is = told_as_counted x.slots g m kind (found_at_is None _ kind m is) ∙ says_drop (with_change x (Leave g kind m)) kind m
counted x _ kind m is = tt

no_drop : {V : Type 0} (x : Shown V) (call : WCall V) (kind : Kind) (m : Option ℕ) → drops call ≡ false → AtDrop (λ y. None) x call kind m
no_drop x (DropHandle g) kind m is = absurd cc
no_drop x _ kind m is = tt

module _ {V : Type 0} (dropped : Shown V → Option WaitFor) (x : Shown V) (call : WCall V) where
  says_call : ((kind : Kind) (m : Option ℕ) → lookup (wanted_kind call) x.slots (handle_of call) ≡ Handle kind m → AtDrop dropped x call kind m)
      → told_after_reply (dropped (next x call)) (reply_of x call) ≡ told_by x call
  says_call at =
      of_checked (λ e. Says dropped x call e) (λ fault. (Keep, fault_reply fault)) (Keep, TooManyHandles) (makes call) (length x.slots)
      (effect_with x call)
      (lookup (wanted_kind call) x.slots (handle_of call))
      (says_fault dropped x call)
      refl
      (λ kind m is few. by_call_says dropped x call kind m (at kind m is) is)
      ∙ told_by_patch _ x call

pub is_told_by_reply : (V : Type 0) → IsToldByReply V
is_told_by_reply V x call = says_call (by_counts x) x call (λ kind m is. counted x call kind m is)

pub is_told_by_reply_alone : (V : Type 0) → IsToldByReplyAlone V
is_told_by_reply_alone V x call other = says_call (λ y. None) x call (λ kind m is. no_drop x call kind m other)
