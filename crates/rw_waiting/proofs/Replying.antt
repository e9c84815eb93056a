-- Whom a call on a broadcast has told, given its reply: what a caller knows that doesn't see the patch.
use Rattle.std.proofs.Common.{◌≡◌, ℕ, Bool, true, false, cond, refl, ap, ◌∙◌}
use Rattle.std.specs.Prelude.{Option, Some, None, nat_lt, length, ◌==◌}
use Rattle.rw_handles.specs.declared.kinds.Kind.{Kind}
use Rattle.rw_handles.specs.declared.kinds.HandleFault.{HandleFault}
use Rattle.rw_handles.specs.declared.kinds.HandleFault.TheVariants.{Unknown, Gone, WrongKind}
use Rattle.rw_handles.specs.declared.kinds.Found.TheVariants.{Handle}
use Rattle.rw_handles.specs.Slots.{lookup}
use Rattle.rw_handles.proofs.Checks.{of_checked}
use Rattle.rw_handles.proofs.SlotLaws.{found_at_is}
use Rattle.rw_broadcast.specs.declared.calls.BCall.{BCall}
use Rattle.rw_broadcast.specs.declared.calls.BCall.TheVariants.{Send, TryRecv, Recv, DropHandle}
use Rattle.rw_broadcast.specs.declared.calls.BCall.TheVariants.{Upgrade}
use Rattle.rw_broadcast.specs.declared.calls.BReply.{BReply}
use Rattle.rw_broadcast.specs.declared.calls.BReply.TheVariants.{Sent, Empty, Closed, Waits, TooManyHandles}
use Rattle.rw_broadcast.specs.Arithmetic.{lag}
use Rattle.rw_broadcast.specs.Channel.{Change, Keep, Append, Leave, handle_of, wanted_kind, makes}
use Rattle.rw_broadcast.specs.Channel.{fault_reply, is_closed, oldest, receivers, read, receive, effect_with}
use Rattle.rw_broadcast.specs.Shown.{Shown, channel_of, with_change, patch_for, patch_of_send, next, reply_of}
use Rattle.rw_ring.specs.Windows.{eviction}
use Rattle.rw_waiting.specs.declared.notices.WaitFor.{WaitFor}
use Rattle.rw_waiting.specs.declared.notices.WaitFor.TheVariants as wait
use Rattle.rw_waiting.specs.Broadcasts.{told_by, told_after, told_after_reply, drops, IsToldByReply, IsToldByReplyAlone}
use Rattle.rw_waiting.specs.Told.{told_by_counts, counts_of}
use Rattle.rw_waiting.proofs.Dropping.{told_as_counted}
use Rattle.rw_waiting.proofs.Receiving.{told_by_patch}

module _ {V : Type 0} (dropped : Shown V → Option WaitFor) (x : Shown V) (call : BCall V) where
  abbrev Says : Change V × BReply V → Type 0
  Says e = told_after_reply (dropped (with_change x e.0)) e.1 ≡ told_after (with_change x e.0) (patch_for x e.0)

  says_fault : (fault : HandleFault) → Says (Keep, fault_reply fault)
  says_fault Unknown = refl
  says_fault Gone = refl
  says_fault WrongKind = refl

  says_if : (b : Bool) (one two : Change V × BReply V) → Says one → Says two → Says (cond b one two)
  says_if true one two first second = first
  says_if false one two first second = second

  says_sent : (v : V) (n : ℕ) (o : Option V) → o ≡ eviction x.capacity x.window → Says (Append v, Sent n)
  says_sent v n o is = by_evicted o ∙ ap (λ e. told_after (with_change x (Append v)) (patch_of_send e)) is where
    by_evicted : (e : Option V) → Some wait.Value ≡ told_after (with_change x (Append v)) (patch_of_send e)
    by_evicted None = refl
    by_evicted (Some old) = refl

  says_closed : (b : Bool) (nothing : BReply V) → Says (Keep, nothing) → Says (Keep, cond b Closed nothing)
  says_closed true nothing quiet = refl
  says_closed false nothing quiet = quiet

  says_read : (h p : ℕ) (o : Option V) (nothing : BReply V) → Says (Keep, nothing) → Says (read (channel_of x) h p o nothing)
  says_read h p (Some v) nothing quiet = refl
  says_read h p None nothing quiet = says_closed (is_closed (channel_of x)) nothing quiet

  says_receive : (h p : ℕ) (nothing : BReply V) → Says (Keep, nothing) → Says (receive (channel_of x) h p nothing)
  says_receive h p nothing quiet =
      says_if (nat_lt 0 (lag (oldest (channel_of x)) p)) _ _ refl (says_read h p ((channel_of x).value p) nothing quiet)

-- of a drop, this says what it told
abbrev AtDrop : {V : Type 0} → (Shown V → Option WaitFor) → Shown V → BCall V → Kind → ℕ → Type 0
AtDrop dropped x (DropHandle g) kind p = dropped (with_change x (Leave g kind p)) ≡ told_after (with_change x (Leave g kind p)) (patch_for x (Leave g kind p))
AtDrop dropped x _ kind p = Unit {0}

by_call_says : {V : Type 0} (dropped : Shown V → Option WaitFor) (x : Shown V) (call : BCall V) (kind : Kind) (p : ℕ) → AtDrop dropped x call kind p
    → lookup (wanted_kind call) x.slots (handle_of call) ≡ Handle kind p
    → Says dropped x call (effect_with (channel_of x) call kind p)
by_call_says dropped x (Send g v) kind p at is =
    says_if dropped x (Send g v) (receivers (channel_of x) == 0) _ _ refl (says_sent dropped x (Send g v) v (receivers (channel_of x)) _ refl)
by_call_says dropped x (TryRecv g) kind p at is = says_receive dropped x (TryRecv g) g p Empty refl
by_call_says dropped x (Recv g) kind p at is = says_receive dropped x (Recv g) g p Waits refl
by_call_says dropped x (DropHandle g) kind p at is = at
by_call_says dropped x (Upgrade g) kind p at is = says_if dropped x (Upgrade g) (is_closed (channel_of x)) _ _ refl refl
by_call_says dropped x _ kind p at is = refl

-- the counts before and after it do
abbrev by_counts : {V : Type 0} → Shown V → Shown V → Option WaitFor
by_counts x y = told_by_counts (counts_of x.slots) (counts_of y.slots)

counted : {V : Type 0} (x : Shown V) (call : BCall V) (kind : Kind) (p : ℕ) → lookup (wanted_kind call) x.slots (handle_of call) ≡ Handle kind p
    → AtDrop (by_counts x) x call kind p
counted x (DropHandle g) kind p is = told_as_counted x.slots g p kind (found_at_is None _ kind p is)
counted x _ kind p is = tt

no_drop : {V : Type 0} (x : Shown V) (call : BCall V) (kind : Kind) (p : ℕ) → drops call ≡ false → AtDrop (λ y. None) x call kind p
no_drop x (DropHandle g) kind p is = absurd cc
no_drop x _ kind p is = tt

module _ {V : Type 0} (dropped : Shown V → Option WaitFor) (x : Shown V) (call : BCall V) where
  says_call : ((kind : Kind) (p : ℕ) → lookup (wanted_kind call) x.slots (handle_of call) ≡ Handle kind p → AtDrop dropped x call kind p)
      → told_after_reply (dropped (next x call)) (reply_of x call) ≡ told_by x call
  says_call at =
      of_checked (λ e. Says dropped x call e) (λ fault. (Keep, fault_reply fault)) (Keep, TooManyHandles) (makes call) (length x.slots)
      (effect_with (channel_of x) call)
      (lookup (wanted_kind call) x.slots (handle_of call))
      (says_fault dropped x call)
      refl
      (λ kind p is few. by_call_says dropped x call kind p (at kind p is) is)
      ∙ told_by_patch _ x call

pub is_told_by_reply : (V : Type 0) → IsToldByReply V
is_told_by_reply V x call = says_call (by_counts x) x call (λ kind p is. counted x call kind p is)

pub is_told_by_reply_alone : (V : Type 0) → IsToldByReplyAlone V
is_told_by_reply_alone V x call other = says_call (λ y. None) x call (λ kind p is. no_drop x call kind p other)
