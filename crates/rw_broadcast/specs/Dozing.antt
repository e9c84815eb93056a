-- A receiver that lags and isn't asked how far. Replies to other calls don't tell.
use Rattle.std.specs.Prelude.{◌≡◌, ℕ, zero, suc, ◌-◌, max, Bool, true, false, List, [], ◌∷◌, All}
use Rattle.rw_handles.specs.declared.kinds.Kind.TheVariants.{Receiver}
use Rattle.rw_handles.specs.declared.kinds.Slot.{Slot}
use Rattle.rw_handles.specs.declared.kinds.Slot.TheVariants.{Live, Spent}
use Rattle.rw_broadcast.specs.declared.calls.BCall.{BCall}
use Rattle.rw_broadcast.specs.declared.calls.BCall.TheVariants.{TryRecv, Recv, ReceiverLen}
use Rattle.rw_broadcast.specs.Alike.{replies_of}
use Rattle.rw_broadcast.specs.Arithmetic.{oldest}
use Rattle.rw_broadcast.specs.Channel.{handle_of}
use Rattle.rw_broadcast.specs.Laws.{shown_after}
use Rattle.rw_broadcast.specs.Shown.{Shown, next, reply_of}

-- whether the reply tells where the receiver is
abbrev pub asks : {V : Type 0} → BCall V → Bool
asks (TryRecv h) = true
asks (Recv h) = true
asks (ReceiverLen h) = true
asks _ = false

-- the list with this change of the element of number h, if there is one
abbrev pub changed : {A : Type 0} → ℕ → (A → A) → List A → List A
changed h change [] = []
changed zero change (x ∷ xs) = change x ∷ xs
changed (suc h) change (x ∷ xs) = x ∷ changed h change xs

-- the slot, where a receiver lags by one value at most
abbrev pub dozing_slot : (oldest : ℕ) → Slot ℕ → Slot ℕ
dozing_slot oldest (Live Receiver position) = Live Receiver (max position (oldest - 1))
dozing_slot oldest (Live kind position) = Live kind position
dozing_slot oldest Spent = Spent

-- what is shown, if receiver h lags by one value at most
abbrev pub dozing : {V : Type 0} → ℕ → Shown V → Shown V
dozing h x = record x { slots = changed h (dozing_slot (oldest x.sent x.capacity)) x.slots }

-- the call doesn't ask receiver h
abbrev pub LeavesAlone : {V : Type 0} → ℕ → BCall V → Type 0
LeavesAlone h call = handle_of call ≡ h → asks call ≡ false

-- a law: it makes no difference to a call that doesn't ask receiver h by how many values h lags
abbrev pub RepliesDozing : Type 0 → Type 0
RepliesDozing V = (h : ℕ) (x : Shown V) (call : BCall V) → LeavesAlone h call
    → (reply_of (dozing h x) call ≡ reply_of x call) × (dozing h (next (dozing h x) call) ≡ dozing h (next x call))

-- a law: so it is with all later calls, as long as none asks receiver h
abbrev pub RepliesDozingThroughout : Type 0 → Type 0
RepliesDozingThroughout V = (h : ℕ) (x : Shown V) (calls : List (BCall V)) → All (LeavesAlone h) calls
    → (replies_of (dozing h x) calls ≡ replies_of x calls) × (dozing h (shown_after (dozing h x) calls) ≡ dozing h (shown_after x calls))
