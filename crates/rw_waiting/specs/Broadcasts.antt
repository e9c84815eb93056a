-- Who waits for a broadcast channel, and what a step tells them.
use Rattle.std.specs.Prelude.{◌≡◌, ℕ, ◌<◌, ◌==◌, if◌then◌else◌, Bool, true, false, List, Option, Some, None}
use Rattle.rw_handles.specs.declared.kinds.Kind.TheVariants.{Sender, Receiver}
use Rattle.rw_handles.specs.Renaming.{live_ones}
use Rattle.rw_handles.specs.Slots.{alive}
use Rattle.rw_broadcast.specs.Renaming.{IsRenumbered}
use Rattle.rw_broadcast.specs.declared.calls.BCall.{BCall}
use Rattle.rw_broadcast.specs.declared.calls.BCall.TheVariants.{Recv, ReceiverCount, DropHandle}
use Rattle.rw_broadcast.specs.declared.calls.BReply.{BReply}
use Rattle.rw_broadcast.specs.declared.calls.BReply.TheVariants as breply
use Rattle.rw_broadcast.specs.Channel.{Channel, Change, Append, Leave, effect}
use Rattle.rw_broadcast.specs.Shown.{Shown, IsAllowed, channel_of, next, reply_of, patch_of}
use Rattle.rw_broadcast.specs.declared.calls.BPatch.{BPatch}
use Rattle.rw_broadcast.specs.declared.calls.BPatch.TheVariants.{Pushed, Evicted, Left}
use Rattle.rw_waiting.specs.declared.notices.WaitFor.{WaitFor}
use Rattle.rw_waiting.specs.declared.notices.WaitFor.TheVariants.{Value, NoReceiver}
use Rattle.rw_waiting.specs.Told.{told_by_drop, told_by_counts, counts_of}
use Rattle.rw_waiting.specs.Renumbered.{number_among, HasNumbers}
use Rattle.rw_waiting.specs.Waitable.{Waitable}

-- `recv` of receiver h would wait: that is its documented reply. `closed` of sender h would: it counts some receiver.
abbrev pub Waits : {V : Type 0} → Shown V → WaitFor → ℕ → Type 0
Waits x Value h = reply_of x (Recv h) ≡ breply.Waits
Waits x NoReceiver h = (n : ℕ) × (reply_of x (ReceiverCount h) ≡ breply.Count n) × (0 < n)

-- A value that is sent tells those who wait for one, and so does the drop of the last sender. The drop of the last receiver
-- tells those who wait for no receiver.
abbrev pub told : {V : Type 0} → Channel V → Change V → Option WaitFor
told c (Append v) = Some Value
told c (Leave h Sender position) = if alive Sender c.slots == 1 then Some Value else None
told c (Leave h Receiver position) = if alive Receiver c.slots == 1 then Some NoReceiver else None
told c _ = None

abbrev pub told_by : {V : Type 0} → Shown V → BCall V → Option WaitFor
told_by x call = told (channel_of x) (effect (channel_of x) call).0

-- the call drops the handle of this number
abbrev pub Drops : {V : Type 0} → BCall V → ℕ → Type 0
Drops (DropHandle g) h = g ≡ h
Drops _ h = ⊥

-- No call keeps a listed one waiting in vain, but a drop of its own handle.
abbrev pub Spares : {V : Type 0} → BCall V → WaitFor → ℕ → Type 0
Spares call what h = Drops call h → ⊥

-- only the live handles are left, as `renumber` leaves them
abbrev pub renumbered : {V : Type 0} → Shown V → Shown V
renumbered x = record x { slots = live_ones x.slots }

abbrev pub of_broadcast : (V : Type 0) → Waitable (Shown V) (BCall V)
of_broadcast V = record {
  allowed = IsAllowed;
  next = next;
  waits = Waits;
  told = told_by;
  spares = Spares;
  renumbered = renumbered;
  number_after = λ x h. number_among x.slots h;
}

-- the same, by what is shown after the step and by its patch
abbrev pub told_after : {V : Type 0} → Shown V → BPatch V → Option WaitFor
told_after y Pushed = Some Value
told_after y (Evicted old) = Some Value
told_after y (Left kind position) = told_by_drop kind (alive kind y.slots)
told_after y _ = None

-- the same, by its reply, where the drop of a handle would have told so
abbrev pub told_after_reply : {V : Type 0} → (dropped : Option WaitFor) → BReply V → Option WaitFor
told_after_reply dropped (breply.Sent n) = Some Value
told_after_reply dropped breply.Dropped = dropped
told_after_reply dropped _ = None

-- whether a call drops a handle
abbrev pub drops : {V : Type 0} → BCall V → Bool
drops (DropHandle h) = true
drops _ = false

-- what a step told is known from its reply, and from the counts before and after it
abbrev pub IsToldByReply : Type 0 → Type 0
IsToldByReply V = (x : Shown V) (call : BCall V)
    → told_after_reply (told_by_counts (counts_of x.slots) (counts_of (next x call).slots)) (reply_of x call) ≡ told_by x call

-- if it drops no handle, from its reply alone
abbrev pub IsToldByReplyAlone : Type 0 → Type 0
IsToldByReplyAlone V = (x : Shown V) (call : BCall V) → drops call ≡ false → told_after_reply None (reply_of x call) ≡ told_by x call

-- `renumber` leaves what `renumbered` says, and its answer has each number where `number_among` says
abbrev pub RenumbersSo : Type 0 → Type 0
RenumbersSo V = (before : List ℕ) (x y : Shown V) → IsRenumbered before x y → (y ≡ renumbered x) × HasNumbers before x.slots

-- what a step told is known from its patch
abbrev pub IsToldByPatch : Type 0 → Type 0
IsToldByPatch V = (x : Shown V) (call : BCall V) → told_after (next x call) (patch_of x call) ≡ told_by x call
