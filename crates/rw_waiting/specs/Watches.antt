-- Who waits for a watch channel, and what a step tells them.
use Rattle.std.specs.Prelude.{◌≡◌, ℕ, ◌==◌, if◌then◌else◌, Bool, true, false, List, Option, Some, None}
use Rattle.rw_handles.specs.declared.kinds.Kind.TheVariants.{Sender, Receiver}
use Rattle.rw_handles.specs.Renaming.{live_ones}
use Rattle.rw_handles.specs.Slots.{alive}
use Rattle.rw_watch.specs.Renaming.{IsRenumbered}
use Rattle.rw_watch.specs.declared.calls.WPatch.{WPatch}
use Rattle.rw_watch.specs.declared.calls.WPatch.TheVariants.{Wrote, Left, LeftUnmarked}
use Rattle.rw_watch.specs.declared.calls.WCall.{WCall}
use Rattle.rw_watch.specs.declared.calls.WCall.TheVariants.{Changed, MarkChanged, AwaitClosed, DropHandle}
use Rattle.rw_watch.specs.declared.calls.WReply.{WReply}
use Rattle.rw_watch.specs.declared.calls.WReply.TheVariants as wreply
use Rattle.rw_watch.specs.Channel.{Channel, Change, Write, effect}
use Rattle.rw_watch.specs.Channel.{Leave}
use Rattle.rw_watch.specs.Shown.{Shown, IsAllowed, next, reply_of, patch_of}
use Rattle.rw_waiting.specs.declared.notices.WaitFor.{WaitFor}
use Rattle.rw_waiting.specs.declared.notices.WaitFor.TheVariants.{Value, NoReceiver}
use Rattle.rw_waiting.specs.Told.{told_by_drop, told_by_counts, counts_of}
use Rattle.rw_waiting.specs.Renumbered.{number_among, HasNumbers}
use Rattle.rw_waiting.specs.Waitable.{Waitable}

-- `changed` of receiver h would wait, or `closed` of sender h would: that is its documented reply
abbrev pub Waits : {V : Type 0} → Shown V → WaitFor → ℕ → Type 0
Waits x Value h = reply_of x (Changed h) ≡ wreply.Waits
Waits x NoReceiver h = reply_of x (AwaitClosed h) ≡ wreply.Waits

-- A change that notifies the receivers tells those who wait for one, and so does the drop of the last sender. The drop of the
-- last receiver tells those who wait for no receiver.
abbrev pub told : {V : Type 0} → Channel V → Change V → Option WaitFor
told c (Write v notified) = if notified then Some Value else None
told c (Leave h Sender mark) = if alive Sender c.slots == 1 then Some Value else None
told c (Leave h Receiver mark) = if alive Receiver c.slots == 1 then Some NoReceiver else None
told c _ = None

abbrev pub told_by : {V : Type 0} → Shown V → WCall V → Option WaitFor
told_by x call = told x (effect x call).0

-- the call drops the handle of this number
abbrev pub Drops : {V : Type 0} → WCall V → ℕ → Type 0
Drops (DropHandle g) h = g ≡ h
Drops _ h = ⊥

-- the call marks the value as not seen by this receiver
abbrev pub Unsees : {V : Type 0} → WCall V → ℕ → Type 0
Unsees (MarkChanged g) h = g ≡ h
Unsees _ h = ⊥

-- No call keeps a listed one waiting in vain, but a drop of its own handle, and the one by which its receiver says itself that it has not
-- seen the value.
abbrev pub Spares : {V : Type 0} → WCall V → WaitFor → ℕ → Type 0
Spares call Value h = (Drops call h → ⊥) × (Unsees call h → ⊥)
Spares call NoReceiver h = Drops call h → ⊥

-- only the live handles are left, as `renumber` leaves them
abbrev pub renumbered : {V : Type 0} → Shown V → Shown V
renumbered x = record x { slots = live_ones x.slots }

abbrev pub of_watch : (V : Type 0) → Waitable (Shown V) (WCall V)
of_watch V = record {
  allowed = IsAllowed;
  next = next;
  waits = Waits;
  told = told_by;
  spares = Spares;
  renumbered = renumbered;
  number_after = λ x h. number_among x.slots h;
}

-- the same, by what is shown after the step and by its patch
abbrev pub told_after : {V : Type 0} → Shown V → WPatch V → Option WaitFor
told_after y (Wrote notified before) = if notified then Some Value else None
told_after y (Left kind mark) = told_by_drop kind (alive kind y.slots)
told_after y (LeftUnmarked kind) = told_by_drop kind (alive kind y.slots)
told_after y _ = None

-- the same, by its reply, where the drop of a handle would have told so
abbrev pub told_after_reply : {V : Type 0} → (dropped : Option WaitFor) → WReply V → Option WaitFor
told_after_reply dropped wreply.Stored = Some Value
told_after_reply dropped (wreply.Old before) = Some Value
told_after_reply dropped (wreply.Told notified) = if notified then Some Value else None
told_after_reply dropped wreply.Dropped = dropped
told_after_reply dropped _ = None

-- whether a call drops a handle
abbrev pub drops : {V : Type 0} → WCall V → Bool
drops (DropHandle h) = true
drops _ = false

-- what a step told is known from its reply, and from the counts before and after it
abbrev pub IsToldByReply : Type 0 → Type 0
IsToldByReply V = (x : Shown V) (call : WCall V)
    → told_after_reply (told_by_counts (counts_of x.slots) (counts_of (next x call).slots)) (reply_of x call) ≡ told_by x call

-- if it drops no handle, from its reply alone
abbrev pub IsToldByReplyAlone : Type 0 → Type 0
IsToldByReplyAlone V = (x : Shown V) (call : WCall V) → drops call ≡ false → told_after_reply None (reply_of x call) ≡ told_by x call

-- `renumber` leaves what `renumbered` says, and its answer has each number where `number_among` says
abbrev pub RenumbersSo : Type 0 → Type 0
RenumbersSo V = (before : List ℕ) (x y : Shown V) → IsRenumbered before x y → (y ≡ renumbered x) × HasNumbers before x.slots

-- what a step told is known from its patch
abbrev pub IsToldByPatch : Type 0 → Type 0
IsToldByPatch V = (x : Shown V) (call : WCall V) → told_after (next x call) (patch_of x call) ≡ told_by x call
