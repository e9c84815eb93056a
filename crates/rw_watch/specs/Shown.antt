-- What a watch channel shows: the record without the earlier values. Its steps, and how they are undone.
use Rattle.std.specs.Prelude.{◌≡◌, ℕ, ◌+◌, ◌-◌, ◌≤◌, ◌<◌, Bool, true, false, if◌then◌else◌, [], ◌∷◌}
use Rattle.std.specs.Prelude.{◌++◌, Option, Some, None, All, slice_get, slice_set, length, take, ⊤}
use Rattle.rw_handles.specs.declared.kinds.Kind.{Kind}
use Rattle.rw_handles.specs.declared.kinds.Kind.TheVariants.{Sender, Receiver}
use Rattle.rw_handles.specs.declared.kinds.Slot.{Slot}
use Rattle.rw_handles.specs.declared.kinds.Slot.TheVariants.{Live, Spent}
use Rattle.rw_handles.specs.Slots.{IsLive, IsReceiver}
use Rattle.rw_handles.specs.declared.table.TheConstants.{MOST_HANDLES}
use Rattle.rw_law.specs.Outcomes.{Outcome}
use Rattle.rw_watch.specs.declared.calls.WCall.{WCall}
use Rattle.rw_watch.specs.declared.calls.WReply.{WReply}
use Rattle.rw_watch.specs.declared.calls.WReply.TheVariants.{NoReceivers, Closed, Waits, Unknown, Gone, WrongKind, TooManyHandles}
use Rattle.rw_watch.specs.declared.calls.WPatch.{WPatch}
use Rattle.rw_watch.specs.declared.calls.WPatch.TheVariants.{Same, Wrote, Made, Marked, Unmarked, Left, LeftUnmarked}
use Rattle.rw_watch.specs.Channel.{Channel, Change, Keep, Write, Make, Mark, Leave, effect, handle_of}
use Rattle.rw_watch.specs.Record.{Record, channel_of}

-- the version, the value, and the slot under each handle's number: all that calls read
abbrev pub Shown : Type 0 → Type 0
Shown V = Channel V

-- what a record shows
abbrev pub shown : {V : Type 0} → Record V → Shown V
shown r = channel_of r

-- the version after a change, with or without notification
abbrev pub version_after : ℕ → (told : Bool) → ℕ
version_after version told = if told then version + 1 else version

-- the version before it
abbrev pub version_before : ℕ → (told : Bool) → ℕ
version_before version told = if told then version - 1 else version

-- what is shown after a change
abbrev pub with_change : {V : Type 0} → Shown V → Change V → Shown V
with_change x Keep = x
with_change x (Write v told) = record x { version = version_after x.version told; value = v }
with_change x (Make kind mark) = record x { slots = x.slots ++ Live kind mark ∷ [] }
with_change x (Mark h from to) = record x { slots = slice_set x.slots h (Live Receiver to) }
with_change x (Leave h kind mark) = record x { slots = slice_set x.slots h Spent }

-- the patch of a receiver's new mark, given the one before it
abbrev pub patch_of_mark : {V : Type 0} → Option ℕ → WPatch V
patch_of_mark None = Unmarked
patch_of_mark (Some mark) = Marked mark

-- the patch of a drop of a handle of this kind and with this mark
abbrev pub patch_of_drop : {V : Type 0} → Kind → Option ℕ → WPatch V
patch_of_drop kind None = LeftUnmarked kind
patch_of_drop kind (Some mark) = Left kind mark

-- what undoes a change
abbrev pub patch_for : {V : Type 0} → Shown V → Change V → WPatch V
patch_for x Keep = Same
patch_for x (Write v told) = Wrote told x.value
patch_for x (Make kind mark) = Made
patch_for x (Mark h from to) = patch_of_mark from
patch_for x (Leave h kind mark) = patch_of_drop kind mark

-- a change and a reply, as the outcome of a call
abbrev pub outcome_of : {V : Type 0} → Shown V → Change V × WReply V → Outcome (Shown V) (WReply V) (WPatch V)
outcome_of x e = record { next = with_change x e.0; reply = e.1; patch = patch_for x e.0 }

-- what a call leads to
abbrev pub outcome : {V : Type 0} → Shown V → WCall V → Outcome (Shown V) (WReply V) (WPatch V)
outcome x call = outcome_of x (effect x call)

-- what is shown after a call
abbrev pub next : {V : Type 0} → Shown V → WCall V → Shown V
next x call = (outcome x call).next

-- the reply to a call
abbrev pub reply_of : {V : Type 0} → Shown V → WCall V → WReply V
reply_of x call = (outcome x call).reply

-- what undoes a call
abbrev pub patch_of : {V : Type 0} → Shown V → WCall V → WPatch V
patch_of x call = (outcome x call).patch

-- what was shown before this call, which left this patch
abbrev pub back : {V : Type 0} → Shown V → WCall V → WPatch V → Shown V
back x call Same = x
back x call (Wrote told before) = record x { version = version_before x.version told; value = before }
back x call Made = record x { slots = take (length x.slots - 1) x.slots }
back x call (Marked mark) = record x { slots = slice_set x.slots (handle_of call) (Live Receiver (Some mark)) }
back x call Unmarked = record x { slots = slice_set x.slots (handle_of call) (Live Receiver None) }
back x call (Left kind mark) = record x { slots = slice_set x.slots (handle_of call) (Live kind (Some mark)) }
back x call (LeftUnmarked kind) = record x { slots = slice_set x.slots (handle_of call) (Live kind None) }

-- what a receiver's mark can be, in a channel of this version
abbrev pub IsMark : (version : ℕ) → Option ℕ → Type 0
IsMark version None = ⊤
IsMark version (Some mark) = mark ≤ version

-- what can be under a number, in a channel of this version: a sender with None, a receiver that has seen no later version, or
-- a dropped handle; a watch has no handle of another kind
abbrev pub IsMarked : (version : ℕ) → Slot (Option ℕ) → Type 0
IsMarked version (Live Sender mark) = mark ≡ None
IsMarked version (Live Receiver mark) = IsMark version mark
IsMarked version (Live other mark) = ⊥
IsMarked version Spent = ⊤

-- what channels can show
pub record IsAllowed {V : Type 0} (x : Shown V) : Type 0 where
  pub few_slots : length x.slots ≤ MOST_HANDLES
  pub marked : All (IsMarked x.version) x.slots

-- the last change can have been one with notification: no receiver has seen it
pub record CanUntell {V : Type 0} (y : Shown V) : Type 0 where
  pub some_told : 0 < y.version
  pub marked : All (IsMarked (y.version - 1)) y.slots

-- the patch undoes this call here: it can be that of the call, and what `back` gives is allowed
abbrev pub Fits : {V : Type 0} → Shown V → WCall V → WPatch V → Type 0
Fits y call Same = ⊤
Fits y call (Wrote true before) = CanUntell y
Fits y call (Wrote false before) = ⊤
Fits y call Made = IsLive (slice_get y.slots (length y.slots - 1))
Fits y call (Marked mark) = IsReceiver (slice_get y.slots (handle_of call)) × IsMark y.version (Some mark)
Fits y call Unmarked = IsReceiver (slice_get y.slots (handle_of call))
Fits y call (Left kind mark) = (slice_get y.slots (handle_of call) ≡ Some Spent) × IsMarked y.version (Live kind (Some mark))
Fits y call (LeftUnmarked kind) = (slice_get y.slots (handle_of call) ≡ Some Spent) × IsMarked y.version (Live kind None)

-- how many changes the receivers were notified of, plus how many handles were made
abbrev pub weight : {V : Type 0} → Shown V → ℕ
weight x = x.version + length x.slots

-- whether the reply refuses: the call has changed nothing
abbrev pub refuses : {V : Type 0} → WReply V → Bool
refuses (NoReceivers v) = true
refuses Closed = true
refuses Waits = true
refuses Unknown = true
refuses Gone = true
refuses WrongKind = true
refuses TooManyHandles = true
refuses _ = false

-- whether the reply means that the call would wait
abbrev pub waits : {V : Type 0} → WReply V → Bool
waits Waits = true
waits _ = false

-- no reply of a watch channel means that there is no such channel
abbrev pub strays : {V : Type 0} → WReply V → Bool
strays _ = false
