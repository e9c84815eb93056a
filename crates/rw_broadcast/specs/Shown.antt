-- What a broadcast channel shows: the record without the evicted values. Its steps, and how they are undone.
use Rattle.std.specs.Prelude.{◌≡◌, ℕ, ◌+◌, ◌-◌, ◌≤◌, ◌<◌, min, Bool, true, false, List, [], ◌∷◌, ◌++◌}
use Rattle.std.specs.Prelude.{Option, Some, None, All, slice_get, slice_set, length, take, drop, ⊤}
use Rattle.rw_handles.specs.declared.kinds.Kind.TheVariants.{Receiver}
use Rattle.rw_handles.specs.declared.kinds.Slot.{Slot}
use Rattle.rw_handles.specs.declared.kinds.Slot.TheVariants.{Live, Spent}
use Rattle.rw_handles.specs.Slots.{IsLive, IsReceiver}
use Rattle.rw_handles.specs.declared.table.TheConstants.{MOST_HANDLES}
use Rattle.rw_ring.specs.declared.ring.TheConstants.{MOST_CAPACITY}
use Rattle.rw_law.specs.Outcomes.{Outcome}
use Rattle.rw_ring.specs.Windows.{window_after, eviction, window_before}
use Rattle.rw_broadcast.specs.declared.calls.BCall.{BCall}
use Rattle.rw_broadcast.specs.declared.calls.BReply.{BReply}
use Rattle.rw_broadcast.specs.declared.calls.BReply.TheVariants.{NoReceivers, Empty, Closed, Waits, Unknown, Gone, WrongKind, TooManyHandles, NoSender}
use Rattle.rw_broadcast.specs.declared.calls.BPatch.{BPatch}
use Rattle.rw_broadcast.specs.declared.calls.BPatch.TheVariants.{Same, Pushed, Evicted, Made, Moved, Left}
use Rattle.rw_broadcast.specs.Arithmetic.{oldest}
use Rattle.rw_broadcast.specs.Record.{Record}
use Rattle.rw_broadcast.specs.Channel.{Channel, Change, Keep, Append, Make, Move, Leave, effect, handle_of}

-- the retained capacity, how many values were ever sent, the retained ones of them, oldest first, and the slot under each
-- handle's number
pub record Shown (V : Type 0) : Type 0 where
  pub capacity : ℕ
  pub sent : ℕ
  pub window : List V
  pub slots : List (Slot ℕ)

-- what a record shows
abbrev pub shown : {V : Type 0} → Record V → Shown V
shown r = record { capacity = r.capacity; sent = length r.sent; window = drop (oldest (length r.sent) r.capacity) r.sent; slots = r.slots }

-- what is shown, as calls read it
abbrev pub channel_of : {V : Type 0} → Shown V → Channel V
channel_of x = record { capacity = x.capacity; sent = x.sent; value = λ position. slice_get x.window (position - oldest x.sent x.capacity); slots = x.slots }

-- what is shown after a change. For one more value: "If a value is sent when the channel is at capacity, the oldest value
-- currently held by the channel is released." (`window_after`)
abbrev pub with_change : {V : Type 0} → Shown V → Change V → Shown V
with_change x Keep = x
with_change x (Append v) = record x { sent = x.sent + 1; window = window_after x.capacity x.window v }
with_change x (Make kind position) = record x { slots = x.slots ++ Live kind position ∷ [] }
with_change x (Move h from to) = record x { slots = slice_set x.slots h (Live Receiver to) }
with_change x (Leave h kind position) = record x { slots = slice_set x.slots h Spent }

-- the patch of a send, by the value that it evicted
abbrev pub patch_of_send : {V : Type 0} → Option V → BPatch V
patch_of_send None = Pushed
patch_of_send (Some old) = Evicted old

-- what undoes a change
abbrev pub patch_for : {V : Type 0} → Shown V → Change V → BPatch V
patch_for x Keep = Same
patch_for x (Append v) = patch_of_send (eviction x.capacity x.window)
patch_for x (Make kind position) = Made
patch_for x (Move h from to) = Moved from
patch_for x (Leave h kind position) = Left kind position

-- a change and a reply, as the outcome of a call
abbrev pub outcome_of : {V : Type 0} → Shown V → Change V × BReply V → Outcome (Shown V) (BReply V) (BPatch V)
outcome_of x e = record { next = with_change x e.0; reply = e.1; patch = patch_for x e.0 }

-- what a call leads to
abbrev pub outcome : {V : Type 0} → Shown V → BCall V → Outcome (Shown V) (BReply V) (BPatch V)
outcome x call = outcome_of x (effect (channel_of x) call)

-- what is shown after a call
abbrev pub next : {V : Type 0} → Shown V → BCall V → Shown V
next x call = (outcome x call).next

-- the reply to a call
abbrev pub reply_of : {V : Type 0} → Shown V → BCall V → BReply V
reply_of x call = (outcome x call).reply

-- what undoes a call
abbrev pub patch_of : {V : Type 0} → Shown V → BCall V → BPatch V
patch_of x call = (outcome x call).patch

-- what was shown before this call, which left this patch
abbrev pub back : {V : Type 0} → Shown V → BCall V → BPatch V → Shown V
back x call Same = x
back x call Pushed = record x { sent = x.sent - 1; window = window_before None x.window }
back x call (Evicted old) = record x { sent = x.sent - 1; window = window_before (Some old) x.window }
back x call Made = record x { slots = take (length x.slots - 1) x.slots }
back x call (Moved from) = record x { slots = slice_set x.slots (handle_of call) (Live Receiver from) }
back x call (Left kind position) = record x { slots = slice_set x.slots (handle_of call) (Live kind position) }

-- what can be under a number, after this many values were sent: a receiver with a position up to the end, a handle of another
-- kind with 0, or a dropped handle
abbrev pub IsPlaced : ℕ → Slot ℕ → Type 0
IsPlaced sent (Live Receiver position) = position ≤ sent
IsPlaced sent (Live kind position) = position ≡ 0
IsPlaced sent Spent = ⊤

-- what channels can show
pub record IsAllowed {V : Type 0} (x : Shown V) : Type 0 where
  pub some_capacity : 0 < x.capacity
  pub small_capacity : x.capacity ≤ MOST_CAPACITY
  pub retained : length x.window ≡ min x.sent x.capacity
  pub few_slots : length x.slots ≤ MOST_HANDLES
  pub placed : All (IsPlaced x.sent) x.slots

-- the last call can have been a send: a value was sent, and no receiver has received the last one
pub record CanUnsend {V : Type 0} (y : Shown V) : Type 0 where
  pub some_sent : 0 < y.sent
  pub placed : All (IsPlaced (y.sent - 1)) y.slots

-- the patch undoes this call here: it can be that of the call, and what `back` gives is allowed
abbrev pub Fits : {V : Type 0} → Shown V → BCall V → BPatch V → Type 0
Fits y call Same = ⊤
Fits y call Pushed = CanUnsend y × (y.sent ≤ y.capacity)
Fits y call (Evicted old) = CanUnsend y × (y.capacity < y.sent)
Fits y call Made = IsLive (slice_get y.slots (length y.slots - 1))
Fits y call (Moved from) = IsReceiver (slice_get y.slots (handle_of call)) × (from ≤ y.sent)
Fits y call (Left kind position) = (slice_get y.slots (handle_of call) ≡ Some Spent) × IsPlaced y.sent (Live kind position)

-- how many values were sent, plus how many handles were made
abbrev pub weight : {V : Type 0} → Shown V → ℕ
weight x = x.sent + length x.slots

-- whether the reply refuses: the call has changed nothing
abbrev pub refuses : {V : Type 0} → BReply V → Bool
refuses (NoReceivers v) = true
refuses Empty = true
refuses Closed = true
refuses Waits = true
refuses Unknown = true
refuses Gone = true
refuses WrongKind = true
refuses TooManyHandles = true
refuses NoSender = true
refuses _ = false

-- whether the reply means that the call would wait
abbrev pub waits : {V : Type 0} → BReply V → Bool
waits Waits = true
waits _ = false

-- no reply of a broadcast channel means that there is no such channel
abbrev pub strays : {V : Type 0} → BReply V → Bool
strays _ = false
