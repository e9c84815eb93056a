-- A store beside a channel: what it keeps follows from what the channel shows, and each call of the channel is one call of the store.
use Rattle.std.specs.Prelude.{◌≡◌, ℕ, ◌+◌, ◌-◌, ◌≤◌, nat_lt, ◌==◌, if◌then◌else◌, List, [], ◌∷◌, Some, None, length, slice_get, count_by}
use Rattle.rw_handles.specs.declared.kinds.Kind.TheVariants.{Receiver}
use Rattle.rw_handles.specs.declared.kinds.Slot.{Slot}
use Rattle.rw_handles.specs.declared.kinds.Slot.TheVariants.{Live}
use Rattle.rw_handles.specs.Slots.{alive}
use Rattle.rw_ring.specs.Windows.{window_after}
use Rattle.rw_broadcast.specs.declared.calls.BCall.{BCall}
use Rattle.rw_broadcast.specs.Channel.{Change, Append, Move, Leave, effect, oldest}
use Rattle.rw_broadcast.specs.Shown.{Shown, IsAllowed, channel_of, next}
use Rattle.rw_values.specs.declared.values.Kept.{Kept}
use Rattle.rw_values.specs.Counts.{awaits}
use Rattle.rw_values.specs.Stored.{sent_to, one_less_at, one_less_from, value_of}

-- a value that this many receivers have yet to receive: if none has, it is no longer there
abbrev pub kept_for : {V : Type 0} → ℕ → V → Kept V
kept_for receivers v = record { receivers = receivers; value = if receivers == 0 then None else Some v }

-- values that were sent one after the other, from a position on
abbrev pub kept_from : {V : Type 0} → List (Slot ℕ) → ℕ → List V → List (Kept V)
kept_from slots position [] = []
kept_from slots position (v ∷ vs) = kept_for (count_by (awaits position) slots) v ∷ kept_from slots (position + 1) vs

-- what a store keeps beside a channel: the retained values, each with how many receivers have yet to receive it
abbrev pub kept_beside : {V : Type 0} → Shown V → List (Kept V)
kept_beside x = kept_from x.slots (oldest (channel_of x)) x.window

-- what the store keeps after a call that changes this: a value that is sent is put, one that is received has one receiver less, and so
-- have those that a dropped receiver had yet to receive. Nothing is done for any other call, and nothing for one that lags.
abbrev pub kept_after : {V : Type 0} → Shown V → Change V → List (Kept V) → List (Kept V)
kept_after x (Append v) ks = window_after x.capacity ks (sent_to (alive Receiver x.slots) v)
kept_after x (Move h from to) ks = if nat_lt from (oldest (channel_of x)) then ks else one_less_at ks (from - oldest (channel_of x))
kept_after x (Leave h Receiver position) ks = one_less_from ks (length ks - (x.sent - position))
kept_after x _ ks = ks

-- so the store beside the channel is, after each call, what the channel then shows
abbrev pub StoreFollows : Type 0 → Type 0
StoreFollows V = (x : Shown V) (call : BCall V) → IsAllowed x
    → kept_beside (next x call) ≡ kept_after x (effect (channel_of x) call).0 (kept_beside x)

-- and a receiver finds there the value at its position, which the channel of the values replies with
abbrev pub HasWhatWasSent : Type 0 → Type 0
HasWhatWasSent V = (x : Shown V) (h position : ℕ) (v : V) → slice_get x.slots h ≡ Some (Live Receiver position)
    → slice_get x.window (position - oldest (channel_of x)) ≡ Some v → oldest (channel_of x) ≤ position
    → value_of (slice_get (kept_beside x) (position - oldest (channel_of x))) ≡ Some v
