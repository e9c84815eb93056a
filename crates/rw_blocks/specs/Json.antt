-- The state of a world as JSON. A value is serde_json's `Data`, and its text is serde_json's `compact_text`: without spaces,
-- and with the members of an object in the order of the lists below, which is that of their keys' bytes.
use Rattle.std.specs.Prelude.{ℕ, List, [], ◌∷◌, ◌++◌, ◌==◌, not, map, length, Option, None, Some, option_map, codes, slice_get, if◌then◌else◌}
use Rattle.std.specs.List.{filter_map, range_with_len}
use Rattle.serde_json.specs.Data.{Data, Members, null, boolean, number, string, array, object, unsigned, member, no_members}
use Rattle.serde_json.specs.View.{items_of}
use Rattle.serde_json.specs.Written.{compact_text}
use Rattle.rw_handles.specs.declared.kinds.Kind.{Kind}
use Rattle.rw_handles.specs.declared.kinds.Kind.TheVariants.{Sender, Weak}
use Rattle.rw_handles.specs.declared.kinds.Slot.{Slot}
use Rattle.rw_handles.specs.Slots.{alive, kind_at, same_kind}
use Rattle.rw_broadcast.specs.Arithmetic.{lag, unread}
use Rattle.rw_broadcast.specs.Channel as broadcast
use Rattle.rw_broadcast.specs.Machine.{position_at}
use Rattle.rw_broadcast.specs.Shown.{Shown as Broadcast, channel_of}
use Rattle.rw_watch.specs.Channel as watch
use Rattle.rw_watch.specs.Machine.{mark_at}
use Rattle.rw_watch.specs.Shown.{Shown as Watch}
use Rattle.rw_world.specs.Kinds.{broadcast_shown, watch_shown}
use Rattle.rw_world.specs.Machines.{ChanShown}

-- ---- forms

abbrev pub natural : ℕ → Data
natural n = number (unsigned n)

abbrev pub array_of : List Data → Data
array_of ds = array (items_of ds)

abbrev pub members_in : List (List ℕ × Data) → Members
members_in [] = no_members
members_in (m ∷ ms) = member m.0 m.1 (members_in ms)

-- an object of these members
abbrev pub object_of : List (List ℕ × Data) → Data
object_of ms = object (members_in ms)

-- the values that f has for the handles 0 to n - 1, in order
abbrev pub of_handles : (ℕ → Option Data) → ℕ → List Data
of_handles f n = filter_map f (range_with_len 0 n)

-- ---- handles of a kind

-- handle h, if it is alive and of this kind
abbrev pub handle_json : Kind → ℕ → Option Kind → Option Data
handle_json kind h None = None
handle_json kind h (Some own) = if same_kind kind own then Some (natural h) else None

-- the live handles of this kind among the first n
unfoldable pub handles_json : {X : Type 0} → Kind → List (Slot X) → ℕ → List Data
handles_json kind slots n = of_handles (λ h. handle_json kind h (kind_at (slice_get slots h))) n

-- ---- a broadcast

-- the receiver with handle h, by its position
abbrev pub receiver_json : Broadcast ℕ → ℕ → ℕ → Data
receiver_json x h position = object_of (
    (codes "handle", natural h)
    ∷ (codes "lag", natural (lag (broadcast.oldest (channel_of x)) position))
    ∷ (codes "position", natural position)
    ∷ (codes "unread", natural (unread x.sent position))
    ∷ [])

-- the live receivers among the first n handles
unfoldable pub receivers_json : Broadcast ℕ → ℕ → List Data
receivers_json x n = of_handles (λ h. option_map (receiver_json x h) (position_at (slice_get x.slots h))) n

-- a broadcast, with these members after `sent`
abbrev pub broadcast_with : Broadcast ℕ → List (List ℕ × Data) → Data
broadcast_with x weak = object_of (
    (codes "capacity", natural x.capacity)
    ∷ (codes "closed", boolean (broadcast.is_closed (channel_of x)))
    ∷ (codes "kind", string (codes "broadcast"))
    ∷ (codes "made", natural (length x.slots))
    ∷ (codes "queued", natural (broadcast.queued (channel_of x)))
    ∷ (codes "receivers", array_of (receivers_json x (length x.slots)))
    ∷ (codes "senders", array_of (handles_json Sender x.slots (length x.slots)))
    ∷ (codes "sent", natural x.sent)
    ∷ (weak ++ (codes "window", array_of (map natural x.window)) ∷ []))

abbrev pub weak_member : Broadcast ℕ → List ℕ × Data
weak_member x = (codes "weak", array_of (handles_json Weak x.slots (length x.slots)))

-- the member for weak senders, only if there are any
abbrev pub weak_json : Broadcast ℕ → List (List ℕ × Data)
weak_json x = if alive Weak x.slots == 0 then [] else weak_member x ∷ []

abbrev pub broadcast_json : Broadcast ℕ → Data
broadcast_json x = broadcast_with x (weak_json x)

-- ---- a watch

-- a version, or null
abbrev pub mark_json : Option ℕ → Data
mark_json None = null
mark_json (Some version) = natural version

-- the receiver with handle h, by its mark
abbrev pub watcher_json : Watch ℕ → ℕ → Option ℕ → Data
watcher_json x h mark = object_of (
    (codes "handle", natural h)
    ∷ (codes "mark", mark_json mark)
    ∷ (codes "seen", boolean (not (watch.is_unseen x.version mark)))
    ∷ [])

-- the live receivers among the first n handles
unfoldable pub watchers_json : Watch ℕ → ℕ → List Data
watchers_json x n = of_handles (λ h. option_map (watcher_json x h) (mark_at (slice_get x.slots h))) n

abbrev pub watch_json : Watch ℕ → Data
watch_json x = object_of (
    (codes "closed", boolean (watch.is_closed x))
    ∷ (codes "kind", string (codes "watch"))
    ∷ (codes "made", natural (length x.slots))
    ∷ (codes "receivers", array_of (watchers_json x (length x.slots)))
    ∷ (codes "senders", array_of (handles_json Sender x.slots (length x.slots)))
    ∷ (codes "value", natural x.value)
    ∷ (codes "version", natural x.version)
    ∷ [])

-- ---- a world

abbrev pub channel_json : ChanShown ℕ → Data
channel_json (broadcast_shown x) = broadcast_json x
channel_json (watch_shown x) = watch_json x

-- the state that is shown at a place of a run of len entries
unfoldable pub world_json : List (ChanShown ℕ) → (len place : ℕ) → Data
world_json xs len place = object_of (
    (codes "channels", array_of (map channel_json xs))
    ∷ (codes "len", natural len)
    ∷ (codes "place", natural place)
    ∷ [])

unfoldable pub json_text : List (ChanShown ℕ) → (len place : ℕ) → List ℕ
json_text xs len place = compact_text (world_json xs len place)
