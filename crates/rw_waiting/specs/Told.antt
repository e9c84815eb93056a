-- What tells those who wait that they may go on.
use Rattle.std.specs.Prelude.{ℕ, Bool, ◌==◌, ◌&&◌, nat_lt, if◌then◌else◌, List, Option, Some, None}
use Rattle.rw_handles.specs.declared.kinds.Kind.{Kind}
use Rattle.rw_handles.specs.declared.kinds.Kind.TheVariants.{Sender, Receiver, Weak}
use Rattle.rw_handles.specs.declared.kinds.Slot.{Slot}
use Rattle.rw_handles.specs.Slots.{alive}
use Rattle.rw_waiting.specs.declared.notices.WaitFor.{WaitFor}
use Rattle.rw_waiting.specs.declared.notices.WaitFor.TheVariants.{Value, NoReceiver}
use Rattle.rw_waiting.specs.declared.notices.Counts.{Counts}
use Rattle.rw_waiting.specs.declared.notices.Notice.{Notice}
use Rattle.rw_waiting.specs.declared.notices.Notice.TheVariants.{Sent, Dropped}

-- whom the drop of a handle of this kind tells, where this number of its kind is alive then: those who wait for a value if it was the last
-- sender, and those who wait for no receiver if it was the last receiver
abbrev pub told_by_drop : Kind → (left : ℕ) → Option WaitFor
told_by_drop Sender left = if left == 0 then Some Value else None
told_by_drop Receiver left = if left == 0 then Some NoReceiver else None
told_by_drop Weak left = None

-- how many senders and how many receivers are alive
abbrev pub counts_of : {X : Type 0} → List (Slot X) → Counts
counts_of slots = record { senders = alive Sender slots; receivers = alive Receiver slots }

-- there was one, and none is left
abbrev pub was_last : (before left : ℕ) → Bool
was_last before left = nat_lt 0 before && (left == 0)

-- whom a drop tells, by the counts before and after it
abbrev pub told_by_counts : (before left : Counts) → Option WaitFor
told_by_counts before left =
    if was_last before.senders left.senders then Some Value
    else (if was_last before.receivers left.receivers then Some NoReceiver else None)

abbrev pub told_of : Notice → Option WaitFor
told_of Sent = Some Value
told_of (Dropped kind left) = told_by_drop kind left
