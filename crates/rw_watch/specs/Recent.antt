-- A watch channel of which only the value is known, and which receivers have seen it. No reply tells more.
use Rattle.std.specs.Prelude.{◌≡◌, ℕ, Option, Some, None, map, if◌then◌else◌}
use Rattle.rw_handles.specs.declared.kinds.Slot.{Slot}
use Rattle.rw_handles.specs.declared.kinds.Slot.TheVariants.{Live, Spent}
use Rattle.rw_watch.specs.declared.calls.WCall.{WCall}
use Rattle.rw_watch.specs.Channel.{is_unseen}
use Rattle.rw_watch.specs.Shown.{Shown, next, reply_of, IsAllowed}

-- whether the value was seen, as a mark of version 0
abbrev pub recent_mark : (version : ℕ) → Option ℕ → Option ℕ
recent_mark version mark = if is_unseen version mark then None else Some 0

abbrev pub recent_slot : (version : ℕ) → Slot (Option ℕ) → Slot (Option ℕ)
recent_slot version (Live kind mark) = Live kind (recent_mark version mark)
recent_slot version Spent = Spent

-- what is shown, as if the value was the first one
abbrev pub recent : {V : Type 0} → Shown V → Shown V
recent x = record x { version = 0; slots = map (recent_slot x.version) x.slots }

-- a law: it makes no difference to any call which versions there were before
abbrev pub RepliesRecent : Type 0 → Type 0
RepliesRecent V = (x : Shown V) (call : WCall V) → IsAllowed x
    → (reply_of (recent x) call ≡ reply_of x call) × (recent (next (recent x) call) ≡ recent (next x call))
