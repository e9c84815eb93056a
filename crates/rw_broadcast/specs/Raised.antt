-- A broadcast channel to which more values were sent before. Where it retains all that it can, no reply tells how many.
use Rattle.std.specs.Prelude.{◌≡◌, ℕ, ◌+◌, ◌≤◌, map}
use Rattle.rw_handles.specs.declared.kinds.Kind.{Kind}
use Rattle.rw_handles.specs.declared.kinds.Kind.TheVariants.{Receiver}
use Rattle.rw_handles.specs.declared.kinds.Slot.{Slot}
use Rattle.rw_handles.specs.declared.kinds.Slot.TheVariants.{Live, Spent}
use Rattle.rw_broadcast.specs.declared.calls.BCall.{BCall}
use Rattle.rw_broadcast.specs.Shown.{Shown, next, reply_of}

-- the position of a handle of this kind, where n more values were sent before. Only receivers have one
abbrev pub raised_position : ℕ → Kind → ℕ → ℕ
raised_position n Receiver position = n + position
raised_position n kind position = position

abbrev pub raised_slot : ℕ → Slot ℕ → Slot ℕ
raised_slot n (Live kind position) = Live kind (raised_position n kind position)
raised_slot n Spent = Spent

-- what the channel shows, where n more values were sent before, and every receiver is as many values further
abbrev pub raised : {V : Type 0} → ℕ → Shown V → Shown V
raised n x = record x { sent = n + x.sent; slots = map (raised_slot n) x.slots }

-- as many values are retained as can be
abbrev pub IsFull : {V : Type 0} → Shown V → Type 0
IsFull x = x.capacity ≤ x.sent

-- a law: where a channel is full, it makes no difference to any call that more values were sent before
abbrev pub RepliesRaised : Type 0 → Type 0
RepliesRaised V = (n : ℕ) (x : Shown V) (call : BCall V) → IsFull x
    → (reply_of (raised n x) call ≡ reply_of x call) × (next (raised n x) call ≡ raised n (next x call))
