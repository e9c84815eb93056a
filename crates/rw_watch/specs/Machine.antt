-- A watch machine, as its callers see it.
use Rattle.std.specs.Prelude.{ℕ, Bool, not, Option, option_map}
use Rattle.rw_handles.specs.declared.kinds.Slot.{Slot}
use Rattle.rw_handles.specs.Slots.{receiver_at}
use Rattle.rw_law.specs.Outcomes.{Machine as MachineOf, Follows}
use Rattle.rw_watch.specs.declared.calls.WReply.{WReply}
use Rattle.rw_watch.specs.declared.calls.WPatch.{WPatch}
use Rattle.rw_watch.specs.Channel.{Change, is_unseen}
use Rattle.rw_watch.specs.Shown.{Shown, outcome_of}

-- what it shows, and the weight up to which it has room
abbrev pub Machine : Type 0 → Type 0
Machine V = MachineOf (Shown V)

-- the machine made this change, and returned this reply and the patch that undoes the change
abbrev pub Takes : {V : Type 0} → (old new : Machine V) → WReply V × WPatch V → Change V × WReply V → Type 0
Takes old new given e = Follows old new given (outcome_of old.shown e)

-- the mark of the live receiver under a number, if there is one
abbrev pub mark_at : Option (Slot (Option ℕ)) → Option (Option ℕ)
mark_at o = receiver_at o

-- whether it has seen the value of this version
abbrev pub is_seen_at : (version : ℕ) → Option (Slot (Option ℕ)) → Option Bool
is_seen_at version o = option_map (λ mark. not (is_unseen version mark)) (mark_at o)
