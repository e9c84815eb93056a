-- What every channel with a table of handles has in common.
use Rattle.std.specs.Prelude.{ℕ, ◌+◌, ◌≤◌, min, Bool, ◌&&◌, nat_le, if◌then◌else◌, length}
use Rattle.rw_law.specs.Outcomes.{Machine}
use Rattle.rw_law.specs.declared.limits.TheConstants.{MOST_WEIGHT}
use Rattle.rw_handles.specs.declared.kinds.Kind.{Kind}
use Rattle.rw_handles.specs.declared.kinds.HandleFault.{HandleFault}
use Rattle.rw_handles.specs.declared.kinds.Found.{Found}
use Rattle.rw_handles.specs.declared.kinds.Found.TheVariants.{Fault, Handle}
use Rattle.rw_handles.specs.Handles.{Table}
use Rattle.rw_handles.specs.declared.table.TheConstants.{MOST_HANDLES}

-- the result of a call, by the check of its handle: the call is refused for a fault of the handle, or for too many handles
-- where it would make one more than is allowed; otherwise the live handle serves it
abbrev pub answer_of_check : {X E : Type 0} → (refused : HandleFault → E) → (too_many : E) → (makes : Bool) → (made : ℕ) → (served : Kind → X → E) → Found X → E
answer_of_check refused too_many makes made served (Fault fault) = refused fault
answer_of_check refused too_many makes made served (Handle kind x) = if makes && nat_le MOST_HANDLES made then too_many else served kind x

-- what a channel shows is allowed, and there is memory for all calls up to its limit
pub record HasRoom {V X : Type 0} (IsAllowed : V → Type 0) (weight : V → ℕ) (machine : Machine V) (handles : Table X) : Type 0 where
  pub allowed : IsAllowed machine.shown
  pub within : weight machine.shown ≤ machine.limit
  pub small_limit : machine.limit ≤ MOST_WEIGHT
  pub makings : min machine.limit MOST_HANDLES ≤ length handles.slots + handles.room
