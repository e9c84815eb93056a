-- A table of handles, as its callers see it.
use Rattle.std.specs.Prelude.{ℕ, List}
use Rattle.rw_handles.specs.declared.kinds.Slot.{Slot}

-- the slot under each number, and how many more handles can be made without allocating
pub record Table (X : Type 0) : Type 0 where
  pub slots : List (Slot X)
  pub room : ℕ
