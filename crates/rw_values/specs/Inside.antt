-- How a store keeps its values: in the cells of a ring.
use Rattle.std.specs.Prelude.{◌≡◌, ℕ, ◌<◌, ◌≤◌, List, All, length}
use Rattle.rw_ring.specs.Cells.{rotation}
use Rattle.rw_ring.specs.declared.ring.TheConstants.{MOST_CAPACITY}
use Rattle.rw_values.specs.declared.values.Kept.{Kept}
use Rattle.rw_values.specs.Stored.{Store, IsKept}

-- what a store has, from its cells and the index of the oldest
abbrev pub store_of_cells : {V : Type 0} → (capacity first next : ℕ) → List (Kept V) → ℕ → Store V
store_of_cells capacity first next cells room = record { capacity = capacity; next = next; kept = rotation first cells; room = room }

-- what holds of the cells of every store: until all are used, the first has the oldest value
pub record IsRing {V : Type 0} (capacity first next : ℕ) (cells : List (Kept V)) : Type 0 where
  pub some : 0 < capacity
  pub small : capacity ≤ MOST_CAPACITY
  pub few : length cells ≤ capacity
  pub within : first < capacity
  pub young : length cells < capacity → first ≡ 0
  pub numbered : length cells ≤ next
  pub kept : All IsKept cells
