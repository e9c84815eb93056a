-- How a ring stores its values: each in the cell whose index is its position modulo the capacity.
use Rattle.std.specs.Prelude.{ℕ, ◌%◌, List, ◌++◌, take, drop}

-- the cells from this one on, and then those before it
abbrev pub rotation : {V : Type 0} → ℕ → List V → List V
rotation first cells = drop first cells ++ take first cells

-- the values in the cells, oldest first: where all cells are full, the oldest is in the cell of the next value
abbrev pub in_order : {V : Type 0} → ℕ → ℕ → List V → List V
in_order capacity count cells = rotation (count % capacity) cells
