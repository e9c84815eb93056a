-- Where a value is in a ring of cells: the oldest is in the first, and after the last cell comes that of index 0.
use Rattle.std.specs.Prelude.{ℕ, ◌+◌, ◌-◌, nat_lt, if◌then◌else◌}

-- the cell that comes this many after the first one, of that many cells
abbrev pub cell_of : (first count age : ℕ) → ℕ
cell_of first count age = if nat_lt (first + age) count then first + age else first + age - count
