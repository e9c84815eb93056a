-- Machines whose calls are counted.
use Rattle.std.specs.Prelude.{ℕ, ◌+◌, ◌^◌, ◌-◌, min}

-- a machine, and how many calls it has had
pub record Counted (M : Type 0) : Type 0 where
  pub state : M
  pub turns : ℕ

-- the count after n calls more: it stops at the greatest number of 64 bits
abbrev pub count_after : ℕ → ℕ → ℕ
count_after turns n = min (turns + n) (2 ^ 64 - 1)
