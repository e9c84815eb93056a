-- Hand-offs and their seats, as callers see them.
use Rattle.std.specs.Prelude.{ℕ, List, Option}
use Rattle.atomic_table.specs.Seated.{TableId}

-- which hand-off it is, and what the book's journal starts from
pub record Home (S : Type 0) : Type 0 where
  pub table : TableId
  pub start : Option S

-- a hand-off, and the number of its seats
pub record HandOff (S : Type 0) : Type 0 where
  pub home : Home S
  pub seats : ℕ

-- a seat of a hand-off: its number, its hand-off, and its front, which is the journal that it has seen
pub record HandSeat (E S : Type 0) : Type 0 where
  pub number : ℕ
  pub home : Home S
  pub front : List E
