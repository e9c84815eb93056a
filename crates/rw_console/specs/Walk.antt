-- A run, at one of its places.
use Rattle.std.specs.Prelude.{ℕ}
use Rattle.rw_journal.specs.Run.{Run}

pub record Walk : Type 0 where
  pub run : Run ℕ
  pub place : ℕ
