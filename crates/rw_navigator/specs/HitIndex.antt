-- The index of a condition on entries.
use Rattle.std.specs.Prelude.{ℕ, Bool, List, length}
use Rattle.std.specs.List.{filter, range_with_len}
use Rattle.rw_law.specs.declared.journal.Entry.{Entry}
use Rattle.rw_navigator.specs.Search.{step_hit}

-- a condition, and the journal whose hits are indexed
pub record HitIndex (M C R P Q : Type 0) : Type 0 where
  pub probe : Q
  pub entries : List (Entry M C R P)

-- the places that are hits, in order, of the places from 1 to the last
abbrev pub hits_of : {E : Type 0} → (E → Bool) → List E → List ℕ
hits_of holds es = filter (step_hit holds es) (range_with_len 1 (length es))
