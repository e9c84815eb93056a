-- The hits of conditions at the places of a run.
use Rattle.std.specs.Prelude.{ℕ, Option}
use Rattle.rw_journal.specs.Run.{Run}
use Rattle.rw_navigator.specs.declared.worlds.condition.Cond.{Cond}
use Rattle.rw_navigator.specs.Conditions.{asks_step, holds_of_step, holds_of_shown}
use Rattle.rw_navigator.specs.Hits as nearest

-- the greatest hit below a place
abbrev pub hit_below : Run ℕ → Cond → ℕ → Option ℕ
hit_below run cond place = nearest.hit_below run (asks_step cond) (holds_of_step cond) (holds_of_shown cond) place

-- the least hit above a place
abbrev pub hit_above : Run ℕ → Cond → ℕ → Option ℕ
hit_above run cond place = nearest.hit_above run (asks_step cond) (holds_of_step cond) (holds_of_shown cond) place
