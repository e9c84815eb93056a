-- The hits of a condition at the places of a run.
use Rattle.std.specs.Prelude.{ℕ, ◌-◌, Bool, not, ◌&&◌, nat_lt, if◌then◌else◌, List, Option}
use Rattle.rw_journal.specs.Run.{Run}
use Rattle.rw_world.specs.Machines.{ChanShown}
use Rattle.rw_world.specs.Specified.{WorldEntry}
use Rattle.rw_navigator.specs.Places.{last_place, shown_at}
use Rattle.rw_navigator.specs.Search.{step_hit, last_below, first_above}

module _ {V : Type 0} (run : Run V) where
  -- a condition on states holds of what is documented at the place, and not at the place before
  abbrev pub comes_true_at : (List (ChanShown V) → Bool) → ℕ → Bool
  comes_true_at holds place = nat_lt 0 place && (holds (shown_at run place) && not (holds (shown_at run (place - 1))))

  -- a condition: whether it is one on entries, and the test of an entry and of what is shown
  module _ (on_step : Bool) (step : WorldEntry V → Bool) (state : List (ChanShown V) → Bool) where
    -- the place is a hit: its entry meets the condition on entries, or the condition on states becomes true there
    abbrev pub is_hit : ℕ → Bool
    is_hit place = if on_step then step_hit step run.entries place else comes_true_at state place

    -- the greatest hit below a place
    abbrev pub hit_below : ℕ → Option ℕ
    hit_below place = last_below is_hit place

    -- the least hit above a place
    abbrev pub hit_above : ℕ → Option ℕ
    hit_above place = first_above is_hit place (last_place run)
