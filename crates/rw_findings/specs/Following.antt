-- A machine of one channel at a place of a run.
use Rattle.std.specs.Prelude.{◌≡◌, ℕ, ◌+◌, ◌-◌, ◌≤◌, Some, slice_get}
use Rattle.rw_journal.specs.Run.{Run}
use Rattle.rw_navigator.specs.Places.{last_place, shown_at}
use Rattle.rw_world.specs.declared.channels.Chan.{Chan}
use Rattle.rw_world.specs.Machines.{of_chan}

-- a channel's machine shows what is documented of its channel at a place of a run, and has room for the calls that follow
pub record Stands {V : Type 0} (run : Run V) (channel : ℕ) (machine : Chan V) (place : ℕ) : Type 0 where
  pub shows : slice_get (shown_at run place) channel ≡ Some ((of_chan {V = V}).shown machine)
  pub room : (of_chan {V = V}).weigh ((of_chan {V = V}).shown machine) + (last_place run - place) ≤ (of_chan {V = V}).reserved machine
