-- The places of a run, 0 to the number of its entries.
use Rattle.std.specs.Prelude.{ℕ, ◌-◌, nat_lt, List, length, Option, None, slice_get, if◌then◌else◌}
use Rattle.rw_journal.specs.Run.{Run}
use Rattle.rw_world.specs.Machines.{ChanShown}
use Rattle.rw_world.specs.Records.{documented_at}
use Rattle.rw_world.specs.Specified.{WorldEntry}

module _ {V : Type 0} where
  abbrev pub last_place : Run V → ℕ
  last_place run = length run.entries

  -- what the channels show at a place: what the records of all that was ever sent show after the entries that lead there
  abbrev pub shown_at : Run V → ℕ → List (ChanShown V)
  shown_at run place = documented_at run.specs run.entries place

  -- the entry that leads to a place: entry 1 leads to place 1
  abbrev pub entry_to : Run V → ℕ → Option (WorldEntry V)
  entry_to run place = if nat_lt 0 place then slice_get run.entries (place - 1) else None
