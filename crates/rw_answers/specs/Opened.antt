-- The run of a walk that is there between calls.
use Rattle.std.specs.Prelude.{ℕ, [], Option, None, Some}
use Rattle.rw_console.specs.Walk.{Walk}
use Rattle.rw_journal.specs.Run.{IsRun, Run}

-- the run of the walk
abbrev pub run_walked : Option Walk → Run ℕ
run_walked None = record { specs = []; entries = [] }
run_walked (Some walk) = walk.run

-- the walk is there, over a run
abbrev pub IsWalked : Option Walk → Type 0
IsWalked None = ⊥
IsWalked (Some walk) = IsRun walk.run.specs walk.run.entries
