-- A run of commands over two streams, and how its end is reported.
use Rattle.std.specs.Prelude.{◌≡◌, ℕ, List, Option, Result, Ok, Err}
use Rattle.rw_lines.specs.declared.streams.StreamFault.{StreamFault}
use Rattle.rw_console.specs.declared.sessions.Outcome.{Outcome}
use Rattle.rw_console.specs.declared.sessions.TheConstants.{MOST_BYTES}
use Rattle.rw_console.specs.Streams.{Answers, Stops}
use Rattle.rw_program.specs.Statuses.{Tells}

module _ (report : List ℕ → List ℕ) (outcome : List ℕ → Outcome) (begun : List (List ℕ) → Type 0) where
  -- a run with this result has read these bytes and written these
  abbrev pub Ends : Option (List ℕ) → Option (List ℕ) → Option (List ℕ) → Option (List ℕ) → Result Outcome StreamFault → Type 0
  Ends input input' out out' (Ok o) = (done : Answers input input' out out' report MOST_BYTES) × (outcome done.bytes ≡ o)
  Ends input input' out out' (Err fault) = Stops input input' out out' report begun MOST_BYTES fault

  -- It ended, and this line and this status report its end.
  pub record Runs (input input' out out' : Option (List ℕ)) (line : List ℕ) (status : ℕ) : Type 0 where
    pub ended : Result Outcome StreamFault
    pub commands : Ends input input' out out' ended
    pub told : Tells line status ended
