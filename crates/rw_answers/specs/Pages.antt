-- What debug_page and session_page return.
use Rattle.std.specs.Prelude.{◌≡◌, ◌≤◌, ◌⊎◌, ℕ, List, ◌++◌, Result, Ok, Err, length}
use Rattle.rw_console.specs.Report.{commands_report}
use Rattle.rw_journal.specs.Run.{Run}
use Rattle.rw_law.specs.Numbers.{numbers}
use Rattle.rw_navigator.specs.Places.{last_place}
use Rattle.rw_text.specs.declared.faults.TextFault.{TextFault}
use Rattle.rw_text.specs.Faults.{text_fault_line}
use Rattle.rw_text.specs.Reading.{reading_of}

-- what the commands write over a run, or a journal text's first fault
abbrev pub page_report : Result (Run ℕ) TextFault → List ℕ → List ℕ
page_report (Ok run) commands = commands_report run (last_place run) commands
page_report (Err fault) commands = text_fault_line fault

-- what the commands write over the run whose journal text the first bytes are
abbrev pub page_of : List ℕ → List ℕ → List ℕ
page_of journal commands = page_report (reading_of numbers journal) commands

-- the first of these bytes, no more than the limit, have a report that doesn't change whatever follows them
pub record IsDecidedBefore (limit : ℕ) (report : List ℕ → List ℕ) (bytes : List ℕ) : Type 0 where
  pub first : List ℕ
  pub rest : List ℕ
  pub parts : bytes ≡ first ++ rest
  pub few : length first ≤ limit
  pub decided : (more : List ℕ) → report (first ++ more) ≡ report first

-- these bytes are no more than the limit, or no byte above it has to be read for their report
abbrev pub IsWithin : (limit : ℕ) → (List ℕ → List ℕ) → List ℕ → Type 0
IsWithin limit report bytes = (length bytes ≤ limit) ⊎ IsDecidedBefore limit report bytes
