-- What was found in a run: its losses, totals and closings.
use Rattle.std.specs.Prelude.{◌≡◌, ◌⊎◌, ℕ, List, length, Result, Ok, Err}
use Rattle.rw_law.specs.Numbers.{numbers}
use Rattle.rw_journal.specs.Run.{Run}
use Rattle.rw_text.specs.Memory.{AsksMemory}
use Rattle.rw_text.specs.Reading.{reading_of}
use Rattle.rw_text.specs.declared.faults.TextFault.{TextFault}
use Rattle.rw_text.specs.declared.faults.TextFault.TheVariants.{NoMemory}
use Rattle.rw_findings.specs.Closings.{AreClosings}
use Rattle.rw_findings.specs.Losses.{AreLosses}
use Rattle.rw_findings.specs.Receivers.{AreLastReceipts, AreStarts}
use Rattle.rw_findings.specs.Totals.{AreTotals}
use Rattle.rw_findings.specs.declared.closings.closing.Closing.{Closing}
use Rattle.rw_findings.specs.declared.closings.closing.LateReader.{LateReader}
use Rattle.rw_findings.specs.declared.losses.loss.Loss.{Loss}
use Rattle.rw_findings.specs.declared.starts.start.LossStart.{LossStart}
use Rattle.rw_findings.specs.declared.totals.total.Totals.{Totals}

-- how many entries the run has, and what was found
pub record Findings : Type 0 where
  pub entries : ℕ
  pub losses : List Loss
  pub starts : List LossStart
  pub totals : List Totals
  pub receipts : List ℕ
  pub closings : List Closing
  pub late : List LateReader

-- these are those of the run
pub record AreFindings (run : Run ℕ) (f : Findings) : Type 0 where
  pub entries : f.entries ≡ length run.entries
  pub losses : AreLosses run f.losses
  pub starts : AreStarts run f.losses f.starts
  pub totals : AreTotals run f.totals
  pub receipts : AreLastReceipts run f.totals f.receipts
  pub closings : AreClosings run f.closings f.late

-- a run is read from the text
abbrev pub IsRead : List ℕ → Type 0
IsRead bytes = (run : Run ℕ) × (reading_of numbers bytes ≡ Ok run)

-- What is found in a text: the findings of the run that is read, or the fault for which nothing is read. Memory is refused where the
-- reader asks for it, or once the run is read.
abbrev pub IsFoundIn : List ℕ → Result Findings TextFault → Type 0
IsFoundIn bytes (Ok f) = (run : Run ℕ) × (reading_of numbers bytes ≡ Ok run) × AreFindings run f
IsFoundIn bytes (Err NoMemory) = AsksMemory numbers bytes ⊎ IsRead bytes
IsFoundIn bytes (Err fault) = reading_of numbers bytes ≡ Err fault
