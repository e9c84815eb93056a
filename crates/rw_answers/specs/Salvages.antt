-- The text of a page that opens a journal which was cut off.
use Rattle.std.specs.Prelude.{ℕ, List, ◌++◌, Result, Ok, Err, codes, decimal}
use Rattle.rw_journal.specs.Run.{Run}
use Rattle.rw_law.specs.Numbers.{numbers}
use Rattle.rw_text.specs.declared.faults.TextFault.{TextFault}
use Rattle.rw_text.specs.Faults.{text_fault_line}
use Rattle.rw_text.specs.Salvaging.{salvage_of}
use Rattle.rw_text.specs.Texts.{text}

-- how many bytes of a text were kept
abbrev pub kept_line : ℕ → List ℕ
kept_line count = codes "kept " ++ decimal count ++ codes " bytes\n"

-- how many bytes were kept, and the journal text of the run of their lines; or the text's first fault
abbrev pub salvage_report : Result (Run ℕ × ℕ) TextFault → List ℕ
salvage_report (Ok p) = kept_line p.1 ++ text numbers p.0
salvage_report (Err fault) = text_fault_line fault

-- the same of a text that may have been cut off
abbrev pub salvage_page : List ℕ → List ℕ
salvage_page journal = salvage_report (salvage_of numbers journal)
