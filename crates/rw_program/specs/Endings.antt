-- How a run over a file ends.
use Rattle.std.specs.Prelude.{ℕ, List, [], ◌++◌, length, Result, Ok, Err, codes, decimal}
use Rattle.rw_console.specs.SessionReport.{fault_line, outcome_at, recording_of, waiting_line}
use Rattle.rw_journal.specs.Run.{Run}
use Rattle.rw_lines.specs.Lines.{lines}
use Rattle.rw_script.specs.declared.faults.ScriptFault.{ScriptFault}
use Rattle.rw_script.specs.Running.{run_of}
use Rattle.rw_script.specs.Script.{Script, script_in}
use Rattle.rw_law.specs.Numbers.{numbers}
use Rattle.rw_text.specs.declared.faults.TextFault.{TextFault}
use Rattle.rw_text.specs.Faults.{text_fault_line}
use Rattle.rw_text.specs.Reading.{reading_of}
use Rattle.rw_text.specs.Salvaging.{salvage_of}
use Rattle.rw_text.specs.Texts.{text}
use Rattle.rw_program.specs.Statuses.{status_of}

-- a text on standard output, a line on standard error, and an exit status
pub record Ending : Type 0 where
  pub written : List ℕ
  pub told : List ℕ
  pub status : ℕ

-- a script's fault is written to standard error
abbrev pub refused_script : ScriptFault → Ending
refused_script fault = record { written = []; told = fault_line fault; status = 1 }

-- a journal text's fault is written to standard output, where its entries would be counted or shown
abbrev pub refused_text : TextFault → Ending
refused_text fault = record { written = text_fault_line fault; told = []; status = 1 }

-- ---- `record`: the journal text of a script's run, and then on standard error which line would wait

abbrev pub end_of_record : Result Script ScriptFault → Ending
end_of_record (Ok script) = record {
  written = text numbers (recording_of script);
  told = waiting_line (run_of script).waits;
  status = status_of (Ok (outcome_at (run_of script).waits));
}
end_of_record (Err fault) = refused_script fault

abbrev pub record_of : List ℕ → Ending
record_of bytes = end_of_record (script_in (lines bytes))

-- ---- `check`: how many entries a journal text has

abbrev pub end_of_check : Result (Run ℕ) TextFault → Ending
end_of_check (Ok run) = record { written = codes "ok " ++ decimal (length run.entries) ++ codes "\n"; told = []; status = 0 }
end_of_check (Err fault) = refused_text fault

abbrev pub check_of : List ℕ → Ending
check_of bytes = end_of_check (reading_of numbers bytes)

-- ---- `salvage`: the journal text of the salvaged run, and then on standard error how many bytes were salvaged

abbrev pub kept_line : ℕ → List ℕ
kept_line count = codes "kept " ++ decimal count ++ codes " bytes\n"

-- a fault is written to standard error, since standard output would have a journal
abbrev pub end_of_salvage : Result (Run ℕ × ℕ) TextFault → Ending
end_of_salvage (Ok p) = record { written = text numbers p.0; told = kept_line p.1; status = 0 }
end_of_salvage (Err fault) = record { written = []; told = text_fault_line fault; status = 1 }

abbrev pub salvaging_of : List ℕ → Ending
salvaging_of bytes = end_of_salvage (salvage_of numbers bytes)
