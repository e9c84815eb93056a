-- Runs over files.
use Rattle.std.proofs.Common.{◌≡◌, ◌<◌, ◌≤◌, ◌++◌, ℕ, List, [], Option, None, Some, Result, Ok, Err, inl}
use Rattle.std.proofs.Common.{inr, refl, sym, ap, subst, ◌∙◌, codes, length, arith, lit<}
use Rattle.std.specs.Io.KnownBytes.{Appends, Consumes, Keeps}
use Rattle.std.proofs.lemmas.List.{append-nil, length-append}
use Rattle.rw_console.specs.SessionReport.{recording_of}
use Rattle.rw_console.specs.declared.sessions.TheConstants.{MOST_BYTES}
use Rattle.rw_journal.specs.Run.{Run}
use Rattle.rw_lines.specs.Writing.{WritesPrefix}
use Rattle.rw_lines.specs.declared.streams.StreamFault.{StreamFault}
use Rattle.rw_lines.proofs.Known.{Appends-none}
use Rattle.rw_lines.specs.declared.streams.StreamFault.TheVariants.{Write, NoMemory}
use Rattle.rw_script.specs.Script.{Script}
use Rattle.rw_law.specs.Numbers.{numbers}
use Rattle.rw_text.specs.declared.faults.TextFault.{TextFault}
use Rattle.rw_text.specs.Faults.{text_fault_line}
use Rattle.rw_text.specs.Salvaging.{salvage_of}
use Rattle.rw_text.specs.Texts.{text, text_of}
use Rattle.rw_program.specs.declared.reading.FileFault.{FileFault}
use Rattle.rw_program.specs.declared.reading.FileFault.TheVariants as file_fault
use Rattle.rw_program.specs.Contents.{HasNoScript, HasNoText, IsNoScript, IsNoText, ReadsWhole}
use Rattle.rw_program.specs.Endings.{end_of_record}
use Rattle.rw_program.specs.Files.{Closes, ExplainsReading, Fails, OverFile, TellsLine, TellsWhy}
use Rattle.rw_program.specs.Statuses.{Tells}
use Rattle.rw_program.specs.Verbs.{Salvages}

-- ---- what is read

-- if bytes that were read whole are refused, so is their file, for the same reason
pub no_script : (file file' : Option (List ℕ)) (bytes : List ℕ) → Consumes file file' bytes → length bytes ≤ MOST_BYTES → (why : FileFault)
    → ((Said : List ℕ → Type 0) → Said bytes → ReadsWhole file file' Said) → IsNoScript bytes why → HasNoScript file file' why
no_script file file' bytes read few (file_fault.Stream fault) whole (same, asks) =
    (bytes, read, subst (λ (e : StreamFault). ExplainsReading (length bytes) e) (sym same) few)
no_script file file' bytes read few (file_fault.Script fault) whole said = whole _ said
no_script file file' bytes read few (file_fault.Text fault) whole said = absurd said

pub no_text : {X : Type 0} (text_of : List ℕ → Result X TextFault) (file file' : Option (List ℕ)) (bytes : List ℕ) → Consumes file file' bytes
    → length bytes ≤ MOST_BYTES → (why : FileFault)
    → ((Said : List ℕ → Type 0) → Said bytes → ReadsWhole file file' Said) → IsNoText text_of bytes why → HasNoText text_of file file' why
no_text text_of file file' bytes read few (file_fault.Stream fault) whole (same, asks) =
    (bytes, read, subst (λ (e : StreamFault). ExplainsReading (length bytes) e) (sym same) few)
no_text text_of file file' bytes read few (file_fault.Script fault) whole said = absurd said
no_text text_of file file' bytes read few (file_fault.Text fault) whole said = whole _ said

-- a run over a file whose bytes were read whole
pub over : {file file' : Option (List ℕ)} {Said Made : List ℕ → Type 0} (Unmade : StreamFault → Type 0) → ReadsWhole file file' Said
    → ((bytes : List ℕ) → Said bytes → Made bytes)
    → OverFile file file' Made Unmade
over Unmade (bytes, read, ended, few, said) make = record { bytes = bytes; read = read; made = inl (ended, few, make bytes said) }

-- ---- what is written

-- nothing is a prefix of any text
pub no_prefix : (out : Option (List ℕ)) (text : List ℕ) → WritesPrefix out out text
no_prefix out text = record { text = []; rest = text; written = Appends-none out; prefix = refl }

-- memory ran out before anything was written
pub ran_out : {out : Option (List ℕ)} {line : List ℕ} {status : ℕ} (text : List ℕ) → Tells line status (Err NoMemory) → Fails out out line status text
ran_out {out = out} text told = record { fault = NoMemory; why = tt; prefix = no_prefix out text; told = told }

-- a line was reported after a text was written, or memory ran out
pub told_after : {out out' : Option (List ℕ)} {line : List ℕ} {status : ℕ} (text told : List ℕ) (answered : ℕ) → Appends out out' text
    → TellsLine line status told answered
    → Closes out out' line status (record { written = text; told = told; status = answered })
told_after text told answered written (inl said) = inl (record { written = written; told = said.0; answered = said.1 })
told_after text told answered written (inr memory) =
    inr (record { fault = NoMemory; why = tt; prefix = record { text = text; rest = []; written = written; prefix = append-nil text }; told = memory })

-- a run of a script's channels and journal is the script's
same_run : (run : Run ℕ) (script : Script) → run.specs ≡ (recording_of script).specs → run.entries ≡ (recording_of script).entries → run ≡ recording_of script
same_run run script specs entries =
    ap (λ specs. record { specs = specs; entries = run.entries }) specs
    ∙ ap (λ entries. record { specs = script.specs; entries = entries }) entries

some_prefix : (prefix rest : List ℕ) → 0 < length prefix → 0 < length (prefix ++ rest)
some_prefix prefix rest some = omega (arith, length-append prefix rest)

-- a journal text has its first line
some_text : (run : Run ℕ) → 0 < length (text numbers run)
unfolding text_of
some_text run = some_prefix (codes "ttd-journal 2\n") _ (lit< tt)

-- the writer failed after a prefix of a journal was written
pub unwritten : {out out' : Option (List ℕ)} {line : List ℕ} {status : ℕ} (run : Run ℕ) (told : List ℕ) (answered : ℕ) (fault : StreamFault) → fault ≡ Write
    → WritesPrefix out out' (text numbers run) → Tells line status (Err fault)
    → Closes out out' line status (record { written = text numbers run; told = told; status = answered })
unwritten {line = line} {status = status} run told answered fault write prefix said =
    inr (record { fault = Write; why = some_text run; prefix = prefix; told = subst (λ (e : StreamFault). Tells line status (Err e)) write said })

-- a prefix of a script's journal
pub closes_not : {out out' : Option (List ℕ)} {line : List ℕ} {status : ℕ} (script : Script) (run : Run ℕ) → run.specs ≡ (recording_of script).specs
    → run.entries ≡ (recording_of script).entries
    → (fault : StreamFault) → fault ≡ Write → WritesPrefix out out' (text numbers run) → Tells line status (Err fault)
    → Closes out out' line status (end_of_record (Ok script))
closes_not {out = out} {out' = out'} script run specs entries fault write prefix told =
    unwritten (recording_of script) _ _ fault write (subst (λ (r : Run ℕ). WritesPrefix out out' (text numbers r)) (same_run run script specs entries) prefix)
    told

-- ---- salvage

keeps_self : (out : Option (List ℕ)) → Keeps out out
keeps_self None = tt
keeps_self (Some bytes) = refl

-- nothing is written for a text from which no run is salvaged
pub unsalvaged : {file file' : Option (List ℕ)} (out : Option (List ℕ)) {line : List ℕ} {status : ℕ} (why : FileFault)
    → HasNoText (salvage_of numbers) file file' why → TellsWhy line status why → Salvages file file' out out line status
unsalvaged out (file_fault.Stream fault) (bytes, read, explained) told =
    record { bytes = bytes; read = read; made = inr (fault, explained, (keeps_self out, told)) }
unsalvaged out (file_fault.Script fault) none told = absurd none
unsalvaged out (file_fault.Text fault) held told = over _ held (λ bytes said. rw said (told_after [] (text_fault_line fault) 1 (Appends-none out) told))
