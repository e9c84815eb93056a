-- A whole session, from its script and its commands.
use Rattle.std.proofs.Common.{◌≡◌, ◌++◌, ◌∷◌, [], ◌≤◌, ℕ, List, Option, Result, Ok, Err, refl, sym, ap, subst, ◌∙◌, length, arith, append_assoc, inl, inr}
use Rattle.std.specs.Prelude.{◌⊎◌}
use Rattle.std.specs.Io.KnownBytes.{Consumes, Appends, IsAtEnd}
use Rattle.std.proofs.lemmas.List.{append-nil, length-append}
use Rattle.std.proofs.lemmas.List.Elements.{All-append}
use Rattle.std.proofs.lemmas.List.Concat.{flat_map-append}
use Rattle.rw_lines.specs.declared.streams.StreamFault.{StreamFault}
use Rattle.rw_lines.specs.declared.streams.StreamFault.TheVariants.{Read, Write, TooMuch, NoMemory}
use Rattle.rw_lines.specs.Lines.{IsUnbroken, lines, unlines}
use Rattle.rw_lines.proofs.Known.{Appends-none, Appends-then, Consumes-then}
use Rattle.rw_lines.proofs.LineLaws.{lines_unlines}
use Rattle.rw_script.specs.declared.faults.ScriptFault.{ScriptFault}
use Rattle.rw_console.specs.declared.sessions.Outcome.TheVariants.{Refused}
use Rattle.rw_journal.specs.Run.{Run}
use Rattle.rw_script.specs.Running.{run_of}
use Rattle.rw_script.specs.Script.{Script, script_in, after_mark}
use Rattle.rw_console.specs.ScriptReading.{ExplainsScript, StopsInScript, HasMark, GivesScript, GivesAll, GivesFault}
use Rattle.rw_navigator.specs.Places.{last_place}
use Rattle.rw_console.specs.Report.{commands_report}
use Rattle.rw_console.specs.SessionReport.{recording_of, fault_line, waiting_line, answer, outcome_at, outcome_of, report, outcome}
use Rattle.rw_console.specs.Streams.{Answers, Stops, Explains, Always}
use Rattle.rw_lines.specs.Writing.{IsOfWriting, StopsWriting}

unlines-append : (a b : List (List ℕ)) → unlines (a ++ b) ≡ unlines a ++ unlines b
unlines-append a b = flat_map-append (λ (l : List ℕ). l ++ 10 ∷ []) a b

-- ---- from what the lines mean

script_at : {r0 r1 : Option (List ℕ)} {before after : ℕ} {said : Result Script ScriptFault} → (h : GivesScript r0 r1 before after said) (bs : List ℕ)
    → script_in (lines (unlines h.ls ++ bs)) ≡ said
script_at h bs = ap script_in (lines_unlines h.ls bs h.each) ∙ h.script (lines bs)

-- a script that ends with its mark, and has a fault as a whole
pub fault_at_mark : {r0 r1 : Option (List ℕ)} {before after : ℕ} (said : Result Script ScriptFault) (f : ScriptFault) → said ≡ Err f
    → GivesScript r0 r1 before after said → GivesFault r0 r1 before f
fault_at_mark said f e h = record {
  bytes = unlines h.ls;
  few = omega (arith, h.count);
  read = h.read;
  script = ap (λ (x : List ℕ). script_in (lines x)) (sym (append-nil (unlines h.ls))) ∙ script_at h [] ∙ e;
  whole = inr (λ more. script_at h more ∙ e);
}

-- ---- a script, then commands

-- what a script's run writes first
abbrev said : Script → List ℕ
said s = waiting_line (run_of s).waits

-- what the commands of a script write
abbrev answered : Script → List ℕ → List ℕ
answered s bs = commands_report (recording_of s) (last_place (recording_of s)) bs

report_at : {r0 r1 : Option (List ℕ)} {before after : ℕ} {s : Script} → (h : GivesScript r0 r1 before after (Ok s)) (bs : List ℕ)
    → report (unlines h.ls ++ bs) ≡ said s ++ answered s bs
report_at {s = s} h bs =
    ap (λ (x : List (List ℕ)). answer (script_in x) (after_mark x)) (lines_unlines h.ls bs h.each)
    ∙ ap (λ (r : Result Script ScriptFault). answer r (after_mark (h.ls ++ lines bs))) (h.script (lines bs))
    ∙ ap (λ (x : List (List ℕ)). answer (Ok s) x) (h.rest (lines bs))

report_before : {r0 r1 : Option (List ℕ)} {before after : ℕ} {s : Script} → (h : GivesScript r0 r1 before after (Ok s)) → report (unlines h.ls) ≡ said s
report_before {s = s} h = ap report (sym (append-nil (unlines h.ls))) ∙ report_at h [] ∙ append-nil (said s)

whole_at : {r0 r1 : Option (List ℕ)} {before after : ℕ} {s : Script} → (r2 : Option (List ℕ)) (h : GivesScript r0 r1 before after (Ok s)) (bs : List ℕ)
    → (IsAtEnd r2 ⊎ ((more : List ℕ) → answered s (bs ++ more) ≡ answered s bs))
    → IsAtEnd r2 ⊎ ((more : List ℕ) → report ((unlines h.ls ++ bs) ++ more) ≡ report (unlines h.ls ++ bs))
whole_at r2 h bs (inl e) = inl e
whole_at {s = s} r2 h bs (inr m) = inr (λ more. ap report (append_assoc (unlines h.ls) bs more) ∙ report_at h (bs ++ more)
    ∙ ap (λ (x : List ℕ). said s ++ x) (m more) ∙ sym (report_at h bs))

pub done : {r0 r1 r2 w0 w1 w2 : Option (List ℕ)} {before after : ℕ} {s : Script}
    → (h : GivesScript r0 r1 before after (Ok s)) (first : Appends w0 w1 (said s)) (run : Run ℕ) (same : run ≡ recording_of s)
    (place : ℕ) (p : place ≡ last_place run) (waits : Option ℕ) (e : waits ≡ (run_of s).waits) (d : Answers r1 r2 w1 w2 (commands_report run place) after)
    → (done : Answers r0 r2 w0 w2 report before) × (outcome done.bytes ≡ outcome_at waits)
done {r0 = r0} {r1 = r1} {r2 = r2} {w0 = w0} {w1 = w1} {w2 = w2} {after = after} {s = s} h first run same place p waits e d' =
    let d : Answers r1 r2 w1 w2 (answered s) after =
    subst (λ (t : Run ℕ). Answers r1 r2 w1 w2 (commands_report t (last_place t)) after) same
    (subst (λ (q : ℕ). Answers r1 r2 w1 w2 (commands_report run q) after) p d') in (
      record {
        bytes = unlines h.ls ++ d.bytes;
        few = omega (arith, h.count, d.few, length-append (unlines h.ls) d.bytes);
        read = Consumes-then r0 r1 r2 (unlines h.ls) d.bytes h.read d.read;
        written = subst (λ (t : List ℕ). Appends w0 w2 t) (sym (report_at h d.bytes)) (Appends-then w0 w1 w2 (said s) (answered s d.bytes) first d.written);
        whole = whole_at r2 h d.bytes d.whole;
      },
      ap outcome_of (script_at h d.bytes) ∙ ap outcome_at (sym e),
    )

explains : {r0 r1 : Option (List ℕ)} {before after : ℕ} {s : Script} → (h : GivesScript r0 r1 before after (Ok s)) (bytes text : List ℕ) (e : StreamFault)
    → Explains (answered s) Always after bytes text e → Explains report HasMark before (unlines h.ls ++ bytes) (said s ++ text) e
explains {s = s} h bytes text Read why = (
  h.ls ++ why.0,
  why.1,
  All-append IsUnbroken h.ls why.0 h.each why.2,
  why.3,
  ap (λ (x : List ℕ). unlines h.ls ++ x) why.4 ∙ sym (append_assoc (unlines h.ls) (unlines why.0) why.1)
      ∙ ap (λ (x : List ℕ). x ++ why.1) (sym (unlines-append h.ls why.0)),
  λ _. ap (λ (x : List ℕ). said s ++ x) (why.5 tt) ∙ sym (report_at h (unlines why.0)) ∙ ap report (sym (unlines-append h.ls why.0)),
  omega (arith, h.count, why.6, length-append (unlines h.ls) bytes),
)
explains h bytes text TooMuch why = omega (arith, h.count, why, length-append (unlines h.ls) bytes)
explains h bytes text Write why = omega (arith, h.count, why, length-append (unlines h.ls) bytes)
explains h bytes text NoMemory why = omega (arith, h.count, why, length-append (unlines h.ls) bytes)

pub stops : {r0 r1 r2 w0 w1 w2 : Option (List ℕ)} {before after : ℕ} {s : Script}
    → (h : GivesScript r0 r1 before after (Ok s)) (first : Appends w0 w1 (said s)) (run : Run ℕ) (same : run ≡ recording_of s)
    (place : ℕ) (p : place ≡ last_place run) (e : StreamFault) (d : Stops r1 r2 w1 w2 (commands_report run place) Always after e)
    → Stops r0 r2 w0 w2 report HasMark before e
stops {r0 = r0} {r1 = r1} {r2 = r2} {w0 = w0} {w1 = w1} {w2 = w2} {after = after} {s = s} h first run same place p e d' =
    let d : Stops r1 r2 w1 w2 (answered s) Always after e =
    subst (λ (t : Run ℕ). Stops r1 r2 w1 w2 (commands_report t (last_place t)) Always after e) same
    (subst (λ (q : ℕ). Stops r1 r2 w1 w2 (commands_report run q) Always after e) p d') in
    record {
      bytes = unlines h.ls ++ d.bytes;
      text = said s ++ d.text;
      rest = d.rest;
      read = Consumes-then r0 r1 r2 (unlines h.ls) d.bytes h.read d.read;
      written = Appends-then w0 w1 w2 (said s) d.text first d.written;
      prefix = append_assoc (said s) d.text d.rest ∙ ap (λ (x : List ℕ). said s ++ x) d.prefix ∙ sym (report_at h d.bytes);
      why = explains h d.bytes d.text e d.why;
    }

explains_writing : (limit : ℕ) (bytes text : List ℕ) → length bytes ≤ limit → (e : StreamFault) → IsOfWriting e → Explains report HasMark limit bytes text e
explains_writing limit bytes text few Read why = absurd why
explains_writing limit bytes text few TooMuch why = absurd why
explains_writing limit bytes text few Write why = few
explains_writing limit bytes text few NoMemory why = few

-- a prefix of the report of these bytes was written
stops_writing : {r0 r1 w0 w1 : Option (List ℕ)}
    → (limit : ℕ) (bytes output : List ℕ) (few : length bytes ≤ limit) (read : Consumes r0 r1 bytes) (here : report bytes ≡ output) (e : StreamFault)
    (put : StopsWriting w0 w1 output e)
    → Stops r0 r1 w0 w1 report HasMark limit e
stops_writing limit bytes output few read here e put = record {
  bytes = bytes;
  text = put.1.text;
  rest = put.1.rest;
  read = read;
  written = put.1.written;
  prefix = put.1.prefix ∙ sym here;
  why = explains_writing limit bytes put.1.text few e put.0;
}

-- before the first command
pub stops_at_begin : {r0 r1 w0 w1 : Option (List ℕ)} {before after : ℕ} {s : Script}
    → (h : GivesScript r0 r1 before after (Ok s)) (e : StreamFault) (put : StopsWriting w0 w1 (said s) e) → Stops r0 r1 w0 w1 report HasMark before e
stops_at_begin {before = before} {s = s} h e put = stops_writing before (unlines h.ls) (said s) (omega (arith, h.count)) h.read (report_before h) e put

-- ---- a script alone

explains_script : (limit : ℕ) (bytes : List ℕ) (e : StreamFault) → ExplainsScript limit bytes e → Explains report HasMark limit bytes [] e
explains_script limit bytes Read why = (why.0, why.1, why.2, why.3, why.4, λ m. absurd (why.5 m), why.6)
explains_script limit bytes TooMuch why = why
explains_script limit bytes Write why = absurd why
explains_script limit bytes NoMemory why = why

pub stops_in_script : {r0 r1 : Option (List ℕ)} {limit : ℕ} → (w : Option (List ℕ)) (e : StreamFault) (s : StopsInScript r0 r1 limit e)
    → Stops r0 r1 w w report HasMark limit e
stops_in_script {limit = limit} w e s = record {
  bytes = s.bytes;
  text = [];
  rest = report s.bytes;
  read = s.read;
  written = Appends-none w;
  prefix = refl;
  why = explains_script limit s.bytes e s.why;
}

report_alone : {r0 r1 : Option (List ℕ)} {limit : ℕ} {s : Script} → (h : GivesAll r0 r1 limit (Ok s)) → report h.bytes ≡ said s
report_alone {s = s} h =
    ap (λ (r : Result Script ScriptFault). answer r (after_mark (lines h.bytes))) h.script ∙ ap (λ (x : List (List ℕ)). answer (Ok s) x) h.rest
    ∙ append-nil (said s)

pub ended : {r0 r1 w0 w1 : Option (List ℕ)} {limit : ℕ} {s : Script}
    → (h : GivesAll r0 r1 limit (Ok s)) (first : Appends w0 w1 (said s)) (waits : Option ℕ) (e : waits ≡ (run_of s).waits)
    → (done : Answers r0 r1 w0 w1 report limit) × (outcome done.bytes ≡ outcome_at waits)
ended {w0 = w0} {w1 = w1} {s = s} h first waits e = (
  record {
    bytes = h.bytes;
    few = h.few;
    read = h.read;
    written = subst (λ (t : List ℕ). Appends w0 w1 t) (sym (report_alone h)) first;
    whole = inl h.ended;
  },
  ap outcome_of h.script ∙ ap outcome_at (sym e),
)

pub ended_stops : {r0 r1 w0 w1 : Option (List ℕ)} {s : Script}
    → (limit : ℕ) (h : GivesAll r0 r1 limit (Ok s)) (e : StreamFault) (put : StopsWriting w0 w1 (said s) e) → Stops r0 r1 w0 w1 report HasMark limit e
ended_stops {s = s} limit h e put = stops_writing limit h.bytes (said s) h.few h.read (report_alone h) e put

-- ---- a fault

fault_at : (f : ScriptFault) (bytes : List ℕ) → script_in (lines bytes) ≡ Err f → report bytes ≡ fault_line f
fault_at f bytes e = ap (λ (r : Result Script ScriptFault). answer r (after_mark (lines bytes))) e

whole_fault : (r1 : Option (List ℕ)) (f : ScriptFault) (bytes : List ℕ) → script_in (lines bytes) ≡ Err f
    → (IsAtEnd r1 ⊎ ((more : List ℕ) → script_in (lines (bytes ++ more)) ≡ Err f))
    → IsAtEnd r1 ⊎ ((more : List ℕ) → report (bytes ++ more) ≡ report bytes)
whole_fault r1 f bytes here (inl e) = inl e
whole_fault r1 f bytes here (inr m) = inr (λ more. fault_at f (bytes ++ more) (m more) ∙ sym (fault_at f bytes here))

pub refused : {r0 r1 w0 w1 : Option (List ℕ)} {limit : ℕ} → (f : ScriptFault) (h : GivesFault r0 r1 limit f) (put : Appends w0 w1 (fault_line f))
    → (done : Answers r0 r1 w0 w1 report limit) × (outcome done.bytes ≡ Refused f)
refused {r1 = r1} {w0 = w0} {w1 = w1} f h put = (
  record {
    bytes = h.bytes;
    few = h.few;
    read = h.read;
    written = subst (λ (t : List ℕ). Appends w0 w1 t) (sym (fault_at f h.bytes h.script)) put;
    whole = whole_fault r1 f h.bytes h.script h.whole;
  },
  ap outcome_of h.script,
)

pub refused_stops : {r0 r1 w0 w1 : Option (List ℕ)}
    → (limit : ℕ) (f : ScriptFault) (h : GivesFault r0 r1 limit f) (e : StreamFault) (put : StopsWriting w0 w1 (fault_line f) e)
    → Stops r0 r1 w0 w1 report HasMark limit e
refused_stops limit f h e put = stops_writing limit h.bytes (fault_line f) h.few h.read (fault_at f h.bytes h.script) e put
