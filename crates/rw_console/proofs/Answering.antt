-- Commands, after some of their lines were run.
use Rattle.std.proofs.Common.{◌≡◌, ◌++◌, ◌∷◌, [], ◌+◌, ◌≤◌, ℕ, true, false, List, Option, refl, sym, ap, subst, ◌∙◌, length, All, arith, append_assoc, inl, inr}
use Rattle.std.specs.Io.KnownBytes.{Consumes, Appends}
use Rattle.std.proofs.lemmas.Bool.{cases_Bool, cond-true, cond-false}
use Rattle.std.proofs.lemmas.List.{append-nil, length-append}
use Rattle.std.proofs.lemmas.List.Elements.{All-push, All-nil}
use Rattle.rw_lines.specs.declared.streams.StreamFault.{StreamFault}
use Rattle.rw_lines.specs.declared.streams.StreamFault.TheVariants.{Read, Write, TooMuch, NoMemory}
use Rattle.rw_lines.specs.Lines.{IsUnbroken, lines, unlines}
use Rattle.rw_lines.specs.Reading.{kept_part, GivesLine, GivesLast, GivesNone, StopsBecause, StopsInLine}
use Rattle.rw_lines.proofs.Known.{Appends-none, Appends-then, Consumes-none, Consumes-then}
use Rattle.rw_lines.proofs.LineLaws.{lines_line, lines_last, lines_unlines, unlines_push}
use Rattle.rw_journal.specs.Run.{Run}
use Rattle.rw_console.specs.Commands.{command_in, is_quit}
use Rattle.rw_console.specs.Report.{output_of, outputs, commands_report, place_of}
use Rattle.rw_console.specs.Streams.{Answers, Stops, Explains, Always}
use Rattle.rw_lines.specs.Writing.{IsOfWriting, StopsWriting, WritesPrefix}
use Rattle.rw_console.proofs.Kept.{command_in-kept}

pub record Answering (reader reader' writer writer' : Option (List ℕ)) (before allowed : ℕ) (start run : Run ℕ) (first place : ℕ) : Type 0 where
  pub ls : List (List ℕ)
  pub each : All IsUnbroken ls
  pub read : Consumes reader reader' (unlines ls)
  pub text : List ℕ
  pub written : Appends writer writer' text
  pub follows : (more : List (List ℕ)) → outputs start first (ls ++ more) ≡ text ++ outputs start place more
  pub count : length (unlines ls) + allowed ≡ before
  pub same : run ≡ start

pub begins : (r w : Option (List ℕ)) (before : ℕ) (start : Run ℕ) (first : ℕ) → Answering r r w w before before start start first first
begins r w before start first = record {
  ls = [];
  each = All-nil IsUnbroken;
  read = Consumes-none r;
  text = [];
  written = Appends-none w;
  follows = λ more. refl;
  count = omega arith;
  same = refl;
}

-- ---- what lines write

-- what the lines after a command's line write
abbrev rest_of : Run ℕ → ℕ → List ℕ → List (List ℕ) → List ℕ
rest_of run place l ls = outputs run (place_of run place (command_in l)) ls

outputs_go : (run : Run ℕ) (place : ℕ) (l : List ℕ) (ls : List (List ℕ)) → is_quit (command_in l) ≡ false
    → outputs run place (l ∷ ls) ≡ output_of run place (command_in l) ++ rest_of run place l ls
outputs_go run place l ls e = ap (λ (x : List ℕ). output_of run place (command_in l) ++ x) (cond-false (is_quit (command_in l)) [] (rest_of run place l ls) e)

outputs_quit : (run : Run ℕ) (place : ℕ) (l : List ℕ) (ls : List (List ℕ)) → is_quit (command_in l) ≡ true
    → outputs run place (l ∷ ls) ≡ output_of run place (command_in l)
outputs_quit run place l ls e =
    ap (λ (x : List ℕ). output_of run place (command_in l) ++ x) (cond-true (is_quit (command_in l)) [] (rest_of run place l ls) e)
    ∙ append-nil (output_of run place (command_in l))

outputs_last : (run : Run ℕ) (place : ℕ) (l : List ℕ) → outputs run place (l ∷ []) ≡ output_of run place (command_in l)
outputs_last run place l =
    elim (cases_Bool (is_quit (command_in l))) [
      | inl e ↦ outputs_quit run place l [] e
      | inr e ↦ outputs_go run place l [] e ∙ append-nil (output_of run place (command_in l))
    ]

-- ---- lines after whole lines

pub line_after : (ls : List (List ℕ)) (text bs : List ℕ) → All IsUnbroken ls → IsUnbroken text
    → lines ((unlines ls ++ (text ++ 10 ∷ [])) ++ bs) ≡ ls ++ text ∷ lines bs
line_after ls text bs each u =
    ap lines (append_assoc (unlines ls) (text ++ 10 ∷ []) bs) ∙ lines_unlines ls ((text ++ 10 ∷ []) ++ bs) each
    ∙ ap (λ (x : List (List ℕ)). ls ++ x) (ap lines (append_assoc text (10 ∷ []) bs) ∙ lines_line text bs u)

pub line_only : (text : List ℕ) → IsUnbroken text → lines (text ++ 10 ∷ []) ≡ text ∷ []
line_only text u = lines_line text [] u

-- ---- the loop

of_text : (line text : List ℕ) → line ≡ kept_part text → command_in line ≡ command_in text
of_text line text fits = ap command_in fits ∙ command_in-kept text

pub more_line : {r0 r r' w0 w w' : Option (List ℕ)} {before allowed allowed' : ℕ} {start run : Run ℕ} {first place : ℕ} {line : List ℕ}
    → (a : Answering r0 r w0 w before allowed start run first place) (l : GivesLine r r' allowed allowed' line) (quit : is_quit (command_in line) ≡ false)
    (put : Appends w w' (output_of run place (command_in line))) (run' : Run ℕ) (place' : ℕ) (p : place' ≡ place_of run place (command_in line))
    (s : run' ≡ run)
    → Answering r0 r' w0 w' before allowed' start run' first place'
more_line {r0 = r0} {r = r} {r' = r'} {w0 = w0} {w = w} {w' = w'} {before = before} {allowed = allowed} {allowed' = allowed'} {start = start} {run = run}
    {first = first} {place = place} {line = line} a l quit put run' place' p s =
    let c = of_text _ l.text l.fits in
    let put' : Appends w w' (output_of start place (command_in l.text)) = rw (← a.same, ← c) put in
    let p' : place' ≡ place_of start place (command_in l.text) = rw (← a.same, ← c) p in
    record {
      ls = a.ls ++ l.text ∷ [];
      each = All-push IsUnbroken a.ls l.text a.each l.unbroken;
      read = rw (unlines_push a.ls l.text) (Consumes-then r0 r r' (unlines a.ls) (l.text ++ 10 ∷ []) a.read l.read);
      text = a.text ++ output_of start place (command_in l.text);
      written = Appends-then w0 w w' a.text (output_of start place (command_in l.text)) a.written put';
      follows = λ more. ap (outputs start first) (append_assoc a.ls (l.text ∷ []) more) ∙ a.follows (l.text ∷ more)
          ∙ ap (λ (x : List ℕ). a.text ++ x) (outputs_go start place l.text more (sym (ap is_quit c) ∙ quit))
          ∙ sym (append_assoc a.text (output_of start place (command_in l.text)) (outputs start (place_of start place (command_in l.text)) more))
          ∙ ap (λ (q : ℕ). (a.text ++ output_of start place (command_in l.text)) ++ outputs start q more) (sym p');
      count = omega (
        arith,
        ap length (unlines_push a.ls l.text),
        length-append (unlines a.ls) (l.text ++ 10 ∷ []),
        length-append l.text (10 ∷ []),
        l.count,
        a.count,
      );
      same = s ∙ a.same;
    }

-- at a line that quits
pub quits : {r0 r r' w0 w w' : Option (List ℕ)} {before allowed allowed' : ℕ} {start run : Run ℕ} {first place : ℕ} {line : List ℕ}
    → (a : Answering r0 r w0 w before allowed start run first place) (l : GivesLine r r' allowed allowed' line) (quit : is_quit (command_in line) ≡ true)
    (put : Appends w w' (output_of run place (command_in line))) → Answers r0 r' w0 w' (commands_report start first) before
quits {r0 = r0} {r = r} {r' = r'} {w0 = w0} {w = w} {w' = w'} {start = start} {first = first} {place = place} a l quit put =
    let c = of_text _ l.text l.fits in
    let out : List ℕ = output_of start place (command_in l.text) in
    let put' : Appends w w' out = rw (← a.same, ← c) put in
    let bytes : List ℕ = unlines a.ls ++ (l.text ++ 10 ∷ []) in
    let at : (more : List ℕ) → commands_report start first (bytes ++ more) ≡ a.text ++ out = λ more.
    ap (outputs start first) (line_after a.ls l.text more a.each l.unbroken) ∙ a.follows (l.text ∷ lines more)
    ∙ ap (λ (x : List ℕ). a.text ++ x) (outputs_quit start place l.text (lines more) (sym (ap is_quit c) ∙ quit)) in
    let here : commands_report start first bytes ≡ a.text ++ out = ap (commands_report start first) (sym (append-nil bytes)) ∙ at [] in
    record {
      bytes = bytes;
      few = omega (arith, length-append (unlines a.ls) (l.text ++ 10 ∷ []), length-append l.text (10 ∷ []), l.count, a.count);
      read = Consumes-then r0 r r' (unlines a.ls) (l.text ++ 10 ∷ []) a.read l.read;
      written = subst (λ (t : List ℕ). Appends w0 w' t) (sym here) (Appends-then w0 w w' a.text out a.written put');
      whole = inr (λ more. at more ∙ sym here);
    }

-- at the last line
pub ends_last : {r0 r r' w0 w w' : Option (List ℕ)} {before allowed allowed' : ℕ} {start run : Run ℕ} {first place : ℕ} {line : List ℕ}
    → (a : Answering r0 r w0 w before allowed start run first place) (l : GivesLast r r' allowed allowed' line)
    (put : Appends w w' (output_of run place (command_in line))) → Answers r0 r' w0 w' (commands_report start first) before
ends_last {r0 = r0} {r = r} {r' = r'} {w0 = w0} {w = w} {w' = w'} {before = before} {allowed = allowed} {allowed' = allowed'} {start = start} {run = run}
    {first = first} {place = place} {line = line} a l put =
    let c = of_text _ l.text l.fits in
    let put' : Appends w w' (output_of start place (command_in l.text)) = rw (← a.same, ← c) put in
    let here : commands_report start first (unlines a.ls ++ l.text) ≡ a.text ++ output_of start place (command_in l.text) =
    ap (outputs start first) (lines_unlines a.ls l.text a.each ∙ ap (λ (x : List (List ℕ)). a.ls ++ x) (lines_last l.text l.unbroken l.some))
    ∙ a.follows (l.text ∷ []) ∙ ap (λ (x : List ℕ). a.text ++ x) (outputs_last start place l.text) in
    record {
      bytes = unlines a.ls ++ l.text;
      few = omega (arith, length-append (unlines a.ls) l.text, l.count, a.count);
      read = Consumes-then r0 r r' (unlines a.ls) l.text a.read l.read;
      written = subst (λ (t : List ℕ). Appends w0 w' t) (sym here) (Appends-then w0 w w' a.text (output_of start place (command_in l.text)) a.written put');
      whole = inl l.ended;
    }

-- at the end
pub ends : {r0 r r' w0 w : Option (List ℕ)} {before allowed allowed' : ℕ} {start run : Run ℕ} {first place : ℕ}
    → (a : Answering r0 r w0 w before allowed start run first place) (l : GivesNone r r' allowed allowed')
    → Answers r0 r' w0 w (commands_report start first) before
ends {r0 = r0} {r = r} {r' = r'} {w0 = w0} {w = w} {before = before} {allowed = allowed} {allowed' = allowed'} {start = start} {run = run} {first = first}
    {place = place} a l =
    let here : commands_report start first (unlines a.ls ++ []) ≡ a.text =
    ap (outputs start first) (lines_unlines a.ls [] a.each) ∙ a.follows [] ∙ append-nil a.text in
    record {
      bytes = unlines a.ls ++ [];
      few = omega (arith, length-append {A = ℕ} (unlines a.ls) [], a.count);
      read = Consumes-then r0 r r' (unlines a.ls) [] a.read l.read;
      written = subst (λ (t : List ℕ). Appends w0 w t) (sym here) a.written;
      whole = inl l.ended;
    }

explains : {r0 r w0 w : Option (List ℕ)} {before allowed : ℕ} {start run : Run ℕ} {first place : ℕ}
    → (a : Answering r0 r w0 w before allowed start run first place) (part : List ℕ) (e : StreamFault) (why : StopsBecause part allowed e)
    → Explains (commands_report start first) Always before (unlines a.ls ++ part) a.text e
explains {r0 = r0} {r = r} {w0 = w0} {w = w} {before = before} {allowed = allowed} {start = start} {run = run} {first = first} {place = place} a part Read why =
    let said : a.text ≡ commands_report start first (unlines a.ls) =
    sym (ap (commands_report start first) (sym (append-nil (unlines a.ls)))
    ∙ ap (outputs start first) (lines_unlines a.ls [] a.each) ∙ a.follows [] ∙ append-nil a.text) in
    (a.ls, part, a.each, why.0, refl, (λ _. said), omega (arith, a.count, length-append (unlines a.ls) part, why.1))
explains {r0 = r0} {r = r} {w0 = w0} {w = w} {before = before} {allowed = allowed} {start = start} {run = run} {first = first} {place = place} a part TooMuch
    why = omega (arith, a.count, length-append (unlines a.ls) part)
explains {r0 = r0} {r = r} {w0 = w0} {w = w} {before = before} {allowed = allowed} {start = start} {run = run} {first = first} {place = place} a part Write
    why = absurd why
explains {r0 = r0} {r = r} {w0 = w0} {w = w} {before = before} {allowed = allowed} {start = start} {run = run} {first = first} {place = place} a part NoMemory
    why = omega (arith, a.count, length-append (unlines a.ls) part, why.1)

-- where reading stopped
pub stops_reading : {r0 r r' w0 w : Option (List ℕ)} {before allowed : ℕ} {start run : Run ℕ} {first place : ℕ}
    → (a : Answering r0 r w0 w before allowed start run first place) (e : StreamFault) (s : StopsInLine r r' allowed e)
    → Stops r0 r' w0 w (commands_report start first) Always before e
stops_reading {r0 = r0} {r = r} {r' = r'} {w0 = w0} {w = w} {before = before} {allowed = allowed} {start = start} {run = run} {first = first} {place = place} a
    e s = record {
      bytes = unlines a.ls ++ s.text;
      text = a.text;
      rest = outputs start place (lines s.text);
      read = Consumes-then r0 r r' (unlines a.ls) s.text a.read s.read;
      written = a.written;
      prefix = sym (ap (outputs start first) (lines_unlines a.ls s.text a.each) ∙ a.follows (lines s.text));
      why = explains a s.text e s.why;
    }

explains_writing : (start : Run ℕ) (first before : ℕ) → (bytes text : List ℕ) → length bytes ≤ before → (e : StreamFault) → IsOfWriting e
    → Explains (commands_report start first) Always before bytes text e
explains_writing start first before bytes text few Read why = absurd why
explains_writing start first before bytes text few TooMuch why = absurd why
explains_writing start first before bytes text few Write why = few
explains_writing start first before bytes text few NoMemory why = few

-- where writing the output of a line stopped
stops_at : {r0 r r' w0 w w' : Option (List ℕ)} {before allowed : ℕ} {start run : Run ℕ} {first place : ℕ} {line : List ℕ}
    → (a : Answering r0 r w0 w before allowed start run first place) (e : StreamFault) (why : IsOfWriting e) (piece text : List ℕ)
    (few : length piece ≤ allowed) (fits : line ≡ kept_part text) (read : Consumes r r' piece) (one : lines piece ≡ text ∷ [])
    (put : WritesPrefix w w' (output_of run place (command_in line))) → Stops r0 r' w0 w' (commands_report start first) Always before e
stops_at {r0 = r0} {r = r} {r' = r'} {w0 = w0} {w = w} {w' = w'} {before = before} {start = start} {run = run} {first = first} {place = place} {line = line} a e
    why piece text few fits read one put =
    let c = of_text _ text fits in
    let out : List ℕ = output_of start place (command_in text) in
    let put' : WritesPrefix w w' out = rw (← a.same, ← c) put in
    let here : commands_report start first (unlines a.ls ++ piece) ≡ a.text ++ out =
    ap (outputs start first) (lines_unlines a.ls piece a.each ∙ ap (λ (x : List (List ℕ)). a.ls ++ x) one)
    ∙ a.follows (text ∷ []) ∙ ap (λ (x : List ℕ). a.text ++ x) (outputs_last start place text) in
    record {
      bytes = unlines a.ls ++ piece;
      text = a.text ++ put'.text;
      rest = put'.rest;
      read = Consumes-then r0 r r' (unlines a.ls) piece a.read read;
      written = Appends-then w0 w w' a.text put'.text a.written put'.written;
      prefix = append_assoc a.text put'.text put'.rest ∙ ap (λ (x : List ℕ). a.text ++ x) put'.prefix ∙ sym here;
      why = explains_writing start first before (unlines a.ls ++ piece) (a.text ++ put'.text) (omega (arith, length-append (unlines a.ls) piece, a.count)) e
          why;
    }

pub stops_writing_line : {r0 r r' w0 w w' : Option (List ℕ)} {before allowed allowed' : ℕ} {start run : Run ℕ} {first place : ℕ} {line : List ℕ}
    → (a : Answering r0 r w0 w before allowed start run first place) (l : GivesLine r r' allowed allowed' line) (e : StreamFault)
    (f : StopsWriting w w' (output_of run place (command_in line)) e) → Stops r0 r' w0 w' (commands_report start first) Always before e
stops_writing_line a l e f = stops_at a e f.0 (l.text ++ 10 ∷ []) l.text (omega (arith, length-append l.text (10 ∷ []), l.count)) l.fits l.read
    (line_only l.text l.unbroken) f.1

pub stops_writing_last : {r0 r r' w0 w w' : Option (List ℕ)} {before allowed allowed' : ℕ} {start run : Run ℕ} {first place : ℕ} {line : List ℕ}
    → (a : Answering r0 r w0 w before allowed start run first place) (l : GivesLast r r' allowed allowed' line) (e : StreamFault)
    (f : StopsWriting w w' (output_of run place (command_in line)) e) → Stops r0 r' w0 w' (commands_report start first) Always before e
stops_writing_last a l e f = stops_at a e f.0 l.text l.text (omega (arith, l.count)) l.fits l.read (lines_last l.text l.unbroken l.some) f.1
