-- A script whose first lines were read.
use Rattle.std.proofs.Common.{◌≡◌, ◌++◌, ◌∷◌, [], ◌+◌, ◌<◌, ◌≤◌, ℕ, true, false, List, Option, Result, Ok, Err}
use Rattle.std.proofs.Common.{refl, sym, ap, ◌∙◌, length, All, arith, append_assoc, inl, inr}
use Rattle.std.specs.List.{list_any}
use Rattle.std.specs.Io.KnownBytes.{Consumes}
use Rattle.std.proofs.lemmas.Bool.{cond-true, cond-false}
use Rattle.std.proofs.lemmas.List.{append-nil, length-append}
use Rattle.std.proofs.lemmas.List.Folds.{list_any-append}
use Rattle.std.proofs.lemmas.List.Elements.{All-push, All-nil}
use Rattle.rw_lines.specs.declared.streams.StreamFault.{StreamFault}
use Rattle.rw_lines.specs.declared.streams.StreamFault.TheVariants.{Read, Write, TooMuch, NoMemory}
use Rattle.rw_lines.specs.Lines.{IsUnbroken, lines, unlines}
use Rattle.rw_lines.specs.Reading.{kept_part, GivesLine, GivesLast, GivesLong, GivesNone, StopsBecause, StopsInLine}
use Rattle.rw_lines.proofs.Known.{Consumes-none, Consumes-then}
use Rattle.rw_lines.proofs.LineLaws.{lines_front, lines_last, lines_unlines, unlines_push}
use Rattle.rw_script.specs.declared.faults.ScriptFault.{ScriptFault}
use Rattle.rw_script.specs.declared.faults.ScriptFaultKind.TheVariants.{TooLong}
use Rattle.rw_script.specs.Script.{ScriptReader, opening, after_line, script_at_end, script_from, script_in, after_mark, is_mark}
use Rattle.rw_words.specs.Words.{◌>>=◌}
use Rattle.rw_console.specs.ScriptReading.{GivesScript, GivesAll, GivesFault, StopsInScript, ExplainsScript, HasMark}
use Rattle.rw_console.proofs.Kept.{is_mark-kept, is_mark_long, after_line-kept, after_line_long}
use Rattle.rw_console.proofs.Answering.{line_after}

pub record Scripting (reader reader' : Option (List ℕ)) (before allowed : ℕ) (reading : ScriptReader) : Type 0 where
  pub ls : List (List ℕ)
  pub each : All IsUnbroken ls
  pub read : Consumes reader reader' (unlines ls)
  pub count : length (unlines ls) + allowed ≡ before
  pub lines_fit : reading.lines + allowed ≤ before
  pub unmarked : list_any is_mark ls ≡ false
  pub script : (more : List (List ℕ)) → script_in (ls ++ more) ≡ script_from reading more
  pub rest : (more : List (List ℕ)) → after_mark (ls ++ more) ≡ after_mark more

pub begins : (r : Option (List ℕ)) (before : ℕ) (reading : ScriptReader) → reading ≡ opening → Scripting r r before before reading
begins r before reading fresh = record {
  ls = [];
  each = All-nil IsUnbroken;
  read = Consumes-none r;
  count = omega arith;
  lines_fit = omega (arith, ap (λ (s : ScriptReader). s.lines) fresh);
  unmarked = refl;
  script = λ more. ap (λ (s : ScriptReader). script_from s more) (sym fresh);
  rest = λ more. refl;
}

-- ---- one line of the script

mark_of : (line text : List ℕ) → line ≡ kept_part text → is_mark line ≡ is_mark text
mark_of line text fits = ap is_mark fits ∙ is_mark-kept text

reading_after : (s : ScriptReader) (line text : List ℕ) → line ≡ kept_part text → after_line s text ≡ after_line s line
reading_after s line text fits = sym (ap (after_line s) fits ∙ after_line-kept s text)

-- the script ends at a mark
at_mark : (s : ScriptReader) (text : List ℕ) (more : List (List ℕ)) → is_mark text ≡ true → script_from s (text ∷ more) ≡ script_at_end s
at_mark s text more e = cond-true (is_mark text) (script_at_end s) (after_line s text >>= λ t. script_from t more) e

rest_at_mark : (text : List ℕ) (more : List (List ℕ)) → is_mark text ≡ true → after_mark (text ∷ more) ≡ more
rest_at_mark text more e = cond-true (is_mark text) more (after_mark more) e

at_line_said : (s : ScriptReader) (said : Result ScriptReader ScriptFault) (text : List ℕ) (more : List (List ℕ)) → is_mark text ≡ false
    → after_line s text ≡ said → script_from s (text ∷ more) ≡ (said >>= λ t. script_from t more)
at_line_said s said text more e a = cond-false (is_mark text) (script_at_end s) (after_line s text >>= λ t. script_from t more) e
    ∙ ap (λ (r : Result ScriptReader ScriptFault). r >>= λ t. script_from t more) a

rest_at_line : (text : List ℕ) (more : List (List ℕ)) → is_mark text ≡ false → after_mark (text ∷ more) ≡ after_mark more
rest_at_line text more e = cond-false (is_mark text) more (after_mark more) e

-- ---- the loop

pub more_line : {r0 r r' : Option (List ℕ)} {before allowed allowed' : ℕ} {reading : ScriptReader} {line : List ℕ}
    → (s : Scripting r0 r before allowed reading) (l : GivesLine r r' allowed allowed' line)
    (plain : is_mark line ≡ false) (reading' : ScriptReader) (taken : (after_line reading line ≡ Ok reading') × (reading'.lines ≡ reading.lines + 1))
    → Scripting r0 r' before allowed' reading'
more_line {r0 = r0} {r = r} {r' = r'} {reading = reading} s l plain reading' taken =
    let m : is_mark l.text ≡ false = sym (mark_of _ l.text l.fits) ∙ plain in
    let t : after_line reading l.text ≡ Ok reading' = reading_after reading _ l.text l.fits ∙ taken.0 in
    record {
      ls = s.ls ++ l.text ∷ [];
      each = All-push IsUnbroken s.ls l.text s.each l.unbroken;
      read = rw (unlines_push s.ls l.text) (Consumes-then r0 r r' (unlines s.ls) (l.text ++ 10 ∷ []) s.read l.read);
      count = omega (
        arith,
        ap length (unlines_push s.ls l.text),
        length-append (unlines s.ls) (l.text ++ 10 ∷ []),
        length-append l.text (10 ∷ []),
        l.count,
        s.count,
      );
      lines_fit = omega (arith, l.count, s.lines_fit, taken.1);
      unmarked = list_any-append is_mark s.ls (l.text ∷ []) ∙ rw (s.unmarked, m) refl;
      script = λ more. ap script_in (append_assoc s.ls (l.text ∷ []) more) ∙ s.script (l.text ∷ more) ∙ at_line_said reading (Ok reading') l.text more m t;
      rest = λ more. ap after_mark (append_assoc s.ls (l.text ∷ []) more) ∙ s.rest (l.text ∷ more) ∙ rest_at_line l.text more m;
    }

-- at the mark
pub ends_at_mark : {r0 r r' : Option (List ℕ)} {before allowed allowed' : ℕ} {reading : ScriptReader} {line : List ℕ}
    → (s : Scripting r0 r before allowed reading) (l : GivesLine r r' allowed allowed' line)
    (mark : is_mark line ≡ true) → GivesScript r0 r' before allowed' (script_at_end reading) × (reading.lines ≤ before)
ends_at_mark {r0 = r0} {r = r} {r' = r'} {reading = reading} s l mark =
    let m : is_mark l.text ≡ true = sym (mark_of _ l.text l.fits) ∙ mark in (
      record {
        ls = s.ls ++ l.text ∷ [];
        each = All-push IsUnbroken s.ls l.text s.each l.unbroken;
        read = rw (unlines_push s.ls l.text) (Consumes-then r0 r r' (unlines s.ls) (l.text ++ 10 ∷ []) s.read l.read);
        count = omega (
          arith,
          ap length (unlines_push s.ls l.text),
          length-append (unlines s.ls) (l.text ++ 10 ∷ []),
          length-append l.text (10 ∷ []),
          l.count,
          s.count,
        );
        script = λ more. ap script_in (append_assoc s.ls (l.text ∷ []) more) ∙ s.script (l.text ∷ more) ∙ at_mark reading l.text more m;
        rest = λ more. ap after_mark (append_assoc s.ls (l.text ∷ []) more) ∙ s.rest (l.text ∷ more) ∙ rest_at_mark l.text more m;
      },
      omega (arith, s.lines_fit),
    )

-- at the reader's end
pub ends : {r0 r r' : Option (List ℕ)} {before allowed allowed' : ℕ} {reading : ScriptReader}
    → (s : Scripting r0 r before allowed reading) (l : GivesNone r r' allowed allowed')
    → GivesAll r0 r' before (script_at_end reading) × (reading.lines ≤ before)
ends {r0 = r0} {r = r} {r' = r'} s l = (
  record {
    bytes = unlines s.ls ++ [];
    few = omega (arith, length-append {A = ℕ} (unlines s.ls) [], s.count);
    read = Consumes-then r0 r r' (unlines s.ls) [] s.read l.read;
    ended = l.ended;
    script = ap script_in (lines_unlines s.ls [] s.each) ∙ s.script [];
    rest = ap after_mark (lines_unlines s.ls [] s.each) ∙ s.rest [];
  },
  omega (arith, s.lines_fit),
)

last_lines : (ls : List (List ℕ)) (text : List ℕ) → All IsUnbroken ls → IsUnbroken text → 0 < length text → lines (unlines ls ++ text) ≡ ls ++ text ∷ []
last_lines ls text each u some = lines_unlines ls text each ∙ ap (λ (x : List (List ℕ)). ls ++ x) (lines_last text u some)

-- at a mark without LF
pub ends_at_last_mark : {r0 r r' : Option (List ℕ)} {before allowed allowed' : ℕ} {reading : ScriptReader} {line : List ℕ}
    → (s : Scripting r0 r before allowed reading) (l : GivesLast r r' allowed allowed' line)
    (mark : is_mark line ≡ true) → GivesAll r0 r' before (script_at_end reading) × (reading.lines ≤ before)
ends_at_last_mark {r0 = r0} {r = r} {r' = r'} {reading = reading} s l mark =
    let m : is_mark l.text ≡ true = sym (mark_of _ l.text l.fits) ∙ mark in
    let here = last_lines s.ls l.text s.each l.unbroken l.some in (
      record {
        bytes = unlines s.ls ++ l.text;
        few = omega (arith, length-append (unlines s.ls) l.text, l.count, s.count);
        read = Consumes-then r0 r r' (unlines s.ls) l.text s.read l.read;
        ended = l.ended;
        script = ap script_in here ∙ s.script (l.text ∷ []) ∙ at_mark reading l.text [] m;
        rest = ap after_mark here ∙ s.rest (l.text ∷ []) ∙ rest_at_mark l.text [] m;
      },
      omega (arith, s.lines_fit),
    )

-- after the last line
pub ends_at_last_line : {r0 r r' : Option (List ℕ)} {before allowed allowed' : ℕ} {reading : ScriptReader} {line : List ℕ}
    → (s : Scripting r0 r before allowed reading) (l : GivesLast r r' allowed allowed' line)
    (plain : is_mark line ≡ false) (reading' : ScriptReader) (taken : (after_line reading line ≡ Ok reading') × (reading'.lines ≡ reading.lines + 1))
    → GivesAll r0 r' before (script_at_end reading') × (reading'.lines ≤ before)
ends_at_last_line {r0 = r0} {r = r} {r' = r'} {reading = reading} s l plain reading' taken =
    let m : is_mark l.text ≡ false = sym (mark_of _ l.text l.fits) ∙ plain in
    let t : after_line reading l.text ≡ Ok reading' = reading_after reading _ l.text l.fits ∙ taken.0 in
    let here = last_lines s.ls l.text s.each l.unbroken l.some in (
      record {
        bytes = unlines s.ls ++ l.text;
        few = omega (arith, length-append (unlines s.ls) l.text, l.count, s.count);
        read = Consumes-then r0 r r' (unlines s.ls) l.text s.read l.read;
        ended = l.ended;
        script = ap script_in here ∙ s.script (l.text ∷ []) ∙ at_line_said reading (Ok reading') l.text [] m t;
        rest = ap after_mark here ∙ s.rest (l.text ∷ []) ∙ rest_at_line l.text [] m;
      },
      omega (arith, s.lines_fit, l.count, l.some, taken.1),
    )

-- at a line with a fault
pub fault_last : {r0 r r' : Option (List ℕ)} {before allowed allowed' : ℕ} {reading : ScriptReader} {line : List ℕ}
    → (s : Scripting r0 r before allowed reading) (l : GivesLast r r' allowed allowed' line)
    (plain : is_mark line ≡ false) (f : ScriptFault) (refused : after_line reading line ≡ Err f) → GivesFault r0 r' before f
fault_last {r0 = r0} {r = r} {r' = r'} {reading = reading} s l plain f refused =
    let m : is_mark l.text ≡ false = sym (mark_of _ l.text l.fits) ∙ plain in
    let t : after_line reading l.text ≡ Err f = reading_after reading _ l.text l.fits ∙ refused in
    record {
      bytes = unlines s.ls ++ l.text;
      few = omega (arith, length-append (unlines s.ls) l.text, l.count, s.count);
      read = Consumes-then r0 r r' (unlines s.ls) l.text s.read l.read;
      script = ap script_in (last_lines s.ls l.text s.each l.unbroken l.some) ∙ s.script (l.text ∷ []) ∙ at_line_said reading (Err f) l.text [] m t;
      whole = inl l.ended;
    }

pub fault_line : {r0 r r' : Option (List ℕ)} {before allowed allowed' : ℕ} {reading : ScriptReader} {line : List ℕ}
    → (s : Scripting r0 r before allowed reading) (l : GivesLine r r' allowed allowed' line)
    (plain : is_mark line ≡ false) (f : ScriptFault) (refused : after_line reading line ≡ Err f) → GivesFault r0 r' before f
fault_line {r0 = r0} {r = r} {r' = r'} {reading = reading} s l plain f refused =
    let m : is_mark l.text ≡ false = sym (mark_of _ l.text l.fits) ∙ plain in
    let t : after_line reading l.text ≡ Err f = reading_after reading _ l.text l.fits ∙ refused in
    let bytes : List ℕ = unlines s.ls ++ (l.text ++ 10 ∷ []) in
    let at : (more : List ℕ) → script_in (lines (bytes ++ more)) ≡ Err f = λ more.
    ap script_in (line_after s.ls l.text more s.each l.unbroken) ∙ s.script (l.text ∷ lines more) ∙ at_line_said reading (Err f) l.text (lines more) m t in
    record {
      bytes = bytes;
      few = omega (arith, length-append (unlines s.ls) (l.text ++ 10 ∷ []), length-append l.text (10 ∷ []), l.count, s.count);
      read = Consumes-then r0 r r' (unlines s.ls) (l.text ++ 10 ∷ []) s.read l.read;
      script = ap (λ (x : List ℕ). script_in (lines x)) (sym (append-nil bytes)) ∙ at [];
      whole = inr at;
    }

-- at a line that is too long, whatever follows its first bytes
pub fault_long : {r0 r r' : Option (List ℕ)} {before allowed allowed' : ℕ} {reading : ScriptReader} {line : List ℕ}
    → (s : Scripting r0 r before allowed reading) (l : GivesLong r r' allowed allowed' line)
    → GivesFault r0 r' before (record { line = reading.lines + 1; kind = TooLong })
fault_long {r0 = r0} {r = r} {r' = r'} {reading = reading} {line = line} s l =
    let f : ScriptFault = record { line = reading.lines + 1; kind = TooLong } in
    let bytes : List ℕ = unlines s.ls ++ line in
    let at : (more : List ℕ) → script_in (lines (bytes ++ more)) ≡ Err f = λ more.
    let front = lines_front line more l.unbroken (omega (arith, l.long)) in
    let text : List ℕ = line ++ front.0 in
    let long : 256 < length text = omega (arith, length-append line front.0, l.long) in
    ap script_in (ap lines (append_assoc (unlines s.ls) line more) ∙ lines_unlines s.ls (line ++ more) s.each
    ∙ ap (λ (x : List (List ℕ)). s.ls ++ x) front.2)
    ∙ s.script (text ∷ front.1) ∙ at_line_said reading (Err f) text front.1 (is_mark_long text long) (after_line_long reading text long) in
    record {
      bytes = bytes;
      few = omega (arith, length-append (unlines s.ls) line, l.count, s.count);
      read = Consumes-then r0 r r' (unlines s.ls) line s.read l.read;
      script = ap (λ (x : List ℕ). script_in (lines x)) (sym (append-nil bytes)) ∙ at [];
      whole = inr at;
    }

no_mark : (ls : List (List ℕ)) → list_any is_mark ls ≡ false → HasMark ls → ⊥
no_mark ls e h = cc

explains : {r0 r : Option (List ℕ)} {before allowed : ℕ} {reading : ScriptReader}
    → (s : Scripting r0 r before allowed reading) (part : List ℕ) (e : StreamFault) (why : StopsBecause part allowed e)
    → ExplainsScript before (unlines s.ls ++ part) e
explains s part Read why = (s.ls, part, s.each, why.0, refl, no_mark s.ls s.unmarked, omega (arith, s.count, length-append (unlines s.ls) part, why.1))
explains s part TooMuch why = omega (arith, s.count, length-append (unlines s.ls) part)
explains s part Write why = absurd why
explains s part NoMemory why = omega (arith, s.count, length-append (unlines s.ls) part, why.1)

-- where reading stopped
pub stops_reading : {r0 r r' : Option (List ℕ)} {before allowed : ℕ} {reading : ScriptReader}
    → (s : Scripting r0 r before allowed reading) (e : StreamFault) (p : StopsInLine r r' allowed e)
    → StopsInScript r0 r' before e
stops_reading {r0 = r0} {r = r} {r' = r'} s e p = record {
  bytes = unlines s.ls ++ p.text;
  read = Consumes-then r0 r r' (unlines s.ls) p.text s.read p.read;
  why = explains s p.text e p.why;
}

-- where memory runs out
pub stops_line : {r0 r r' : Option (List ℕ)} {before allowed allowed' : ℕ} {reading : ScriptReader} {line : List ℕ}
    → (s : Scripting r0 r before allowed reading) (l : GivesLine r r' allowed allowed' line)
    → StopsInScript r0 r' before NoMemory
stops_line {r0 = r0} {r = r} {r' = r'} s l = record {
  bytes = unlines s.ls ++ (l.text ++ 10 ∷ []);
  read = Consumes-then r0 r r' (unlines s.ls) (l.text ++ 10 ∷ []) s.read l.read;
  why = omega (arith, length-append (unlines s.ls) (l.text ++ 10 ∷ []), length-append l.text (10 ∷ []), l.count, s.count);
}

pub stops_last : {r0 r r' : Option (List ℕ)} {before allowed allowed' : ℕ} {reading : ScriptReader} {line : List ℕ}
    → (s : Scripting r0 r before allowed reading) (l : GivesLast r r' allowed allowed' line)
    → StopsInScript r0 r' before NoMemory
stops_last {r0 = r0} {r = r} {r' = r'} s l = record {
  bytes = unlines s.ls ++ l.text;
  read = Consumes-then r0 r r' (unlines s.ls) l.text s.read l.read;
  why = omega (arith, length-append (unlines s.ls) l.text, l.count, s.count);
}
