-- A line that is read in part.
use Rattle.std.proofs.Common.{◌≡◌, ◌≢◌, ◌++◌, ◌∷◌, [], ◌≤◌, ◌+◌, ◌-◌, ◌<◌, ℕ, min, List, Option, sym, ap, ◌∙◌, length, arith, inl, inr, subst}
use Rattle.std.specs.Io.KnownBytes.{Consumes, IsAtEnd, Keeps}
use Rattle.std.proofs.lemmas.Bool.{cases_lt}
use Rattle.std.proofs.lemmas.List.{append-nil, take_all, take-append-le, length_push, length-take}
use Rattle.rw_lines.specs.declared.lines.TheConstants.{LONGEST_LINE}
use Rattle.rw_lines.specs.Lines.{IsUnbroken}
use Rattle.rw_lines.specs.declared.streams.StreamFault.{StreamFault}
use Rattle.rw_lines.specs.declared.streams.StreamFault.TheVariants.{Read}
use Rattle.rw_lines.specs.Reading.{kept_part, GivesLast, GivesLong, IsKept, StopsBecause, StopsInLine}
use Rattle.rw_lines.proofs.CutLaws.{lacks-append, lacks_one}
use Rattle.rw_lines.proofs.Known.{Consumes-keeps, Consumes-then}

-- between old and now this text of a line was read, with no LF yet
pub record PartLine (old now : Option (List ℕ)) (before allowed : ℕ) (line : List ℕ) : Type 0 where
  pub text : List ℕ
  pub unbroken : IsUnbroken text
  pub fits : line ≡ kept_part text
  pub read : Consumes old now text
  pub count : length text + allowed ≡ before

-- what is stored of it: all that was read, up to one byte more than the longest line has
pub kept_of_part : {old now : Option (List ℕ)} {before allowed : ℕ} {line : List ℕ} → PartLine old now before allowed line
    → length line ≡ min (before - allowed) (LONGEST_LINE + 1)
kept_of_part p = omega (arith, ap length p.fits, length-take (LONGEST_LINE + 1) p.text, p.count)

-- the same where a read failed
pub kept_at_read : {old now : Option (List ℕ)} {before allowed : ℕ} {line : List ℕ} {fault : StreamFault} → PartLine old now before allowed line → fault ≡ Read
    → IsKept (before - allowed) (length line) fault
kept_at_read {before = before} {allowed = allowed} {line = line} p failed = subst (IsKept (before - allowed) (length line)) (sym failed) (kept_of_part p)

-- where the longest line isn't exceeded, no more bytes were read
pub few_of_part : {old now : Option (List ℕ)} {before allowed : ℕ} {line : List ℕ} → PartLine old now before allowed line → length line ≤ LONGEST_LINE
    → before ≤ allowed + LONGEST_LINE
few_of_part p le = omega (arith, kept_of_part p, le)

-- where a read failed
pub stops_at_read : {old now new : Option (List ℕ)} {before allowed : ℕ} {line : List ℕ} {fault : StreamFault} → PartLine old now before allowed line
    → Keeps now new → fault ≡ Read → StopsInLine old new before fault
stops_at_read {old = old} {now = now} {new = new} {before = before} p keeps failed = record {
  text = p.text;
  read = Consumes-keeps old now new p.text p.read keeps;
  why = subst (StopsBecause p.text before) (sym failed) (p.unbroken, omega (arith, p.count));
}

-- where the reader is at its end
pub last_of_part : {old now new : Option (List ℕ)} {before allowed : ℕ} {line : List ℕ} → PartLine old now before allowed line → 0 < length line
    → Consumes now new [] → IsAtEnd new → GivesLast old new before allowed line
last_of_part {old = old} {now = now} {new = new} p some none ended = record {
  text = p.text;
  unbroken = p.unbroken;
  some = omega (arith, ap length p.fits, length-take (LONGEST_LINE + 1) p.text, some);
  fits = p.fits;
  read = subst (Consumes old new) (append-nil p.text) (Consumes-then old now new p.text [] p.read none);
  count = p.count;
  ended = ended;
}

-- the first bytes of a line that is too long
pub part_of_long : {old now : Option (List ℕ)} {before allowed : ℕ} {line : List ℕ} → GivesLong old now before allowed line
    → PartLine old now before allowed line
part_of_long {line = line} l = record {
  text = line;
  unbroken = l.unbroken;
  fits = sym (take_all (LONGEST_LINE + 1) line (omega (arith, l.long)));
  read = l.read;
  count = l.count;
}

short : (line text : List ℕ) → line ≡ kept_part text → length line ≤ LONGEST_LINE → line ≡ text
short line text e le = e ∙ take_all (LONGEST_LINE + 1) text (omega (arith, ap length e, length-take (LONGEST_LINE + 1) text))

-- with one more byte, it is again a line that is read in part
pub next_part : (old now new : Option (List ℕ)) (before allowed : ℕ) (line next : List ℕ) (byte : ℕ) → PartLine old now before allowed line
    → Consumes now new (byte ∷ []) → byte ≢ 10
    → 0 < allowed → (length line ≤ LONGEST_LINE → next ≡ line ++ byte ∷ []) → (LONGEST_LINE < length line → next ≡ line)
    → PartLine old new before (allowed - 1) next
next_part old now new before allowed line next byte p read ne some push keep =
    record {
      text = p.text ++ byte ∷ [];
      unbroken = lacks-append 10 p.text (byte ∷ []) p.unbroken (lacks_one 10 byte ne);
      fits = elim (cases_lt LONGEST_LINE (length line)) [
        | inl lt ↦ keep lt ∙ p.fits ∙ sym (take-append-le (LONGEST_LINE + 1) p.text (byte ∷ [])
            (omega (arith, ap length p.fits, length-take (LONGEST_LINE + 1) p.text)))
        | inr le ↦ let same = short line p.text p.fits le in
            push le ∙ ap (λ (t : List ℕ). t ++ byte ∷ []) same
            ∙ sym (take_all (LONGEST_LINE + 1) (p.text ++ byte ∷ []) (omega (arith, length_push p.text byte, ap length same)))
      ];
      read = Consumes-then old now new p.text (byte ∷ []) p.read read;
      count = omega (arith, length_push p.text byte, p.count);
    }

-- with one more byte than the longest line has, it is too long
pub long_part : (old now new : Option (List ℕ)) (before allowed : ℕ) (line next : List ℕ) (byte : ℕ) → PartLine old now before allowed line
    → length line ≤ LONGEST_LINE → Consumes now new (byte ∷ []) → byte ≢ 10 → 0 < allowed → next ≡ line ++ byte ∷ [] → LONGEST_LINE < length next
    → GivesLong old new before (allowed - 1) next
long_part old now new before allowed line next byte p le read ne some pushed lt =
    let whole = pushed ∙ ap (λ (t : List ℕ). t ++ byte ∷ []) (short line p.text p.fits le) in
    record {
      unbroken = subst IsUnbroken (sym whole) (lacks-append 10 p.text (byte ∷ []) p.unbroken (lacks_one 10 byte ne));
      long = omega (arith, ap length pushed, length_push line byte, le, lt);
      read = subst (Consumes old new) (sym whole) (Consumes-then old now new p.text (byte ∷ []) p.read read);
      count = omega (arith, ap length whole, length_push p.text byte, p.count, some);
    }
