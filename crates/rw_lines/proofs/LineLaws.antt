-- The lines of bytes, a line at a time.
use Rattle.std.proofs.Common.{◌≡◌, ◌++◌, ◌+◌, ◌∷◌, [], ◌<◌, ◌≤◌, ℕ, List, true, not, refl, sym, ap, ◌∙◌, append_assoc, length, All, arith, eqb, Some, None}
use Rattle.std.specs.List.{onto_first}
use Rattle.std.proofs.lemmas.Bool.{cond-false, and_parts, not-true}
use Rattle.std.proofs.lemmas.List.{flat_map_more, take_all, length-take}
use Rattle.std.proofs.lemmas.List.Concat.{flat_map-cons}
use Rattle.std.proofs.lemmas.List.Elements.{All-head, All-tail}
use Rattle.rw_lines.specs.Cut.{cut, lacks}
use Rattle.rw_lines.specs.declared.lines.TheConstants.{LONGEST_LINE}
use Rattle.rw_lines.specs.Lines.{lines, unlines, IsUnbroken, is_skipped}
use Rattle.rw_lines.specs.Reading.{kept_part}
use Rattle.rw_lines.proofs.CutLaws.{cut_parts, lacks_uncut}

lines-cons : (b : ℕ) (bs : List ℕ) → not (eqb b 10) ≡ true → lines (b ∷ bs) ≡ onto_first b (lines bs)
lines-cons b bs ne = cond-false (eqb b 10) ([] ∷ lines bs) (onto_first b (lines bs)) (not-true _ ne)

-- a line with its LF, followed by more bytes
pub lines_line : (text bs : List ℕ) → IsUnbroken text → lines (text ++ 10 ∷ bs) ≡ text ∷ lines bs
lines_line [] bs h = refl
lines_line (b ∷ text) bs h =
    let p = and_parts (not (eqb b 10)) (lacks 10 text) h in
    lines-cons b (text ++ 10 ∷ bs) p.0 ∙ ap (onto_first b) (lines_line text bs p.1)

-- a last line without LF
pub lines_last : (text : List ℕ) → IsUnbroken text → 0 < length text → lines text ≡ text ∷ []
lines_last [] h lt = absurd (omega arith)
lines_last (b ∷ []) h lt = lines-cons b [] (and_parts (not (eqb b 10)) true h).0
lines_last (b ∷ c ∷ text) h lt =
    let p = and_parts (not (eqb b 10)) (lacks 10 (c ∷ text)) h in
    lines-cons b (c ∷ text) p.0 ∙ ap (onto_first b) (lines_last (c ∷ text) p.1 (omega arith))

front_of : (b : ℕ) (more : List ℕ) → not (eqb b 10) ≡ true → (ls : List (List ℕ)) → lines more ≡ ls
    → (rest : List ℕ) × (after : List (List ℕ)) × (lines (b ∷ more) ≡ (b ∷ rest) ∷ after)
front_of b more ne [] e = ([], [], lines-cons b more ne ∙ ap (onto_first b) e)
front_of b more ne (l ∷ ls) e = (l, ls, lines-cons b more ne ∙ ap (onto_first b) e)

-- bytes that begin with a part of a line: their first line begins with it
pub lines_front : (text more : List ℕ) → IsUnbroken text → 0 < length text
    → (rest : List ℕ) × (after : List (List ℕ)) × (lines (text ++ more) ≡ (text ++ rest) ∷ after)
lines_front [] more h lt = absurd (omega arith)
lines_front (b ∷ []) more h lt = front_of b more (and_parts (not (eqb b 10)) true h).0 (lines more) refl
lines_front (b ∷ c ∷ text) more h lt =
    let p = and_parts (not (eqb b 10)) (lacks 10 (c ∷ text)) h in
    let on = lines_front (c ∷ text) more p.1 (omega arith) in
    (on.0, on.1, lines-cons b (c ∷ text ++ more) p.0 ∙ ap (onto_first b) on.2)

-- lines with their LF, followed by more bytes
pub lines_unlines : (ls : List (List ℕ)) (bs : List ℕ) → All IsUnbroken ls → lines (unlines ls ++ bs) ≡ ls ++ lines bs
lines_unlines [] bs h = refl
lines_unlines (l ∷ ls) bs h =
    let regrouped : unlines (l ∷ ls) ++ bs ≡ l ++ 10 ∷ (unlines ls ++ bs) =
    ap (λ (x : List ℕ). x ++ bs) (flat_map-cons (λ (l : List ℕ). l ++ 10 ∷ []) l ls) ∙ append_assoc (l ++ 10 ∷ []) (unlines ls) bs
    ∙ append_assoc l (10 ∷ []) (unlines ls ++ bs) in
    ap lines regrouped ∙ lines_line l (unlines ls ++ bs) (All-head IsUnbroken l ls h)
    ∙ ap (λ (x : List (List ℕ)). l ∷ x) (lines_unlines ls bs (All-tail IsUnbroken l ls h))

-- with one more line
pub unlines_push : (ls : List (List ℕ)) (l : List ℕ) → unlines (ls ++ l ∷ []) ≡ unlines ls ++ (l ++ 10 ∷ [])
unlines_push ls l = sym (flat_map_more (λ (l : List ℕ). l ++ 10 ∷ []) [] ls l)

-- a cut at the first LF gives the first line
pub lines_cut : (bytes : List ℕ) (p : List ℕ × List ℕ) → cut 10 bytes ≡ Some p → lines bytes ≡ p.0 ∷ lines p.1
lines_cut bytes p e = let parts = cut_parts 10 bytes p e in ap lines parts.1 ∙ lines_line p.0 p.1 parts.0

-- bytes without LF are one line, unless there are none
pub lines_uncut : (bytes : List ℕ) → cut 10 bytes ≡ None → 0 < length bytes → lines bytes ≡ bytes ∷ []
lines_uncut bytes e some = lines_last bytes (lacks_uncut 10 bytes e) some

-- ---- what the stored part of a line shows about the line

pub kept_short : (text : List ℕ) → length text ≤ LONGEST_LINE → kept_part text ≡ text
kept_short text le = take_all (LONGEST_LINE + 1) text (omega arith)

pub kept_long : (text : List ℕ) → LONGEST_LINE < length text → LONGEST_LINE < length (kept_part text)
kept_long text lt = omega (arith, length-take (LONGEST_LINE + 1) text)

pub is_skipped-kept : (text : List ℕ) → is_skipped (kept_part text) ≡ is_skipped text
is_skipped-kept [] = refl
is_skipped-kept (b ∷ text) = refl
