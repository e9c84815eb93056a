-- Entries that are written one by one.
use Rattle.std.proofs.Common.{◌≡◌, ◌++◌, ◌∷◌, [], ◌+◌, ◌<◌, ◌≤◌, ◌-◌, ℕ, zero, suc, List, Option, Some, None, refl}
use Rattle.std.proofs.Common.{sym, ap, subst, ◌∙◌, length, drop, arith, add-one, append_assoc}
use Rattle.std.specs.Prelude.{slice_get, nat_lt}
use Rattle.std.specs.Io.KnownBytes.{Appends}
use Rattle.std.proofs.lemmas.Bool.{cond-true, lt-ltb}
use Rattle.std.proofs.lemmas.List.{append-nil, drop_all}
use Rattle.rw_journal.specs.Run.{Run}
use Rattle.rw_lines.specs.declared.streams.StreamFault.{StreamFault}
use Rattle.rw_lines.proofs.Known.{Appends-none, Appends-then}
use Rattle.rw_world.specs.Specified.{WorldEntry}
use Rattle.rw_console.specs.Entries.{entry_lines}
use Rattle.rw_navigator.specs.Places.{entry_to}
use Rattle.rw_console.specs.Report.{step_line}
use Rattle.rw_lines.specs.Writing.{StopsWriting}

-- the lines of the first i entries were written
pub record Listing (w w' : Option (List ℕ)) (run : Run ℕ) (i : ℕ) : Type 0 where
  pub text : List ℕ
  pub written : Appends w w' text
  pub rest : text ++ entry_lines (i + 1) (drop i run.entries) ≡ entry_lines 1 run.entries

pub begins : (w : Option (List ℕ)) (run : Run ℕ) → Listing w w run 0
begins w run = record { text = []; written = Appends-none w; rest = refl }

-- the entry after the first i ones
behind_first : (es : List (WorldEntry ℕ)) (i : ℕ) → i < length es → (e : WorldEntry ℕ) × (slice_get es i ≡ Some e) × (drop i es ≡ e ∷ drop (suc i) es)
behind_first [] i lt = absurd (omega (arith, lt))
behind_first (e ∷ es) zero lt = (e, refl, refl)
behind_first (e ∷ es) (suc i) lt = behind_first es i (omega (arith, lt))

entry_to-next : (run : Run ℕ) (i : ℕ) → entry_to run (i + 1) ≡ slice_get run.entries i
entry_to-next run i =
    let same : i + 1 - 1 ≡ i = omega arith in
    cond-true (nat_lt 0 (i + 1)) (slice_get run.entries (i + 1 - 1)) None (lt-ltb 0 (i + 1) (omega arith)) ∙ ap (λ (k : ℕ). slice_get run.entries k) same

lines_more : (run : Run ℕ) (i : ℕ) → i < length run.entries
    → entry_lines (i + 1) (drop i run.entries) ≡ step_line (i + 1) (entry_to run (i + 1)) ++ entry_lines (i + 1 + 1) (drop (i + 1) run.entries)
lines_more run i lt =
    let h = behind_first run.entries i lt in
    ap (entry_lines (i + 1)) (h.2 ∙ ap (λ (k : ℕ). h.0 ∷ drop k run.entries) (sym (add-one i)))
    ∙ sym (ap (λ (o : Option (WorldEntry ℕ)). step_line (i + 1) o ++ entry_lines (i + 1 + 1) (drop (i + 1) run.entries)) (entry_to-next run i ∙ h.1))

pub more : {w w1 w2 : Option (List ℕ)} {run : Run ℕ} {i : ℕ} → i < length run.entries → Listing w w1 run i
    → Appends w1 w2 (step_line (i + 1) (entry_to run (i + 1))) → Listing w w2 run (i + 1)
more {w = w} {w1 = w1} {w2 = w2} {run = run} {i = i} lt l put =
    let line : List ℕ = step_line (i + 1) (entry_to run (i + 1)) in
    record {
      text = l.text ++ line;
      written = Appends-then w w1 w2 l.text line l.written put;
      rest = append_assoc l.text line _ ∙ ap (λ (x : List ℕ). l.text ++ x) (sym (lines_more run i lt)) ∙ l.rest;
    }

pub stops : {w w1 w2 : Option (List ℕ)} {run : Run ℕ} {i : ℕ} (e : StreamFault) → i < length run.entries → Listing w w1 run i
    → StopsWriting w1 w2 (step_line (i + 1) (entry_to run (i + 1))) e
    → StopsWriting w w2 (entry_lines 1 run.entries) e
stops {w = w} {w1 = w1} {w2 = w2} {run = run} {i = i} e lt l put =
    let line : List ℕ = step_line (i + 1) (entry_to run (i + 1)) in
    let behind : List ℕ = entry_lines (i + 1 + 1) (drop (i + 1) run.entries) in (
      put.0,
      record {
        text = l.text ++ put.1.text;
        rest = put.1.rest ++ behind;
        written = Appends-then w w1 w2 l.text put.1.text l.written put.1.written;
        prefix = append_assoc l.text put.1.text (put.1.rest ++ behind)
            ∙ ap (λ (x : List ℕ). l.text ++ x) (sym (append_assoc put.1.text put.1.rest behind) ∙ ap (λ (x : List ℕ). x ++ behind) put.1.prefix
            ∙ sym (lines_more run i lt))
            ∙ l.rest;
      },
    )

pub ends : {w w1 : Option (List ℕ)} {run : Run ℕ} (i : ℕ) → length run.entries ≤ i → Listing w w1 run i → Appends w w1 (entry_lines 1 run.entries)
ends {w = w} {w1 = w1} {run = run} i le l =
    let none : entry_lines (i + 1) (drop i run.entries) ≡ [] = ap (entry_lines (i + 1)) (drop_all i run.entries le) in
    subst (λ (t : List ℕ). Appends w w1 t) (sym (append-nil l.text) ∙ ap (λ (x : List ℕ). l.text ++ x) (sym none) ∙ l.rest) l.written
