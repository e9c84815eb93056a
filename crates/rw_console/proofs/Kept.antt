-- The part of a line that is stored is read as the whole line is.
use Rattle.std.proofs.Common.{◌≡◌, ◌∷◌, [], ◌+◌, ◌<◌, ℕ, List, Err, false, refl, ap, length, inl, inr, arith}
use Rattle.std.specs.Prelude.{codes}
use Rattle.std.proofs.lemmas.Bool.{cases_lt, false_from_ne_true, lt-ltb}
use Rattle.std.proofs.lemmas.Slice.Eq.{bytes_eq-Decides}
use Rattle.rw_lines.specs.declared.lines.TheConstants.{LONGEST_LINE}
use Rattle.rw_lines.specs.Reading.{kept_part}
use Rattle.rw_lines.proofs.LineLaws.{kept_short, kept_long}
use Rattle.rw_script.specs.declared.faults.ScriptFaultKind.TheVariants.{TooLong}
use Rattle.rw_script.specs.Script.{ScriptReader, at_line, with_line, after_line, is_mark}
use Rattle.rw_console.specs.Commands.{command_in}

pub command_in-kept : (text : List ℕ) → command_in (kept_part text) ≡ command_in text
unfolding command_in
command_in-kept text =
    elim (cases_lt 256 (length text)) [
      | inl lt ↦ rw (lt-ltb _ _ (kept_long text lt), lt-ltb _ _ lt) refl
      | inr le ↦ ap command_in (kept_short text le)
    ]

-- ---- lines of scripts

pub is_mark-kept : (text : List ℕ) → is_mark (kept_part text) ≡ is_mark text
is_mark-kept [] = refl
is_mark-kept (a ∷ []) = refl
is_mark-kept (a ∷ b ∷ []) = refl
is_mark-kept (a ∷ b ∷ c ∷ []) = refl
is_mark-kept (a ∷ b ∷ c ∷ d ∷ text) = refl

with_line-kept : (r : ScriptReader) (text : List ℕ) → with_line r (kept_part text) ≡ with_line r text
unfolding with_line
with_line-kept r text =
    elim (cases_lt 256 (length text)) [
      | inl lt ↦ rw (lt-ltb _ _ (kept_long text lt), lt-ltb _ _ lt) refl
      | inr le ↦ ap (with_line r) (kept_short text le)
    ]

pub after_line-kept : (r : ScriptReader) (text : List ℕ) → after_line r (kept_part text) ≡ after_line r text
after_line-kept r text = ap (at_line (r.lines + 1)) (with_line-kept (record r { lines = r.lines + 1 }) text)

-- ---- lines that are too long

pub is_mark_long : (text : List ℕ) → LONGEST_LINE < length text → is_mark text ≡ false
is_mark_long text lt = false_from_ne_true (is_mark text) (λ e.
    let three : length text ≡ 3 = ap length ((bytes_eq-Decides text (codes "---")).0 e) in
    absurd (omega (arith, three, lt)))

with_line_long : (r : ScriptReader) (text : List ℕ) → LONGEST_LINE < length text → with_line r text ≡ Err TooLong
unfolding with_line
with_line_long r text lt = rw (lt-ltb _ _ lt) refl

pub after_line_long : (r : ScriptReader) (text : List ℕ) → LONGEST_LINE < length text
    → after_line r text ≡ Err (record { line = r.lines + 1; kind = TooLong })
after_line_long r text lt = ap (at_line (r.lines + 1)) (with_line_long (record r { lines = r.lines + 1 }) text lt)
