-- A script whose first lines were read.
use Rattle.std.proofs.Common.{◌≡◌, ◌≢◌, ◌+◌, ◌<◌, ◌≤◌, ◌⊎◌, ℕ, Bool, true, false, cond, List, [], ◌∷◌, ◌++◌, length, Result, Ok}
use Rattle.std.proofs.Common.{Err, inl, inr, refl, sym, ap, ◌∙◌, arith, eqb, append_assoc, length-append}
use Rattle.std.specs.Prelude.{IfErr}
use Rattle.std.proofs.lemmas.Bool.{cond-true, cond-false}
use Rattle.rw_lines.specs.Lines.{lines}
use Rattle.rw_words.specs.Words.{◌>>=◌}
use Rattle.rw_words.proofs.WordLaws.{bind_ok}
use Rattle.rw_script.specs.declared.faults.ScriptFault.{ScriptFault}
use Rattle.rw_script.specs.declared.faults.ScriptFaultKind.TheVariants.{NoChannels, NoMemory}
use Rattle.rw_script.specs.Memory.{Adds, AsksMemory, after_lines}
use Rattle.rw_script.specs.Script.{ScriptReader, Script, actors_of, after_line, script_at_end, is_mark, opening, script_from, script_in}
use Rattle.rw_script.proofs.Spared.{spared}

-- the script ends at a mark
pub at_mark : (r : ScriptReader) (line : List ℕ) (more : List (List ℕ)) → is_mark line ≡ true → script_from r (line ∷ more) ≡ script_at_end r
at_mark r line more e = cond-true (is_mark line) (script_at_end r) (after_line r line >>= λ s. script_from s more) e

-- and continues at any other line
pub at_other : (r : ScriptReader) (line : List ℕ) (more : List (List ℕ)) (said : Result ScriptReader ScriptFault) → is_mark line ≡ false
    → after_line r line ≡ said → script_from r (line ∷ more) ≡ (said >>= λ s. script_from s more)
at_other r line more said e a = cond-false (is_mark line) (script_at_end r) (after_line r line >>= λ s. script_from s more) e
    ∙ ap (λ (x : Result ScriptReader ScriptFault). x >>= λ s. script_from s more) a

abbrev ended_as : Bool → ℕ → Script → Result Script ScriptFault
ended_as b n script = cond b (Err (record { line = n; kind = NoChannels })) (Ok script)

-- reading on from here gives the whole script; the lines so far were counted and accepted
pub record HasRead (bytes rest : List ℕ) (r : ScriptReader) : Type 0 where
  pub whole : script_from r (lines rest) ≡ script_in (lines bytes)
  pub count : r.lines + length rest ≤ length bytes
  pub before : List (List ℕ)
  pub lines_are : lines bytes ≡ before ++ lines rest
  pub number : r.lines ≡ length before
  pub taken : after_lines opening before ≡ Ok r

one_more : (r : ScriptReader) (before : List (List ℕ)) (line : List ℕ) (s t : ScriptReader) → after_lines r before ≡ Ok s → after_line s line ≡ Ok t
    → after_lines r (before ++ line ∷ []) ≡ Ok t
one_more r [] line s t e h = let same : r ≡ s = cc in rw (same, h) refl
one_more r (b ∷ bs) line s t e h =
    let a = bind_ok (after_line r b) (λ v. after_lines v bs) s e in
    ap (λ (x : Result ScriptReader ScriptFault). x >>= λ v. after_lines v (bs ++ line ∷ [])) a.1 ∙ one_more a.0 bs line s t a.2 h

next_lines : (ls before after more : List (List ℕ)) (line : List ℕ) → ls ≡ before ++ after → after ≡ line ∷ more → ls ≡ before ++ line ∷ more
next_lines ls before after more line e h = e ∙ ap (λ (x : List (List ℕ)). before ++ x) h

module _ (bytes rest line next : List ℕ) (r : ScriptReader) (h : HasRead bytes rest r) (first : lines rest ≡ line ∷ lines next) where
  -- one more line was accepted
  pub read_more : (s : ScriptReader) → is_mark line ≡ false → after_line r line ≡ Ok s → s.lines ≡ r.lines + 1 → length next < length rest
      → HasRead bytes next s
  read_more s plain said counted shorter = record {
    whole = sym (at_other r line (lines next) (Ok s) plain said) ∙ (ap (script_from r) (sym first) ∙ h.whole);
    count = omega (arith, h.count, shorter, counted);
    before = h.before ++ line ∷ [];
    lines_are = next_lines (lines bytes) h.before (lines rest) (lines next) line h.lines_are first ∙ sym (append_assoc h.before (line ∷ []) (lines next));
    number = omega (arith, h.number, counted, length-append h.before (line ∷ []));
    taken = one_more opening h.before line r s h.taken said;
  }

  -- memory ran out at a line
  pub wanting : (fault : ScriptFault) → (after_line r line ≡ Err fault) ⊎ ((fault.kind ≡ NoMemory) × Adds r (after_line r line)) → fault.line ≡ r.lines + 1
      → fault.kind ≡ NoMemory → AsksMemory (lines bytes) fault.line
  wanting fault (inl said) at want = absurd (spared r line fault said want)
  wanting fault (inr memory) at want = record {
    before = h.before;
    line = line;
    after = lines next;
    reading = r;
    lines = next_lines (lines bytes) h.before (lines rest) (lines next) line h.lines_are first;
    counted = omega (arith, at, h.number);
    taken = h.taken;
    adds = memory.1;
  }

ended_at : (b : Bool) (n : ℕ) (script : Script) (fault : ScriptFault) → ended_as b n script ≡ Err fault → fault.kind ≢ NoMemory
ended_at true n script fault h = λ want. cc
ended_at false n script fault h = absurd cc

-- ending a script never runs out of memory
pub ended_spares : (r : ScriptReader) (result : Result Script ScriptFault) → result ≡ script_at_end r → (X : ScriptFault → Type 0)
    → IfErr result (λ fault. fault.kind ≡ NoMemory → X fault)
ended_spares r (Ok script) e X = tt
ended_spares r (Err fault) e X = λ want. absurd
    (ended_at (eqb (length r.specs) 0) (r.lines + 1) (record { specs = r.specs; actors = actors_of r; steps = r.steps }) fault (sym e) want)
