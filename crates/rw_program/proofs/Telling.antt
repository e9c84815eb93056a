-- Reporting an end.
use Rattle.std.proofs.Common.{◌≡◌, ℕ, List, Option, Result, Ok, Err, inl, inr, length, take}
use Rattle.std.specs.Prelude.{IfOk, IfErr, OnOk, ◌<◌}
use Rattle.std.specs.Io.KnownBytes.{Appends}
use Rattle.rw_lines.specs.declared.streams.ShortWrite.{ShortWrite}
use Rattle.rw_lines.specs.declared.streams.StreamFault.{StreamFault}
use Rattle.rw_console.specs.declared.sessions.Outcome.{Outcome}
use Rattle.rw_console.specs.declared.sessions.TheConstants.{MOST_BYTES}
use Rattle.rw_console.specs.Streams.{Answers, Stops}
use Rattle.rw_program.specs.Statuses.{Says, Tells}
use Rattle.rw_program.specs.Runs.{Ends, Runs}

-- a line was written whole, or only its first bytes
pub says : {X : Type 0} (e0 e1 : Option (List ℕ)) (line : List ℕ) (put : Result X ShortWrite) → OnOk put (Appends e0 e1 line)
    → IfErr put (λ e. e.written < length line)
    → IfErr put (λ e. Appends e0 e1 (take e.written line)) → Says e0 e1 line
says e0 e1 line (Ok x) ok short err = inl ok
says e0 e1 line (Err e) ok short err = inr (e.written, short, err)

module _ (report : List ℕ → List ℕ) (outcome : List ℕ → Outcome) (begun : List (List ℕ) → Type 0) where
  ends : (r0 r1 w0 w1 : Option (List ℕ)) (ended : Result Outcome StreamFault)
      → IfOk ended (λ o. (done : Answers r0 r1 w0 w1 report MOST_BYTES) × (outcome done.bytes ≡ o))
      → IfErr ended (Stops r0 r1 w0 w1 report begun MOST_BYTES) → Ends report outcome begun r0 r1 w0 w1 ended
  ends r0 r1 w0 w1 (Ok o) ok err = ok
  ends r0 r1 w0 w1 (Err fault) ok err = err

  pub runs : {r0 r1 w0 w1 : Option (List ℕ)} {line : List ℕ} {status : ℕ} (ended : Result Outcome StreamFault)
      → IfOk ended (λ o. (done : Answers r0 r1 w0 w1 report MOST_BYTES) × (outcome done.bytes ≡ o))
      → IfErr ended (Stops r0 r1 w0 w1 report begun MOST_BYTES) → Tells line status ended → Runs report outcome begun r0 r1 w0 w1 line status
  runs ended ok err tells = record {
    ended = ended;
    commands = ends _ _ _ _ ended ok err;
    told = tells;
  }
