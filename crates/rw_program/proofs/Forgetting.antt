-- How a run ends, where nothing is known of its files and streams.
use Rattle.std.proofs.Common.{ℕ, List, Option, None, Result, Ok, Err, inl, inr}
use Rattle.std.specs.Prelude.{◌⊎◌, IfOk, IfErr}
use Rattle.std.specs.Io.KnownBytes.{IsAtEnd, Keeps}
use Rattle.rw_console.specs.declared.sessions.Outcome.{Outcome}
use Rattle.rw_lines.specs.declared.streams.StreamFault.{StreamFault}
use Rattle.rw_lines.specs.declared.streams.StreamFault.TheVariants.{Read}
use Rattle.rw_text.specs.declared.faults.TextFault.{TextFault}
use Rattle.rw_journal.specs.Run.{Run}
use Rattle.rw_law.specs.Numbers.{numbers}
use Rattle.rw_text.specs.Reading.{reading_of}
use Rattle.rw_program.specs.declared.words.Verb.{Verb}
use Rattle.rw_program.specs.declared.words.Verb.TheVariants.{Record, Check, Debug, Salvage}
use Rattle.rw_program.specs.Endings.{Ending}
use Rattle.rw_program.specs.Files.{Closes, Debugs, OverFile, TellsOnly}
use Rattle.rw_program.specs.Runs.{Ends, Runs}
use Rattle.rw_program.specs.Statuses.{Tells}
use Rattle.rw_program.specs.Verbs.{DoneBy}

module _ (report : List ℕ → List ℕ) (outcome : List ℕ → Outcome) (begun : List (List ℕ) → Type 0) where
  whole_any : (r : Option (List ℕ)) (bytes : List ℕ) (Stays : Type 0) → IsAtEnd r ⊎ Stays → IsAtEnd None ⊎ Stays
  whole_any r bytes Stays (inl e) = inl tt
  whole_any r bytes Stays (inr m) = inr m

  ends_any : (r r' w w' : Option (List ℕ)) (ended : Result Outcome StreamFault) → Ends report outcome begun r r' w w' ended
      → Ends report outcome begun None None None None ended
  ends_any r r' w w' (Ok o) (done, same) = (
    record { bytes = done.bytes; few = done.few; read = tt; written = tt; whole = whole_any r' done.bytes _ done.whole },
    same,
  )
  ends_any r r' w w' (Err fault) s = record { bytes = s.bytes; text = s.text; rest = s.rest; read = tt; written = tt; prefix = s.prefix; why = s.why }

  pub runs_any : {r r' w w' : Option (List ℕ)} {line : List ℕ} {status : ℕ} → Runs report outcome begun r r' w w' line status
      → Runs report outcome begun None None None None line status
  runs_any {r = r} {r' = r'} {w = w} {w' = w'} s = record { ended = s.ended; commands = ends_any r r' w w' s.ended s.commands; told = s.told }

pub closes_any : (w w' : Option (List ℕ)) (line : List ℕ) (status : ℕ) (ending : Ending) → Closes w w' line status ending → Closes None None line status ending
closes_any w w' line status ending (inl c) = inl (record { written = tt; told = c.told; answered = c.answered })
closes_any w w' line status ending (inr f) =
    inr (record {
      fault = f.fault;
      why = f.why;
      prefix = record { text = f.prefix.text; rest = f.prefix.rest; written = tt; prefix = f.prefix.prefix };
      told = f.told;
    })

debugs_any : (r r' w w' : Option (List ℕ)) (line : List ℕ) (status : ℕ) (said : Result (Run ℕ) TextFault) → Debugs r r' w w' line status said
    → Debugs None None None None line status said
debugs_any r r' w w' line status (Ok run) d = runs_any _ _ _ d
debugs_any r r' w w' line status (Err fault) d = (tt, closes_any w w' line status _ d.1)

pub over_any : {file file' : Option (List ℕ)} {Made Made' : List ℕ → Type 0} {Unmade Unmade' : StreamFault → Type 0}
    → ((bytes : List ℕ) → Made bytes → Made' bytes) → ((fault : StreamFault) → Unmade fault → Unmade' fault)
    → OverFile file file' Made Unmade → OverFile None None Made' Unmade'
over_any {Made = Made} {Made' = Made'} {Unmade = Unmade} {Unmade' = Unmade'} made unmade o =
    record {
      bytes = o.bytes;
      read = tt;
      made = elim o.made [
        | inl m ↦ inl (tt, m.1, made o.bytes m.2)
        | inr u ↦ inr (u.0, u.1, unmade u.0 u.2)
      ];
    }

pub done_any : (verb : Verb) (f f' r r' w w' : Option (List ℕ)) (line : List ℕ) (status : ℕ) → DoneBy verb f f' r r' w w' line status
    → DoneBy verb None None None None None None line status
done_any Record f f' r r' w w' line status d = (tt, over_any (λ bytes m. closes_any w w' line status _ m) (λ fault u. (tt, u.1)) d.1)
done_any Check f f' r r' w w' line status d = (tt, over_any (λ bytes m. closes_any w w' line status _ m) (λ fault u. (tt, u.1)) d.1)
done_any Salvage f f' r r' w w' line status d = (tt, over_any (λ bytes m. closes_any w w' line status _ m) (λ fault u. (tt, u.1)) d.1)
done_any Debug f f' r r' w w' line status d =
    over_any (λ bytes m. debugs_any r r' w w' line status (reading_of numbers bytes) m) (λ fault u. (tt, (tt, u.1.1))) d

-- a verb over a file that was opened, or that couldn't be
pub opened_any : {F X : Type 0} (remaining : F → Option (List ℕ)) (file : Result F X) (verb : Verb) (r r' w w' : Option (List ℕ)) (line : List ℕ) (status : ℕ)
    → IfErr file (λ _. Keeps r r' × TellsOnly w w' line status Read)
    → IfOk file (λ f. (rest : Option (List ℕ)) × DoneBy verb (remaining f) rest r r' w w' line status)
    → Tells line status (Err Read) ⊎ DoneBy verb None None None None None None line status
opened_any remaining (Ok f) verb r r' w w' line status err ok = inr (done_any verb _ _ r r' w w' line status ok.1)
opened_any remaining (Err e) verb r r' w w' line status err ok = inl err.1.1
