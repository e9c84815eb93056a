-- How a run of a script's threads ends, where nothing is known of its files and streams.
use Rattle.std.proofs.Common.{ℕ, List, Option, None, Result, Ok, Err, inl, inr}
use Rattle.std.specs.Prelude.{◌⊎◌, IfOk, IfErr}
use Rattle.rw_lines.specs.declared.streams.StreamFault.TheVariants.{Read}
use Rattle.rw_lines.specs.Lines.{lines}
use Rattle.rw_script.specs.declared.faults.ScriptFault.{ScriptFault}
use Rattle.rw_script.specs.Script.{Script, script_in}
use Rattle.rw_program.specs.Files.{TellsOnly}
use Rattle.rw_program.specs.Statuses.{Tells}
use Rattle.rw_program.specs.Threads.{Plays, RecordsThreads}
use Rattle.rw_program.proofs.Forgetting.{closes_any, over_any}

plays_any : (w w' : Option (List ℕ)) (line : List ℕ) (status : ℕ) (said : Result Script ScriptFault) → Plays w w' line status said
    → Plays None None line status said
plays_any w w' line status (Ok script) (inl p) = inl (p.0, p.1, closes_any w w' line status _ p.2)
plays_any w w' line status (Ok script) (inr p) = inr (p.0, tt, p.2, p.3)
plays_any w w' line status (Err fault) p = closes_any w w' line status _ p

threads_any : (f f' w w' : Option (List ℕ)) (line : List ℕ) (status : ℕ) → RecordsThreads f f' w w' line status → RecordsThreads None None None None line status
threads_any f f' w w' line status d = over_any (λ bytes m. plays_any w w' line status (script_in (lines bytes)) m) (λ fault u. (tt, u.1)) d

-- threads over a file that was opened, or that couldn't be
pub opened_threads_any : {F X : Type 0} (remaining : F → Option (List ℕ)) (file : Result F X) (w w' : Option (List ℕ)) (line : List ℕ) (status : ℕ)
    → IfErr file (λ _. TellsOnly w w' line status Read) → IfOk file (λ f. (rest : Option (List ℕ)) × RecordsThreads (remaining f) rest w w' line status)
    → Tells line status (Err Read) ⊎ RecordsThreads None None None None line status
opened_threads_any remaining (Ok f) w w' line status err ok = inr (threads_any _ _ w w' line status ok.1)
opened_threads_any remaining (Err e) w w' line status err ok = inl err.1
