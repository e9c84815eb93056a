-- The run of a script: its calls in the order of its lines, up to the first that would wait.
use Rattle.std.specs.Prelude.{◌≡◌, ℕ, Bool, true, false, List, [], ◌∷◌, ◌++◌, get_or, map, fold, Option, None, Some, if◌then◌else◌}
use Rattle.std.specs.Option.{unwrap_or}
use Rattle.rw_law.specs.declared.journal.Entry.{Entry}
use Rattle.rw_law.specs.declared.machine.Reversible.{Ghosts}
use Rattle.rw_law.specs.Journal.{after_all}
use Rattle.rw_journal.specs.Book.{Book, IsTaken, reply_to}
use Rattle.rw_world.specs.declared.rows.RowCall.{RowCall}
use Rattle.rw_world.specs.declared.channels.ChanCall.{ChanCall}
use Rattle.rw_world.specs.declared.channels.ChanReply.{ChanReply}
use Rattle.rw_world.specs.declared.opening.Spec.{Spec}
use Rattle.rw_world.specs.Channel.{new_handle, strays_at, with_handle}
use Rattle.rw_world.specs.Machines.{of_chan}
use Rattle.rw_world.specs.Openings.{spec_kind}
use Rattle.rw_world.specs.Records.{ChannelRecord, opened_records, next_records, records_after, reply_from}
use Rattle.rw_world.specs.Shapes.{stray_of}
use Rattle.rw_script.specs.declared.steps.ScriptStep.{ScriptStep}
use Rattle.rw_script.specs.Script.{Script}

-- the calls that are made, with their actors, and the line of the first call that would wait, if one would
pub record Ran : Type 0 where
  pub calls : List (ℕ × RowCall (ChanCall ℕ))
  pub waits : Option ℕ

-- ---- names

-- a number that no handle ever has
abbrev pub NEVER_MADE : ℕ
NEVER_MADE = 4294967295

-- the step's call, with the handle that its name stands for; made: the handles of the names so far
abbrev pub with_made_handle : ChanCall ℕ → Option ℕ → List ℕ → ChanCall ℕ
with_made_handle c None made = c
with_made_handle c (Some name) made = with_handle c (get_or made name NEVER_MADE)

-- the actor and the call of a step
abbrev pub call_of : ScriptStep → List ℕ → ℕ × RowCall (ChanCall ℕ)
call_of step made = (step.actor, record { channel = step.channel; call = with_made_handle step.call step.target made })

-- the handle that a call made, by its reply
abbrev pub made_by : {V : Type 0} → ChanReply V → ℕ
made_by r = unwrap_or (new_handle r) NEVER_MADE

-- a step that binds a name makes it stand for the handle that its call made
abbrev pub made_after : Bool → ChanReply ℕ → List ℕ → List ℕ
made_after false r made = made
made_after true r made = made ++ made_by r ∷ []

-- ---- the run

abbrev pub onto : ℕ × RowCall (ChanCall ℕ) → Ran → Ran
onto c ran = record { calls = c ∷ ran.calls; waits = ran.waits }

-- the run of the steps from here, in a world with these records
abbrev pub run_from : List (ChannelRecord ℕ) → List ℕ → List ScriptStep → Ran
run_from world made [] = record { calls = []; waits = None }
run_from world made (step ∷ steps) =
    let c = call_of step made in
    let r = reply_from world c.1 in
    if of_chan.is_waiting r then record { calls = []; waits = Some step.line }
    else onto c (run_from (next_records world c.1) (made_after step.binds r made) steps)

-- the run of a script on the world that it opens
abbrev pub run_of : Script → Ran
run_of s = run_from (opened_records s.specs) [] s.steps

-- ---- a step of the run on a book

-- the call was recorded with its reply, and this is the handle that it made
pub record IsMade {M P : Type 0} (m : Ghosts M (RowCall (ChanCall ℕ)) (ChanReply ℕ) P)
    (old new : Book M (RowCall (ChanCall ℕ)) (ChanReply ℕ) P) (c : ℕ × RowCall (ChanCall ℕ)) (handle : ℕ) : Type 0 where
  pub stamp : ℕ
  pub taken : IsTaken m old new c.0 0 c.1 stamp (reply_to m old c.1)
  pub handle_is : handle ≡ made_by (reply_to m old c.1)

-- ---- machines that reply as a script's channels do

-- after any calls a machine that shows x replies as the records of the specs do; the same replies wait as on a channel, and
-- calls stray by the specs
pub record PlaysFrom {M P : Type 0} (m : Ghosts M (RowCall (ChanCall ℕ)) (ChanReply ℕ) P) (specs : List (Spec ℕ)) (x : m.View) : Type 0 where
  pub replies : (calls : List (RowCall (ChanCall ℕ))) (c : RowCall (ChanCall ℕ))
      → m.reply_of (fold m.next x calls) c ≡ reply_from (records_after (opened_records specs) calls) c
  pub waits : (r : ChanReply ℕ) → m.is_waiting r ≡ (of_chan {V = ℕ}).is_waiting r
  pub strays : (es : List (Entry M (RowCall (ChanCall ℕ)) (ChanReply ℕ) P)) (c : RowCall (ChanCall ℕ))
      → m.is_straying (m.reply_of (after_all m x es) c) ≡ stray_of strays_at (map spec_kind specs) c
