-- Scripts that are played by a thread for each actor.
use Rattle.std.specs.Prelude.{◌≡◌, ◌≢◌, ℕ, ◌+◌, List, [], ◌∷◌, Some, map, slice_get, nat_eq, if◌then◌else◌}
use Rattle.rw_desk.specs.declared.kept.Kept.{Kept}
use Rattle.rw_desk.specs.Passes.{Pass}
use Rattle.rw_journal.specs.Run.{IsRun, Run, entries_by}
use Rattle.rw_world.specs.declared.channels.ChanCall.{ChanCall}
use Rattle.rw_world.specs.declared.channels.ChanReply.{ChanReply}
use Rattle.rw_world.specs.declared.channels.ChanReply.TheVariants as reply
use Rattle.rw_world.specs.declared.rows.RowCall.{RowCall}
use Rattle.rw_world.specs.Specified.{WorldEntry}
use Rattle.rw_script.specs.declared.steps.ScriptStep.{ScriptStep}
use Rattle.rw_script.specs.Script.{Script}
use Rattle.rw_script.specs.Running.{NEVER_MADE, call_of, made_after, made_by}

-- the first of some replies, and the others
abbrev pub first : List (ChanReply ℕ) → ChanReply ℕ
first [] = reply.NoChannel
first (r ∷ rs) = r

abbrev pub others : List (ChanReply ℕ) → List (ChanReply ℕ)
others [] = []
others (r ∷ rs) = rs

-- the calls of an actor's lines, if these are their replies; made: the handles of the names so far, none for a name that
-- another actor bound
abbrev pub calls_by : ℕ → List ℕ → List ScriptStep → List (ChanReply ℕ) → List (RowCall (ChanCall ℕ))
calls_by actor made [] replies = []
calls_by actor made (step ∷ steps) replies =
    if nat_eq step.actor actor then (call_of step made).1 ∷ calls_by actor (made_after step.binds (first replies) made) steps (others replies)
    else calls_by actor (made_after step.binds reply.NoChannel made) steps replies

-- each actor's calls are those of its lines, all and in order, with names for the handles that its own lines made
abbrev pub IsPlayed : List ScriptStep → List (WorldEntry ℕ) → Type 0
IsPlayed steps es = (actor : ℕ) → map (λ e. e.call) (entries_by actor es) ≡ calls_by actor [] steps (map (λ e. e.reply) (entries_by actor es))

-- a run of the script's channels in which each actor's calls are those of its lines
pub record IsRunOf (script : Script) (run : Run ℕ) : Type 0 where
  pub run_is : IsRun run.specs run.entries
  pub specs : run.specs ≡ script.specs
  pub played : IsPlayed script.steps run.entries

-- ---- the same for receipts

-- the calls and the replies of receipts
abbrev pub call_kept : Kept ℕ → RowCall (ChanCall ℕ)
call_kept k = record { channel = k.channel; call = k.call }

abbrev pub calls_kept : List (Kept ℕ) → List (RowCall (ChanCall ℕ))
calls_kept ks = map call_kept ks

abbrev pub replies_kept : List (Kept ℕ) → List (ChanReply ℕ)
replies_kept ks = map (λ k. k.reply) ks

-- the calls of a pass are those of its actor's lines
abbrev pub IsFollowed : List ScriptStep → Pass ℕ → Type 0
IsFollowed steps p = calls_kept p.kept ≡ calls_by p.actor [] steps (replies_kept p.kept)

-- ---- the walk over an actor's lines and its receipts

-- the receipt of this number is that of a step's call; to: the next number, and the handle that the call made
pub record IsNext (p : Pass ℕ) (number : ℕ) (step : ScriptStep) (made : List ℕ) (to : ℕ × ℕ) : Type 0 where
  pub receipt : Kept ℕ
  pub at : slice_get p.kept number ≡ Some receipt
  pub call : call_kept receipt ≡ (call_of step made).1
  pub to_is : to ≡ (number + 1, made_by receipt.reply)

-- a step of the pass's actor has the next receipt, and a step of another has none and makes no handle
pub record Moves (p : Pass ℕ) (number : ℕ) (step : ScriptStep) (made : List ℕ) (to : ℕ × ℕ) : Type 0 where
  pub own : step.actor ≡ p.actor → IsNext p number step made to
  pub other : step.actor ≢ p.actor → to ≡ (number, NEVER_MADE)
