-- The invariants of scripts, and of their readers.
use Rattle.std.specs.Prelude.{◌≡◌, ◌≤◌, ◌<◌, ℕ, List, All, length, map, false, None}
use Rattle.rw_world.specs.declared.opening.Spec.{Spec}
use Rattle.rw_world.specs.Channel.{strays_at}
use Rattle.rw_world.specs.Openings.{has_bad_capacity, spec_kind, refusal}
use Rattle.rw_world.specs.Shapes.{stray_of}
use Rattle.rw_law.specs.declared.limits.TheConstants.{MOST_ACTORS}
use Rattle.rw_world.specs.declared.opening.TheConstants.{MOST_CHANNELS}
use Rattle.rw_script.specs.declared.reader.TheConstants.{MOST_STEPS}
use Rattle.rw_script.specs.declared.steps.ScriptStep.{ScriptStep}
use Rattle.rw_script.specs.Script.{Script, ScriptReader, actors_of}

-- the actor and the channel exist, and the channel is of the call's kind
pub record IsScriptStep (specs : List (Spec ℕ)) (actors : ℕ) (step : ScriptStep) : Type 0 where
  pub actor : step.actor < actors
  pub channel : step.channel < length specs
  pub kind : stray_of strays_at (map spec_kind specs) (record { channel = step.channel; call = step.call }) ≡ false

-- the channels open, there are 1 to 64 actors and at most 1,048,576 steps, each of them of an actor and on a channel
pub record IsScript (s : Script) : Type 0 where
  pub opens : refusal s.specs ≡ None
  pub some_actor : 1 ≤ s.actors
  pub few_actors : s.actors ≤ MOST_ACTORS
  pub few_steps : length s.steps ≤ MOST_STEPS
  pub steps : All (IsScriptStep s.specs s.actors) s.steps

-- the same while the script is read, when there may be no channel yet; no step binds two names
pub record IsReading (r : ScriptReader) : Type 0 where
  pub good_channels : All (λ s. has_bad_capacity s ≡ false) r.specs
  pub few_channels : length r.specs ≤ MOST_CHANNELS
  pub some_actor : 1 ≤ actors_of r
  pub few_actors : actors_of r ≤ MOST_ACTORS
  pub few_steps : length r.steps ≤ MOST_STEPS
  pub few_names : length r.names ≤ length r.steps
  pub steps : All (IsScriptStep r.specs (actors_of r)) r.steps
