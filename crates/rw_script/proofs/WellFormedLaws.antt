-- The invariant of a reader implies that of its script.
use Rattle.std.proofs.Common.{◌≡◌, ◌<◌, ◌≤◌, ℕ, Bool, zero, suc, false, true, cond, ◌∙◌, List, [], ◌∷◌}
use Rattle.std.proofs.Common.{length, map, All, Option, Some, None, refl, ap, arith, ltb, eqb}
use Rattle.std.specs.Prelude.{position, slice_get, ◌==◌}
use Rattle.std.specs.Option.{option_map, option_map_or}
use Rattle.std.proofs.lemmas.Bool.{cond-false, le-ltb, ne_eqb}
use Rattle.std.proofs.lemmas.List.{length-map}
use Rattle.std.proofs.lemmas.Option.{slice_get-map, slice_get_within}
use Rattle.rw_world.specs.declared.channels.ChanCall.{ChanCall}
use Rattle.rw_world.specs.declared.opening.Spec.{Spec}
use Rattle.rw_world.specs.declared.opening.OpenFault.TheVariants.{NoChannels, TooManyChannels, BadCapacity}
use Rattle.rw_world.specs.Channel.{strays_at}
use Rattle.rw_world.specs.declared.kinds.ChannelKind.{ChannelKind}
use Rattle.rw_world.specs.Openings.{has_bad_capacity, refusal, spec_kind}
use Rattle.rw_script.specs.Script.{ScriptReader, actors_of}
use Rattle.rw_script.specs.WellFormed.{IsReading, IsScript, IsScriptStep}
use Rattle.rw_script.proofs.NameLaws.{no_position}

all_good : (specs : List (Spec ℕ)) → All (λ s. has_bad_capacity s ≡ false) specs → position has_bad_capacity specs ≡ None
all_good [] good = refl
all_good (s ∷ specs) good = no_position has_bad_capacity (s ∷ specs) s (λ k lt. good k s lt)

opens_with : (n : ℕ) (o : Option ℕ) → 0 < n → n ≤ 64 → o ≡ None
    → cond (eqb n 0) (Some NoChannels) (cond (ltb 64 n) (Some TooManyChannels) (option_map (λ i. BadCapacity i) o)) ≡ None
opens_with n o some few none =
    cond-false (eqb n 0) (Some NoChannels) (cond (ltb 64 n) (Some TooManyChannels) (option_map (λ i. BadCapacity i) o))
    (ne_eqb n 0 (λ e. absurd (omega (arith, e, some))))
    ∙ (cond-false (ltb 64 n) (Some TooManyChannels) (option_map (λ i. BadCapacity i) o) (le-ltb 64 n few) ∙ ap (option_map (λ i. BadCapacity i)) none)

pub opens : (specs : List (Spec ℕ)) → 0 < length specs → length specs ≤ 64 → All (λ s. has_bad_capacity s ≡ false) specs → refusal specs ≡ None
opens specs some few good = opens_with (length specs) (position has_bad_capacity specs) some few (all_good specs good)

pub script_holds : (r : ScriptReader) → IsReading r → 0 < length r.specs → IsScript (record { specs = r.specs; actors = actors_of r; steps = r.steps })
script_holds r holds some = record {
  opens = opens r.specs some holds.few_channels holds.good_channels;
  some_actor = holds.some_actor;
  few_actors = holds.few_actors;
  few_steps = holds.few_steps;
  steps = holds.steps;
}

pub some_of : (n : ℕ) → (n == 0) ≡ false → 0 < n
some_of zero e = absurd cc
some_of (suc n) e = omega arith

-- a step whose actor and channel exist, and whose channel is of its call's kind
pub step_holds : (specs : List (Spec ℕ)) (actors line actor channel : ℕ) (c : ChanCall ℕ) (target : Option ℕ) (binds : Bool) (k : ChannelKind) → actor < actors
    → slice_get (map spec_kind specs) channel ≡ Some k → strays_at k c ≡ false
    → IsScriptStep specs actors (record { line = line; actor = actor; channel = channel; call = c; target = target; binds = binds })
step_holds specs actors line actor channel c target binds k known there fits = record {
  actor = known;
  channel = omega (arith, slice_get_within (map spec_kind specs) channel k there, length-map specs spec_kind);
  kind = ap (λ (o : Option ChannelKind). option_map_or (λ j. strays_at j c) o true) there ∙ fits;
}

-- the kind of the channel of a number
pub kind_there : (specs : List (Spec ℕ)) (i : ℕ) (s : Spec ℕ) → slice_get specs i ≡ Some s → slice_get (map spec_kind specs) i ≡ Some (spec_kind s)
kind_there specs i s there = slice_get-map spec_kind specs i ∙ ap (option_map spec_kind) there
