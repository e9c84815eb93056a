-- Step lines: `ACTOR CHANNEL WORD HANDLE ARGS`, where a name may stand for the handle, and ` as NAME` may follow a call that
-- makes a handle.
use Rattle.std.specs.Prelude.{ℕ, Bool, false, not, ◌&&◌, ◌==◌, is_some, if◌then◌else◌, List, [], ◌∷◌, ◌++◌, Option, None, Some, Result, Ok, Err, position}
use Rattle.std.specs.Option.{option_map}
use Rattle.std.specs.List.{list_any}
use Rattle.std.specs.Str.{bytes_eq}
use Rattle.rw_law.specs.Numbers.{numbers}
use Rattle.rw_world.specs.declared.kinds.ChannelKind.{ChannelKind}
use Rattle.rw_world.specs.Channel.{makes}
use Rattle.rw_world.specs.Kinds.{is_broadcast}
use Rattle.rw_world.specs.declared.channels.ChanCall.{ChanCall}
use Rattle.rw_words.specs.declared.arguments.WordFault.{WordFault}
use Rattle.rw_script.specs.declared.faults.ScriptFaultKind.{ScriptFaultKind}
use Rattle.rw_script.specs.declared.faults.ScriptFaultKind.TheVariants.{BadArguments, UnknownName}
use Rattle.rw_script.specs.declared.said.SaidCall.{SaidCall}
use Rattle.rw_script.specs.Faults.{kind_of_words}
use Rattle.rw_script.specs.Fields.{named_in}
use Rattle.rw_words.specs.Texts.{call_in}
use Rattle.rw_words.specs.Words.{◌>>=◌, or_fault, map_ok}

-- ---- the call that a line makes

-- a call that may name its handle, and may bind a name
pub record Said : Type 0 where
  -- its handle is 0 if a name stands for it
  pub call : ChanCall ℕ
  -- the name that stands for the handle
  pub target : Option (List ℕ)
  -- the name that the line binds
  pub bound : Option (List ℕ)

-- such a call, from the type that the program has for it
abbrev pub said_of : SaidCall → Said
said_of s = record { call = s.call; target = option_map (λ n. n.now) s.target; bound = option_map (λ n. n.now) s.bound }

abbrev pub in_script : {A : Type 0} → Result A WordFault → Result A ScriptFaultKind
in_script (Ok x) = Ok x
in_script (Err fault) = Err (kind_of_words fault)

-- the call with its names; only a call that makes a handle may bind one
abbrev pub said_by : Option (List ℕ) → Option (List ℕ) → ChanCall ℕ → Result Said ScriptFaultKind
said_by target bound c = if is_some bound && not (makes c) then Err BadArguments else Ok (record { call = c; target = target; bound = bound })

-- the call of a text, in the words of this kind of channel
unfoldable pub said_in : ChannelKind → List ℕ → Result Said ScriptFaultKind
said_in kind text = in_script (call_in numbers (is_broadcast kind) (named_in text).text) >>= said_by (named_in text).target (named_in text).bound

-- ---- names

-- a name, with the actor that bound it and the channel
pub record Bound : Type 0 where
  pub name : List ℕ
  pub actor : ℕ
  pub channel : ℕ

-- the number of a name that this actor bound on this channel, in order of binding
abbrev pub number_of : List Bound → List ℕ → ℕ → ℕ → Option ℕ
number_of names name actor channel = position (λ b. bytes_eq name b.name && (b.actor == actor && b.channel == channel)) names

-- whether any actor bound the name on any channel
abbrev pub is_bound : List Bound → List ℕ → Bool
is_bound names name = list_any (λ b. bytes_eq name b.name) names

-- the number of the name that stands for the handle, if there is one
abbrev pub target_in : List Bound → ℕ → ℕ → Option (List ℕ) → Result (Option ℕ) ScriptFaultKind
target_in names actor channel None = Ok None
target_in names actor channel (Some name) = map_ok (λ i. Some i) (or_fault UnknownName (number_of names name actor channel))

-- whether the name that a line binds is taken
abbrev pub is_bound_again : List Bound → Option (List ℕ) → Bool
is_bound_again names None = false
is_bound_again names (Some name) = is_bound names name

-- the names with that of a line added at the end
abbrev pub with_bound : List Bound → ℕ → ℕ → Option (List ℕ) → List Bound
with_bound names actor channel None = names
with_bound names actor channel (Some name) = names ++ record { name = name; actor = actor; channel = channel } ∷ []
