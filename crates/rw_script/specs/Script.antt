-- What a script describes: channels, actors, and their calls in order.
use Rattle.std.specs.Prelude.{ℕ, ◌+◌, List, [], ◌∷◌, ◌++◌, length, slice_get, Bool, Option, None, Some}
use Rattle.std.specs.Prelude.{is_some, is_none, Result, Ok, Err, ◌&&◌, nat_eq, nat_lt, nat_le, if◌then◌else◌, codes}
use Rattle.std.specs.Option.{unwrap_or}
use Rattle.std.specs.Str.{bytes_eq}
use Rattle.rw_lines.specs.Cut.{cut}
use Rattle.rw_lines.specs.Lines.{is_skipped}
use Rattle.rw_lines.specs.Numerals.{numeral_in}
use Rattle.rw_lines.specs.declared.lines.TheConstants.{LONGEST_LINE}
use Rattle.rw_world.specs.declared.opening.Spec.{Spec}
use Rattle.rw_world.specs.declared.opening.Spec.TheVariants as spec
use Rattle.rw_law.specs.declared.limits.TheConstants.{MOST_ACTORS}
use Rattle.rw_ring.specs.declared.ring.TheConstants.{MOST_CAPACITY}
use Rattle.rw_world.specs.declared.opening.TheConstants.{MOST_CHANNELS}
use Rattle.rw_world.specs.Openings.{spec_kind}
use Rattle.rw_script.specs.declared.reader.TheConstants.{MOST_STEPS}
use Rattle.rw_script.specs.declared.faults.ScriptFaultKind.{ScriptFaultKind}
use Rattle.rw_script.specs.declared.faults.ScriptFaultKind.TheVariants.{TooLong, Syntax, BadCapacity, TooManyChannels, BadActors}
use Rattle.rw_script.specs.declared.faults.ScriptFaultKind.TheVariants.{UnknownActor, UnknownChannel, NameTaken, TooManySteps, NoChannels}
use Rattle.rw_script.specs.declared.faults.ScriptFault.{ScriptFault}
use Rattle.rw_script.specs.declared.said.HeadLine.{HeadLine}
use Rattle.rw_script.specs.declared.said.HeadLine.TheVariants.{Broadcast, Watch, Actors}
use Rattle.rw_script.specs.declared.steps.ScriptStep.{ScriptStep}
use Rattle.rw_words.specs.Arguments as option
use Rattle.rw_script.specs.Fields.{fields_in}
use Rattle.rw_script.specs.StepLines.{Said, Bound, said_in, target_in, is_bound_again, with_bound}
use Rattle.rw_words.specs.Words.{◌>>=◌, or_fault}

-- the channels, how many actors there are, and the calls in order
pub record Script : Type 0 where
  pub specs : List (Spec ℕ)
  pub actors : ℕ
  pub steps : List ScriptStep

-- what the lines of a script describe so far
pub record ScriptReader : Type 0 where
  -- how many lines were read, including skipped ones
  pub lines : ℕ
  pub specs : List (Spec ℕ)
  -- the number of actors, once the actors line was read
  pub actors : Option ℕ
  pub steps : List ScriptStep
  -- the names that the steps bind, in order
  pub names : List Bound

-- before the first line
abbrev pub opening : ScriptReader
opening = record { lines = 0; specs = []; actors = None; steps = []; names = [] }

-- there is one actor if no line has the number of actors
abbrev pub actors_of : ScriptReader → ℕ
actors_of r = unwrap_or r.actors 1

-- ---- channel lines and the actors line

-- a line of one word and one numeral
abbrev pub head_with : List ℕ → ℕ → Option HeadLine
head_with word n =
    if bytes_eq word (codes "broadcast") then Some (Broadcast n)
    else if bytes_eq word (codes "watch") then Some (Watch n)
    else if bytes_eq word (codes "actors") then Some (Actors n)
    else None

abbrev pub head_after : Option (List ℕ × List ℕ) → Option HeadLine
head_after None = None
head_after (Some p) = option.◌>>=◌ (numeral_in p.1) (head_with p.0)

unfoldable pub head_in : List ℕ → Option HeadLine
head_in line = head_after (cut 32 line)

-- channel lines and the actors line may come only while there is no actors line and no step
abbrev pub is_in_head : ScriptReader → Bool
is_in_head r = is_none r.actors && nat_eq (length r.steps) 0

abbrev pub with_spec : ScriptReader → Spec ℕ → Result ScriptReader ScriptFaultKind
with_spec r s = if nat_lt (length r.specs) MOST_CHANNELS then Ok (record r { specs = r.specs ++ s ∷ [] }) else Err TooManyChannels

abbrev pub with_head : ScriptReader → HeadLine → Result ScriptReader ScriptFaultKind
with_head r (Broadcast n) = if nat_le 1 n && nat_le n MOST_CAPACITY then with_spec r (spec.Broadcast n) else Err BadCapacity
with_head r (Watch v) = with_spec r (spec.Watch v)
with_head r (Actors n) = if nat_le 1 n && nat_le n MOST_ACTORS then Ok (record r { actors = Some n }) else Err BadActors

-- ---- step lines

-- what the channel is opened as, if the actor exists
abbrev pub spec_for : ScriptReader → ℕ → ℕ → Result (Spec ℕ) ScriptFaultKind
spec_for r actor channel = if nat_lt actor (actors_of r) then or_fault UnknownChannel (slice_get r.specs channel) else Err UnknownActor

-- one more step, on the line that was read last, with the name that it binds
abbrev pub with_said : ScriptReader → ℕ → ℕ → Said → Option ℕ → Result ScriptReader ScriptFaultKind
with_said r actor channel said target =
    if is_bound_again r.names said.bound then Err NameTaken
    else if nat_lt (length r.steps) MOST_STEPS then Ok (record r {
      steps = r.steps ++ record { line = r.lines; actor = actor; channel = channel; call = said.call; target = target; binds = is_some said.bound } ∷ [];
      names = with_bound r.names actor channel said.bound;
    })
    else Err TooManySteps

unfoldable pub with_step : ScriptReader → List ℕ → Result ScriptReader ScriptFaultKind
with_step r line = do
  f ← or_fault Syntax (fields_in line)
  s ← spec_for r f.0 f.1
  said ← said_in (spec_kind s) f.2
  target ← target_in r.names f.0 f.1 said.target
  with_said r f.0 f.1 said target

-- ---- any line

abbrev pub with_words : ScriptReader → Option HeadLine → List ℕ → Result ScriptReader ScriptFaultKind
with_words r (Some head) line = with_head r head
with_words r None line = with_step r line

abbrev pub head_of_line : ScriptReader → List ℕ → Option HeadLine
head_of_line r line = if is_in_head r then head_in line else None

-- what is described with the line that was read last, or what is wrong with that line
unfoldable pub with_line : ScriptReader → List ℕ → Result ScriptReader ScriptFaultKind
with_line r line =
    if nat_lt LONGEST_LINE (length line) then Err TooLong
    else if is_skipped line then Ok r
    else with_words r (head_of_line r line) line

-- ---- all lines

abbrev pub at_line : ℕ → Result ScriptReader ScriptFaultKind → Result ScriptReader ScriptFault
at_line n (Ok r) = Ok r
at_line n (Err kind) = Err (record { line = n; kind = kind })

-- one more line, or its fault
abbrev pub after_line : ScriptReader → List ℕ → Result ScriptReader ScriptFault
after_line r line = at_line (r.lines + 1) (with_line (record r { lines = r.lines + 1 }) line)

-- the script where it ends: at the mark, which is the next line, or at the end of the input
abbrev pub script_at_end : ScriptReader → Result Script ScriptFault
script_at_end r =
    if nat_eq (length r.specs) 0 then Err (record { line = r.lines + 1; kind = NoChannels })
    else Ok (record { specs = r.specs; actors = actors_of r; steps = r.steps })

-- the line between script and console
abbrev pub is_mark : List ℕ → Bool
is_mark line = bytes_eq line (codes "---")

-- the script of these lines, up to the mark or the end, or its first fault
abbrev pub script_from : ScriptReader → List (List ℕ) → Result Script ScriptFault
script_from r [] = script_at_end r
script_from r (line ∷ ls) = if is_mark line then script_at_end r else (after_line r line >>= λ s. script_from s ls)

abbrev pub script_in : List (List ℕ) → Result Script ScriptFault
script_in ls = script_from opening ls

-- the lines after the mark
abbrev pub after_mark : List (List ℕ) → List (List ℕ)
after_mark [] = []
after_mark (line ∷ ls) = if is_mark line then ls else after_mark ls
