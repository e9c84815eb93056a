-- As specified, no line of a script has the fault `NoMemory`.
use Rattle.std.proofs.Common.{◌≡◌, ◌≢◌, ◌+◌, ℕ, cond, List, [], ◌∷◌, ◌++◌, length, Option, Some, None, Result, Ok, Err, ltb, leb}
use Rattle.std.specs.Prelude.{◌&&◌, is_some, not, slice_get}
use Rattle.rw_law.specs.Numbers.{numbers}
use Rattle.rw_lines.specs.Lines.{is_skipped}
use Rattle.rw_words.specs.declared.arguments.WordFault.{WordFault}
use Rattle.rw_words.specs.declared.arguments.WordFault.TheVariants.{WrongWord, BadArguments, HandleTooLarge}
use Rattle.rw_words.specs.Texts.{call_in}
use Rattle.rw_words.specs.Words.{◌>>=◌, or_fault}
use Rattle.rw_words.proofs.Spared.{Spares, bind_spares, cond_spares, map_spares, or_fault_spares}
use Rattle.rw_world.specs.declared.opening.Spec.{Spec}
use Rattle.rw_world.specs.declared.opening.Spec.TheVariants as spec
use Rattle.rw_script.specs.declared.faults.ScriptFaultKind.{ScriptFaultKind}
use Rattle.rw_script.specs.declared.faults.ScriptFaultKind.TheVariants as kind
use Rattle.rw_script.specs.declared.faults.ScriptFault.{ScriptFault}
use Rattle.rw_script.specs.declared.said.HeadLine.{HeadLine}
use Rattle.rw_script.specs.declared.said.HeadLine.TheVariants.{Broadcast, Watch, Actors}
use Rattle.rw_script.specs.Fields.{fields_in, named_in}
use Rattle.rw_world.specs.declared.kinds.ChannelKind.{ChannelKind}
use Rattle.rw_world.specs.Channel.{makes}
use Rattle.rw_world.specs.Kinds.{is_broadcast}
use Rattle.rw_world.specs.Openings.{spec_kind}
use Rattle.rw_script.specs.Script.{ScriptReader, actors_of, after_line, at_line, head_of_line, spec_for}
use Rattle.rw_script.specs.Script.{with_head, with_line, with_said, with_spec, with_step, with_words}
use Rattle.rw_script.specs.StepLines.{Bound, Said, in_script, is_bound_again, number_of, said_by, said_in, target_in, with_bound}

abbrev Spared : {A : Type 0} → Result A ScriptFaultKind → Type 0
Spared r = Spares kind.NoMemory r

spec_spared : (r : ScriptReader) (s : Spec ℕ) → Spared (with_spec r s)
spec_spared r s = cond_spares kind.NoMemory (ltb (length r.specs) 64) (Ok (record r { specs = r.specs ++ s ∷ [] })) (Err kind.TooManyChannels) tt (λ e. cc)

head_spared : (r : ScriptReader) (head : HeadLine) → Spared (with_head r head)
head_spared r (Broadcast n) = cond_spares kind.NoMemory (leb 1 n && leb n 65536) (with_spec r (spec.Broadcast n)) (Err kind.BadCapacity)
    (spec_spared r (spec.Broadcast n)) (λ e. cc)
head_spared r (Watch v) = spec_spared r (spec.Watch v)
head_spared r (Actors n) = cond_spares kind.NoMemory (leb 1 n && leb n 64) (Ok (record r { actors = Some n })) (Err kind.BadActors) tt (λ e. cc)

in_script_spared : {A : Type 0} (r : Result A WordFault) → Spared (in_script r)
in_script_spared (Ok x) = tt
in_script_spared (Err WrongWord) = λ e. cc
in_script_spared (Err BadArguments) = λ e. cc
in_script_spared (Err HandleTooLarge) = λ e. cc

said_spared : (k : ChannelKind) (text : List ℕ) → Spared (said_in k text)
unfolding said_in
said_spared k text =
    bind_spares kind.NoMemory (in_script (call_in numbers (is_broadcast k) (named_in text).text)) (said_by (named_in text).target (named_in text).bound)
    (in_script_spared (call_in numbers (is_broadcast k) (named_in text).text))
    (λ c. cond_spares kind.NoMemory (is_some (named_in text).bound && not (makes c)) (Err kind.BadArguments)
    (Ok (record { call = c; target = (named_in text).target; bound = (named_in text).bound })) (λ e. cc) tt)

target_spared : (names : List Bound) (actor channel : ℕ) (target : Option (List ℕ)) → Spared (target_in names actor channel target)
target_spared names actor channel None = tt
target_spared names actor channel (Some name) =
    map_spares kind.NoMemory (λ i. Some i) (or_fault kind.UnknownName (number_of names name actor channel))
    (or_fault_spares kind.NoMemory kind.UnknownName (number_of names name actor channel) (λ e. cc))

abbrev longer : ScriptReader → ℕ → ℕ → Said → Option ℕ → ScriptReader
longer r actor channel said target = record r {
  steps = r.steps ++ record { line = r.lines; actor = actor; channel = channel; call = said.call; target = target; binds = is_some said.bound } ∷ [];
  names = with_bound r.names actor channel said.bound;
}

with_said_spared : (r : ScriptReader) (actor channel : ℕ) (said : Said) (target : Option ℕ) → Spared (with_said r actor channel said target)
with_said_spared r actor channel said target =
    cond_spares kind.NoMemory (is_bound_again r.names said.bound) (Err kind.NameTaken)
    (cond (ltb (length r.steps) 1048576) (Ok (longer r actor channel said target)) (Err kind.TooManySteps)) (λ e. cc)
    (cond_spares kind.NoMemory (ltb (length r.steps) 1048576) (Ok (longer r actor channel said target)) (Err kind.TooManySteps) tt (λ e. cc))

spec_for_spared : (r : ScriptReader) (actor channel : ℕ) → Spared (spec_for r actor channel)
spec_for_spared r actor channel =
    cond_spares kind.NoMemory (ltb actor (actors_of r)) (or_fault kind.UnknownChannel (slice_get r.specs channel)) (Err kind.UnknownActor)
    (or_fault_spares kind.NoMemory kind.UnknownChannel (slice_get r.specs channel) (λ e. cc)) (λ e. cc)

step_spared : (r : ScriptReader) (line : List ℕ) → Spared (with_step r line)
unfolding with_step
step_spared r line =
    bind_spares kind.NoMemory (or_fault kind.Syntax (fields_in line))
    (λ f. spec_for r f.0 f.1 >>= λ s. said_in (spec_kind s) f.2 >>= λ said. target_in r.names f.0 f.1 said.target >>= with_said r f.0 f.1 said)
    (or_fault_spares kind.NoMemory kind.Syntax (fields_in line) (λ e. cc))
    (λ f. bind_spares kind.NoMemory (spec_for r f.0 f.1)
    (λ s. said_in (spec_kind s) f.2 >>= λ said. target_in r.names f.0 f.1 said.target >>= with_said r f.0 f.1 said) (spec_for_spared r f.0 f.1)
    (λ s. bind_spares kind.NoMemory (said_in (spec_kind s) f.2) (λ said. target_in r.names f.0 f.1 said.target >>= with_said r f.0 f.1 said)
    (said_spared (spec_kind s) f.2)
    (λ said. bind_spares kind.NoMemory (target_in r.names f.0 f.1 said.target) (with_said r f.0 f.1 said) (target_spared r.names f.0 f.1 said.target)
    (λ target. with_said_spared r f.0 f.1 said target))))

words_spared : (r : ScriptReader) (head : Option HeadLine) (line : List ℕ) → Spared (with_words r head line)
words_spared r (Some head) line = head_spared r head
words_spared r None line = step_spared r line

line_spared : (r : ScriptReader) (line : List ℕ) → Spared (with_line r line)
unfolding with_line
line_spared r line =
    cond_spares kind.NoMemory (ltb 256 (length line)) (Err kind.TooLong) (cond (is_skipped line) (Ok r) (with_words r (head_of_line r line) line)) (λ e. cc)
    (cond_spares kind.NoMemory (is_skipped line) (Ok r) (with_words r (head_of_line r line) line) tt (words_spared r (head_of_line r line) line))

at_line_spared : (n : ℕ) (said : Result ScriptReader ScriptFaultKind) (fault : ScriptFault) → Spared said → at_line n said ≡ Err fault
    → fault.kind ≢ kind.NoMemory
at_line_spared n (Ok s) fault h e = absurd cc
at_line_spared n (Err other) fault h e = λ want. let same : other ≡ kind.NoMemory = cc in h same

pub spared : (r : ScriptReader) (line : List ℕ) (fault : ScriptFault) → after_line r line ≡ Err fault → fault.kind ≢ kind.NoMemory
spared r line fault e = at_line_spared (r.lines + 1) (with_line (record r { lines = r.lines + 1 }) line) fault
    (line_spared (record r { lines = r.lines + 1 }) line) e
