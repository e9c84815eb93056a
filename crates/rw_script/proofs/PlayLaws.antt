-- A script whose first steps were made on a book.
use Rattle.std.proofs.Common.{◌≡◌, ◌+◌, ◌<◌, ◌≤◌, ℕ, Bool, true, false, cond, List, [], ◌∷◌, ◌++◌, map, length, drop, get_or, Option}
use Rattle.std.proofs.Common.{Some, None, refl, sym, ap, subst, ◌∙◌, arith, append_assoc, drop-cons, add-one, All}
use Rattle.std.specs.Prelude.{fold, slice_get}
use Rattle.std.specs.Option.{option_map_or}
use Rattle.std.proofs.lemmas.Bool.{cond-true, cond-false}
use Rattle.std.proofs.lemmas.List.{map-append, length-append, append-nil, drop_all}
use Rattle.std.proofs.lemmas.List.Sums.{fold_push}
use Rattle.rw_law.specs.declared.journal.Entry.{Entry}
use Rattle.rw_law.specs.declared.machine.Reversible.{Ghosts}
use Rattle.rw_law.specs.Journal.{after_all}
use Rattle.rw_world.specs.declared.opening.Spec.{Spec}
use Rattle.rw_world.specs.declared.channels.ChanCall.TheVariants as call
use Rattle.rw_world.specs.declared.rows.RowCall.{RowCall}
use Rattle.rw_world.specs.declared.kinds.ChannelKind.{ChannelKind}
use Rattle.rw_world.specs.declared.kinds.ChannelKind.TheVariants.{Broadcast, Watch}
use Rattle.rw_world.specs.Channel.{strays_at, with_handle}
use Rattle.rw_world.specs.declared.channels.ChanCall.{ChanCall}
use Rattle.rw_world.specs.declared.channels.ChanReply.{ChanReply}
use Rattle.rw_world.specs.Machines.{ChanShown, of_chan, of_world}
use Rattle.rw_world.specs.Openings.{opening_row, spec_kind}
use Rattle.rw_world.specs.Records.{ChannelRecord, opened_records, next_records, reply_from, records_after, RepliesByRecords}
use Rattle.rw_world.specs.Specified.{StraysBySpecs}
use Rattle.rw_journal.specs.Book.{Book, last_stamp_from, last_stamp, opening_of, state_of, reply_to}
use Rattle.rw_journal.specs.Interleaving.{CountsFrom, interleaving_of}
use Rattle.rw_script.specs.declared.steps.ScriptStep.{ScriptStep}
use Rattle.rw_script.specs.WellFormed.{IsScriptStep}
use Rattle.rw_script.specs.Running.{Ran, IsMade, PlaysFrom, call_of, with_made_handle, made_after, made_by, onto, run_from, run_of}
use Rattle.rw_script.specs.Script.{Script}

-- ---- a call with another handle is of the same kind

strays_with : (k : ChannelKind) (c : ChanCall ℕ) (h : ℕ) → strays_at k (with_handle c h) ≡ strays_at k c
strays_with Broadcast (call.B c) h = refl
strays_with Broadcast (call.W c) h = refl
strays_with Watch (call.B c) h = refl
strays_with Watch (call.W c) h = refl

strays_filled : (k : ChannelKind) (c : ChanCall ℕ) (name : Option ℕ) (made : List ℕ) → strays_at k (with_made_handle c name made) ≡ strays_at k c
strays_filled k c None made = refl
strays_filled k c (Some name) made = strays_with k c (get_or made name 4294967295)

stray_filled : (o : Option ChannelKind) (c : ChanCall ℕ) (name : Option ℕ) (made : List ℕ)
    → option_map_or (λ k. strays_at k (with_made_handle c name made)) o true ≡ option_map_or (λ k. strays_at k c) o true
stray_filled None c name made = refl
stray_filled (Some k) c name made = strays_filled k c name made

-- ---- stamps

stamp_counted : {M C R P : Type 0} (s : ℕ) (es : List (Entry M C R P)) → CountsFrom s es → last_stamp_from s es ≡ s + length es
stamp_counted s [] counts = omega arith
stamp_counted s (e ∷ es) counts = ap (λ n. last_stamp_from n es) counts.0 ∙ (stamp_counted (s + 1) es counts.1 ∙ omega arith)

pub last_counted : {M C R P : Type 0} (es : List (Entry M C R P)) → CountsFrom 0 es → last_stamp es ≡ length es
last_counted es counts = stamp_counted 0 es counts ∙ omega arith

counts_more : {M C R P : Type 0} (s : ℕ) (es : List (Entry M C R P)) (e : Entry M C R P) → CountsFrom s es → e.stamp ≡ s + length es + 1
    → CountsFrom s (es ++ e ∷ [])
counts_more s [] e counts next = (omega (arith, next), tt)
counts_more s (d ∷ es) e counts next = (counts.0, counts_more (s + 1) es e counts.1 (omega (arith, next)))

-- ---- a script that was run up to a step

abbrev pub calls_of : {M C R P : Type 0} → List (Entry M C R P) → List C
calls_of es = map (λ e. e.call) es

abbrev put_before : List (ℕ × RowCall (ChanCall ℕ)) → Ran → Ran
put_before cs ran = record { calls = cs ++ ran.calls; waits = ran.waits }

run_waits : (world : List (ChannelRecord ℕ)) (made : List ℕ) (step : ScriptStep) (steps : List ScriptStep)
    → (of_chan {V = ℕ}).is_waiting (reply_from world (call_of step made).1) ≡ true
    → run_from world made (step ∷ steps) ≡ record { calls = []; waits = Some step.line }
run_waits world made step steps waits =
    cond-true ((of_chan {V = ℕ}).is_waiting (reply_from world (call_of step made).1)) (record { calls = []; waits = Some step.line }) _ waits

run_goes_on : (world : List (ChannelRecord ℕ)) (made : List ℕ) (step : ScriptStep) (steps : List ScriptStep)
    → (of_chan {V = ℕ}).is_waiting (reply_from world (call_of step made).1) ≡ false
    → run_from world made (step ∷ steps) ≡ onto (call_of step made)
    (run_from (next_records world (call_of step made).1) (made_after step.binds (reply_from world (call_of step made).1) made) steps)
run_goes_on world made step steps on = cond-false ((of_chan {V = ℕ}).is_waiting (reply_from world (call_of step made).1))
    (record { calls = []; waits = Some step.line }) _ on

pub made_is : (binds : Bool) (r : ChanReply ℕ) (made : List ℕ) (handle : ℕ) → handle ≡ made_by r
    → cond binds (made ++ handle ∷ []) made ≡ made_after binds r made
made_is true r made handle is = ap (λ h. made ++ h ∷ []) is
made_is false r made handle is = refl

put_more : (cs : List (ℕ × RowCall (ChanCall ℕ))) (c : ℕ × RowCall (ChanCall ℕ)) (ran : Ran) → put_before (cs ++ c ∷ []) ran ≡ put_before cs (onto c ran)
put_more cs c ran = ap (λ (ds : List (ℕ × RowCall (ChanCall ℕ))). record { calls = ds; waits = ran.waits }) (append_assoc cs (c ∷ []) ran.calls)

next_step : (steps : List ScriptStep) (i : ℕ) (d : ScriptStep) → i < length steps → drop i steps ≡ get_or steps i d ∷ drop (i + 1) steps
next_step steps i d lt = drop-cons steps i d lt ∙ ap (λ n. get_or steps i d ∷ drop n steps) (sym (add-one i))

module _ {M P : Type 0} (m : Ghosts M (RowCall (ChanCall ℕ)) (ChanReply ℕ) P) where
  shown_by_calls : (x : m.View) (es : List (Entry M (RowCall (ChanCall ℕ)) (ChanReply ℕ) P)) → after_all m x es ≡ fold m.next x (calls_of es)
  shown_by_calls x [] = refl
  shown_by_calls x (e ∷ es) = shown_by_calls (m.next x e.call) es

  -- the calls of the steps before this index were made on the book, which was opened to show x
  pub record Played (script : Script) (x : m.View) (book : Book M (RowCall (ChanCall ℕ)) (ChanReply ℕ) P) (made : List ℕ) (index : ℕ) : Type 0 where
    pub opened : opening_of m book ≡ x
    pub counts : CountsFrom 0 book.entries
    pub count : length book.entries ≡ index
    pub rest : run_of script ≡ put_before (interleaving_of book.entries)
        (run_from (records_after (opened_records script.specs) (calls_of book.entries)) made (drop index script.steps))

  pub begins : (script : Script) (book : Book M (RowCall (ChanCall ℕ)) (ChanReply ℕ) P) (made : List ℕ) → book.entries ≡ [] → made ≡ []
      → Played script (opening_of m book) book made 0
  begins script book made fresh none = record {
    opened = refl;
    counts = rw fresh tt;
    count = rw fresh refl;
    rest = rw (fresh, none) refl;
  }

  module _ (script : Script) (x : m.View) (plays : PlaysFrom m script.specs x) where
    -- the reply to a call is that of the records
    answered : (book : Book M (RowCall (ChanCall ℕ)) (ChanReply ℕ) P) (made : List ℕ) (index : ℕ) → Played script x book made index → (c : RowCall (ChanCall ℕ))
        → reply_to m book c ≡ reply_from (records_after (opened_records script.specs) (calls_of book.entries)) c
    answered book made index p c = ap (λ y. m.reply_of y c) (ap (λ y. after_all m y book.entries) p.opened ∙ shown_by_calls x book.entries)
        ∙ plays.replies (calls_of book.entries) c

    -- no call of a step strays
    pub never_strays : (book : Book M (RowCall (ChanCall ℕ)) (ChanReply ℕ) P) (made : List ℕ) (index : ℕ) → Played script x book made index
        → (step : ScriptStep) → IsScriptStep script.specs script.actors step
        → m.is_straying (reply_to m book (call_of step made).1) ≡ false
    never_strays book made index p step ok =
        ap (λ y. m.is_straying (m.reply_of (after_all m y book.entries) (call_of step made).1)) p.opened
        ∙ (plays.strays book.entries (call_of step made).1
        ∙ (stray_filled (slice_get (map spec_kind script.specs) step.channel) step.call step.target made ∙ ok.kind))

    -- at a call that would wait, the run is the calls that were made
    pub stops : (book : Book M (RowCall (ChanCall ℕ)) (ChanReply ℕ) P) (made : List ℕ) (index : ℕ) (step : ScriptStep) (steps : List ScriptStep)
        → Played script x book made index → drop index script.steps ≡ step ∷ steps
        → m.is_waiting (reply_to m book (call_of step made).1) ≡ true → run_of script ≡ record { calls = interleaving_of book.entries; waits = Some step.line }
    stops book made index step steps p at waits =
        let c : RowCall (ChanCall ℕ) = (call_of step made).1 in
        let world : List (ChannelRecord ℕ) = records_after (opened_records script.specs) (calls_of book.entries) in
        let waits' : (of_chan {V = ℕ}).is_waiting (reply_from world c) ≡ true =
        sym (plays.waits (reply_from world c)) ∙ (ap (λ r. m.is_waiting r) (sym (answered book made index p c)) ∙ waits) in
        p.rest ∙ ap (λ steps. put_before (interleaving_of book.entries) (run_from world made steps)) at
        ∙ ap (put_before (interleaving_of book.entries)) (run_waits world made step steps waits')
        ∙ ap (λ cs. record { calls = cs; waits = Some step.line }) (append-nil (interleaving_of book.entries))

    -- after the last step too
    pub ends : (book : Book M (RowCall (ChanCall ℕ)) (ChanReply ℕ) P) (made : List ℕ) (index : ℕ) → Played script x book made index
        → length script.steps ≤ index → run_of script ≡ record { calls = interleaving_of book.entries; waits = None }
    ends book made index p all =
        let world : List (ChannelRecord ℕ) = records_after (opened_records script.specs) (calls_of book.entries) in
        p.rest ∙ ap (λ steps. put_before (interleaving_of book.entries) (run_from world made steps)) (drop_all index script.steps all)
        ∙ ap (λ cs. record { calls = cs; waits = None }) (append-nil (interleaving_of book.entries))

    -- one more step
    pub goes_on : (old new : Book M (RowCall (ChanCall ℕ)) (ChanReply ℕ) P) (made made' : List ℕ) (index : ℕ) (step : ScriptStep) (handle : ℕ)
        → Played script x old made index
        → drop index script.steps ≡ step ∷ drop (index + 1) script.steps → IsMade m old new (call_of step made) handle
        → made' ≡ cond step.binds (made ++ handle ∷ []) made → Played script x new made' (index + 1)
    goes_on old new made made' index step handle p at done names =
        let c : ℕ × RowCall (ChanCall ℕ) = call_of step made in
        let world : List (ChannelRecord ℕ) = records_after (opened_records script.specs) (calls_of old.entries) in
        let r : ChanReply ℕ = reply_from world c.1 in
        let same : reply_to m old c.1 ≡ r = answered old made index p c.1 in
        let on : (of_chan {V = ℕ}).is_waiting r ≡ false = sym (plays.waits r) ∙ (ap (λ r. m.is_waiting r) (sym same) ∙ done.taken.no_wait) in
        let entry : Entry M (RowCall (ChanCall ℕ)) (ChanReply ℕ) P =
        record { actor = c.0; stamp = done.stamp; call = c.1; reply = reply_to m old c.1; patch = m.patch_of (state_of m old) c.1 } in
        let steps : List ScriptStep = drop (index + 1) script.steps in
        let calls : interleaving_of new.entries ≡ interleaving_of old.entries ++ c ∷ [] =
        ap (λ es. interleaving_of es) done.taken.entries
        ∙ map-append (λ (e : Entry M (RowCall (ChanCall ℕ)) (ChanReply ℕ) P). (e.actor, e.call)) old.entries (entry ∷ []) in
        let worlds : records_after (opened_records script.specs) (calls_of new.entries) ≡ next_records world c.1 =
        ap (λ es. records_after (opened_records script.specs) (calls_of es)) done.taken.entries
        ∙ (ap (records_after (opened_records script.specs))
        (map-append (λ (e : Entry M (RowCall (ChanCall ℕ)) (ChanReply ℕ) P). e.call) old.entries (entry ∷ []))
        ∙ fold_push next_records (opened_records script.specs) (calls_of old.entries) c.1) in
        let bound : made' ≡ made_after step.binds r made = names ∙ made_is step.binds r made handle (done.handle_is ∙ ap made_by same) in
        record {
          opened = ap m.shown done.taken.opening ∙ p.opened;
          counts = rw done.taken.entries (counts_more 0 old.entries entry p.counts (omega (arith, done.taken.stamp_is, last_counted old.entries p.counts)));
          count = omega (arith, ap length done.taken.entries, length-append old.entries (entry ∷ []), p.count);
          rest =
              p.rest ∙ ap (λ ss. put_before (interleaving_of old.entries) (run_from world made ss)) at
              ∙ ap (put_before (interleaving_of old.entries)) (run_goes_on world made step steps on)
              ∙ sym (put_more (interleaving_of old.entries) c (run_from (next_records world c.1) (made_after step.binds r made) steps))
              ∙ (λ j. put_before (sym calls j) (run_from (sym worlds j) (sym bound j) steps));
        }

    -- ---- at the step of an index

    module _ (steps : List ScriptStep) (same : steps ≡ script.steps) (index : ℕ) (d : ScriptStep) (lt : index < length steps) where
      at_index : drop index script.steps ≡ get_or steps index d ∷ drop (index + 1) script.steps
      at_index = subst (λ (ss : List ScriptStep). drop index ss ≡ get_or steps index d ∷ drop (index + 1) ss) same (next_step steps index d lt)

      pub goes_on_at : (old new : Book M (RowCall (ChanCall ℕ)) (ChanReply ℕ) P) (made made' : List ℕ) (handle : ℕ) → Played script x old made index
          → IsMade m old new (call_of (get_or steps index d) made) handle
          → made' ≡ cond (get_or steps index d).binds (made ++ handle ∷ []) made → Played script x new made' (index + 1)
      goes_on_at old new made made' handle p done names = goes_on old new made made' index (get_or steps index d) handle p at_index done names

      pub stops_at : (old : Book M (RowCall (ChanCall ℕ)) (ChanReply ℕ) P) (made : List ℕ) → Played script x old made index
          → m.is_waiting (reply_to m old (call_of (get_or steps index d) made).1) ≡ true
          → run_of script ≡ record { calls = interleaving_of old.entries; waits = Some (get_or steps index d).line }
      stops_at old made p waits = stops old made index (get_or steps index d) (drop (index + 1) script.steps) p at_index waits

-- a world of these specs
pub world_plays : (specs : List (Spec ℕ)) (x : List (ChanShown ℕ)) → RepliesByRecords ℕ → StraysBySpecs ℕ → x ≡ opening_row specs → PlaysFrom of_world specs x
world_plays specs x documented specified shown =
    subst (PlaysFrom of_world specs) (sym shown) (record {
      replies = λ calls c. documented specs calls c;
      waits = λ r. refl;
      strays = λ es c. specified specs es c;
    })

-- actors are below 64
pub actor_at : (specs : List (Spec ℕ)) (actors : ℕ) (steps : List ScriptStep) (i : ℕ) (d : ScriptStep) → All (IsScriptStep specs actors) steps
    → i < length steps → actors ≤ 64 → (get_or steps i d).actor < 64
actor_at specs actors steps i d each lt few = omega (arith, (each i d lt).actor, few)
