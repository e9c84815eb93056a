-- The receipts of passes compared with the lines of a script, and both with a run.
use Rattle.std.proofs.Common.{◌≡◌, ◌≢◌, ℕ, suc, ◌+◌, ◌<◌, ◌≤◌, cond, List, [], ◌∷◌, ◌++◌, map, length, take, drop}
use Rattle.std.proofs.Common.{get_or, refl, sym, ap, subst, ◌∙◌, inl, inr, arith, All, append_assoc}
use Rattle.std.specs.Prelude.{nat_eq}
use Rattle.std.proofs.lemmas.Bool.{cases_lt, cond-true, cond-false}
use Rattle.std.proofs.lemmas.Bool.Decides.{eqb_tells}
use Rattle.std.proofs.lemmas.List.{append-nil, get_or_default, drop_all, drop_more, map-append, take_all, take_more}
use Rattle.std.proofs.lemmas.List.Sums.{sum_by-cons}
use Rattle.std.proofs.lemmas.Option.{get_or_from_slice_get, slice_get_within}
use Rattle.rw_desk.specs.declared.kept.Kept.{Kept}
use Rattle.rw_desk.specs.Closing.{Agree, AreAllHere, passes_of}
use Rattle.rw_desk.specs.Passes.{Pass}
use Rattle.rw_desk.specs.Settling.{projection, receipt_of}
use Rattle.rw_journal.specs.Run.{entries_by}
use Rattle.rw_world.specs.declared.channels.ChanCall.{ChanCall}
use Rattle.rw_world.specs.declared.channels.ChanReply.{ChanReply}
use Rattle.rw_world.specs.declared.channels.ChanReply.TheVariants as reply
use Rattle.rw_world.specs.declared.rows.RowCall.{RowCall}
use Rattle.rw_world.specs.declared.opening.Spec.{Spec}
use Rattle.rw_world.specs.Lists.{Each}
use Rattle.rw_world.specs.Specified.{WorldEntry}
use Rattle.rw_script.specs.declared.steps.ScriptStep.{ScriptStep}
use Rattle.rw_script.specs.WellFormed.{IsScriptStep}
use Rattle.rw_script.specs.Running.{call_of, made_after, made_by}
use Rattle.rw_script.specs.Threads.{IsFollowed, IsPlayed, Moves, call_kept, calls_by, calls_kept, first, others, replies_kept}
use Rattle.rw_script.proofs.PlayLaws.{made_is}

-- ---- one more step

abbrev Calls : Type 0
Calls = List (RowCall (ChanCall ℕ))

own_calls : (actor : ℕ) (made : List ℕ) (step : ScriptStep) (steps : List ScriptStep) (replies : List (ChanReply ℕ)) → step.actor ≡ actor
    → calls_by actor made (step ∷ steps) replies ≡ (call_of step made).1 ∷ calls_by actor (made_after step.binds (first replies) made) steps (others replies)
own_calls actor made step steps replies same = elim (eqb_tells step.actor actor) [
  | inl t ↦ cond-true (nat_eq step.actor actor) _ _ (t.0)
  | inr t ↦ absurd (t.1 same)
]

other_calls : (actor : ℕ) (made : List ℕ) (step : ScriptStep) (steps : List ScriptStep) (replies : List (ChanReply ℕ)) → step.actor ≢ actor
    → calls_by actor made (step ∷ steps) replies ≡ calls_by actor (made_after step.binds reply.NoChannel made) steps replies
other_calls actor made step steps replies other = elim (eqb_tells step.actor actor) [
  | inl t ↦ absurd (other t.1)
  | inr t ↦ cond-false (nat_eq step.actor actor) _ _ (t.0)
]

-- the receipts before this number are those of the calls of the steps before an index
pub record Follows (p : Pass ℕ) (steps : List ScriptStep) (index number : ℕ) (made : List ℕ) : Type 0 where
  pub within : number ≤ length p.kept
  pub rest : calls_by p.actor [] steps (replies_kept p.kept) ≡ calls_kept (take number p.kept)
      ++ calls_by p.actor made (drop index steps) (replies_kept (drop number p.kept))

module _ (p : Pass ℕ) (steps : List ScriptStep) (index : ℕ) (step : ScriptStep) (lt : index < length steps) (at : step ≡ get_or steps index step) (number : ℕ)
    (made : List ℕ) (so_far : Follows p steps index number made) (to : ℕ × ℕ) (moves : Moves p number step made to)
    (made' : List ℕ) (names : made' ≡ cond step.binds (made ++ to.1 ∷ []) made) where
  abbrev left : List ScriptStep
  left = drop (index + 1) steps

  abbrev ks : List (Kept ℕ)
  ks = p.kept

  at_step : calls_by p.actor [] steps (replies_kept ks) ≡ calls_kept (take number ks) ++ calls_by p.actor made (step ∷ left) (replies_kept (drop number ks))
  at_step = so_far.rest ∙ ap (λ ss. calls_kept (take number ks) ++ calls_by p.actor made ss (replies_kept (drop number ks)))
      (drop_more steps index step lt ∙ ap (λ s. s ∷ left) (sym at))

  over_own : step.actor ≡ p.actor → Follows p steps (index + 1) to.0 made'
  over_own same =
      let next = moves.own same in
      let k : Kept ℕ = next.receipt in
      let c : RowCall (ChanCall ℕ) = (call_of step made).1 in
      let within : number < length ks = slice_get_within ks number k next.at in
      let is : get_or ks number k ≡ k = get_or_from_slice_get ks number k k next.at in
      let behind : List (Kept ℕ) = drop (number + 1) ks in
      let split : drop number ks ≡ k ∷ behind = drop_more ks number k within ∙ ap (λ x. x ∷ behind) is in
      let before : calls_kept (take (number + 1) ks) ≡ calls_kept (take number ks) ++ c ∷ [] =
      ap calls_kept (take_more ks number k within ∙ ap (λ x. take number ks ++ x ∷ []) is)
      ∙ (map-append call_kept (take number ks) (k ∷ []) ∙ ap (λ x. calls_kept (take number ks) ++ x ∷ []) next.call) in
      let handle : to.1 ≡ made_by k.reply = ap (λ t. t.1) next.to_is in
      let names' : made' ≡ made_after step.binds k.reply made = names ∙ made_is step.binds k.reply made to.1 handle in
      let rest : Calls = calls_by p.actor (made_after step.binds k.reply made) left (replies_kept behind) in
      let whole : calls_by p.actor [] steps (replies_kept ks) ≡ calls_kept (take (number + 1) ks) ++ rest =
      at_step
      ∙ (ap (λ x. calls_kept (take number ks) ++ calls_by p.actor made (step ∷ left) (replies_kept x)) split
      ∙ (ap (λ x. calls_kept (take number ks) ++ x) (own_calls p.actor made step left (replies_kept (k ∷ behind)) same)
      ∙ (sym (append_assoc (calls_kept (take number ks)) (c ∷ []) rest)
      ∙ ap (λ x. x ++ rest) (sym before)))) in
      let number_is : to.0 ≡ number + 1 = ap (λ t. t.0) next.to_is in
      rw (number_is, names') (record { within = omega (arith, within); rest = whole })

  over_other : step.actor ≢ p.actor → Follows p steps (index + 1) to.0 made'
  over_other other =
      let to_is = moves.other other in
      let names' : made' ≡ made_after step.binds reply.NoChannel made = names ∙ made_is step.binds reply.NoChannel made to.1 (ap (λ t. t.1) to_is) in
      let number_is : to.0 ≡ number = ap (λ t. t.0) to_is in
      rw (number_is, names') (record {
        within = so_far.within;
        rest = at_step ∙ ap (λ x. calls_kept (take number ks) ++ x) (other_calls p.actor made step left (replies_kept (drop number ks)) other);
      })

  follows_more : Follows p steps (index + 1) to.0 made'
  follows_more = elim (eqb_tells step.actor p.actor) [ inl t ↦ over_own t.1 | inr t ↦ over_other t.1 ]

-- at the step of an index
pub follows_at : (p : Pass ℕ) (steps : List ScriptStep) (index : ℕ) (d : ScriptStep) → index < length steps → (number : ℕ) (made : List ℕ)
    → Follows p steps index number made → (to : ℕ × ℕ) → Moves p number (get_or steps index d) made to
    → (made' : List ℕ) → made' ≡ cond (get_or steps index d).binds (made ++ to.1 ∷ []) made → Follows p steps (index + 1) to.0 made'
follows_at p steps index d lt number made so_far to moves made' names =
    let step : ScriptStep = get_or steps index d in
    follows_more p steps index step lt (get_or_default steps index d step lt) number made so_far to moves made' names

-- before the first step
pub follows_none : (p : Pass ℕ) (steps : List ScriptStep) (made : List ℕ) → made ≡ [] → Follows p steps 0 0 made
follows_none p steps made none = rw none (record { within = omega arith; rest = refl })

-- after the last step
pub follows_whole : (p : Pass ℕ) (steps : List ScriptStep) (index number : ℕ) (made : List ℕ) → Follows p steps index number made → length steps ≤ index
    → length p.kept ≤ number → IsFollowed steps p
follows_whole p steps index number made f all whole =
    sym (
    f.rest
    ∙ (ap (λ ss. calls_kept (take number p.kept) ++ calls_by p.actor made ss (replies_kept (drop number p.kept))) (drop_all index steps all)
    ∙ (append-nil (calls_kept (take number p.kept))
    ∙ ap calls_kept (take_all number p.kept whole)))
    )

-- ---- a run whose passes follow the lines

calls_of_receipts : (es : List (WorldEntry ℕ)) → calls_kept (map receipt_of es) ≡ map (λ e. e.call) es
calls_of_receipts [] = refl
calls_of_receipts (e ∷ es) = ap (λ cs. e.call ∷ cs) (calls_of_receipts es)

replies_of_receipts : (es : List (WorldEntry ℕ)) → replies_kept (map receipt_of es) ≡ map (λ e. e.reply) es
replies_of_receipts [] = refl
replies_of_receipts (e ∷ es) = ap (λ rs. e.reply ∷ rs) (replies_of_receipts es)

-- the calls of an actor are those of its lines
abbrev IsPlayedBy : List ScriptStep → List (WorldEntry ℕ) → ℕ → Type 0
IsPlayedBy steps es actor = map (λ e. e.call) (entries_by actor es) ≡ calls_by actor [] steps (map (λ e. e.reply) (entries_by actor es))

by_pass : (steps : List ScriptStep) (es : List (WorldEntry ℕ)) (p : Pass ℕ) → p.kept ≡ projection p.actor es → IsFollowed steps p → IsPlayedBy steps es p.actor
by_pass steps es p kept followed =
    let mine : List (WorldEntry ℕ) = entries_by p.actor es in
    sym (calls_of_receipts mine)
    ∙ (ap calls_kept (sym kept)
    ∙ (followed
    ∙ (ap (λ ks. calls_by p.actor [] steps (replies_kept ks)) kept
    ∙ ap (calls_by p.actor [] steps) (replies_of_receipts mine))))

by_passes : (steps : List ScriptStep) (es : List (WorldEntry ℕ)) (a : ℕ) (ps : List (Pass ℕ)) → 0 < passes_of a ps
    → Each (λ p. p.kept ≡ projection p.actor es) ps → Each (IsFollowed steps) ps → IsPlayedBy steps es a
by_passes steps es a [] some kept followed = absurd (omega arith)
by_passes steps es a (p ∷ ps) some kept followed = elim (eqb_tells p.actor a) [
  | inl t ↦ subst (IsPlayedBy steps es) (t.1) (by_pass steps es p kept.0 followed.0)
  | inr t ↦
      let n = sum_by-cons (λ (q : Pass ℕ). cond (nat_eq q.actor a) 1 0) p ps in
      let none : ◌≡◌ {A = ℕ} (cond (nat_eq p.actor a) 1 0) 0 = rw (t.0) refl in
      by_passes steps es a ps (omega (arith, n, none, some)) kept.1 followed.1
]

-- an actor that isn't there has no entries and no lines
no_entries : (n a : ℕ) (es : List (WorldEntry ℕ)) → n ≤ a → All (λ e. e.actor < n) es → entries_by a es ≡ []
no_entries n a [] past known = refl
no_entries n a (e ∷ es) past known = elim (eqb_tells e.actor a) [
  | inl t ↦ absurd (omega (arith, t.1, known 0 e (omega arith), past))
  | inr t ↦ rw (t.0) (no_entries n a es past (λ k d lt. known (suc k) d (omega (arith, lt))))
]

no_lines : (specs : List (Spec ℕ)) (n a : ℕ) (made : List ℕ) (steps : List ScriptStep) → n ≤ a → All (IsScriptStep specs n) steps
    → calls_by a made steps [] ≡ []
no_lines specs n a made [] past known = refl
no_lines specs n a made (s ∷ steps) past known =
    other_calls a made s steps [] (λ same. absurd (omega (arith, same, (known 0 s (omega arith)).actor, past)))
    ∙ no_lines specs n a (made_after s.binds reply.NoChannel made) steps past (λ k d lt. known (suc k) d (omega (arith, lt)))

pub all_played : (specs : List (Spec ℕ)) (n : ℕ) (steps : List ScriptStep) (es : List (WorldEntry ℕ)) (ps : List (Pass ℕ)) → AreAllHere n ps → Agree ps es
    → Each (IsFollowed steps) ps → All (λ e. e.actor < n) es → All (IsScriptStep specs n) steps
    → IsPlayed steps es
all_played specs n steps es ps here agree followed known lines a = elim (cases_lt a n) [
  | inl lt ↦ by_passes steps es a ps (omega (arith, here.once a lt)) agree.receipts followed
  | inr le ↦
      rw (no_entries n a es le known) (sym (no_lines specs n a [] steps le lines))
]
