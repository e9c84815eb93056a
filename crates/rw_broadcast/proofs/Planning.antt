-- A plan does what is planned.
use Rattle.std.proofs.Common.{◌≡◌, ℕ, suc, ◌+◌, ◌-◌, ◌≤◌, List, [], ◌∷◌, ◌++◌, length, map, take, drop}
use Rattle.std.proofs.Common.{refl, ap, sym, subst, ◌∙◌, arith, length-drop, length-take-le}
use Rattle.std.proofs.lemmas.List.{append-nil, take-append-drop}
use Rattle.rw_handles.specs.declared.kinds.Kind.TheVariants.{Receiver}
use Rattle.rw_handles.specs.declared.kinds.Slot.TheVariants.{Live}
use Rattle.rw_broadcast.specs.Leading.{Act, Sends, MakesReceiver, sent_by, made_by}
use Rattle.rw_broadcast.specs.Planning.{Rises, plan, DoesWhatIsPlanned}

rises_within : (at : ℕ) (qs : List ℕ) (end : ℕ) → Rises at qs end → at ≤ end
rises_within at [] end r = r
rises_within at (q ∷ qs) end r = let more = rises_within q qs end r.1 in omega (arith, r.0, more)

module _ {V : Type 0} where
  sent_first : (vs : List V) (acts : List (Act V)) → sent_by (map (λ v. Sends v) vs ++ acts) ≡ vs ++ sent_by acts
  sent_first [] acts = refl
  sent_first (v ∷ vs) acts = ap (λ l. v ∷ l) (sent_first vs acts)

  made_after : (at : ℕ) (vs : List V) (acts : List (Act V)) → made_by at (map (λ v. Sends v) vs ++ acts) ≡ made_by (at + length vs) acts
  made_after at [] acts = let none : at ≡ at + 0 = omega arith in ap (λ k. made_by k acts) none
  made_after at (v ∷ vs) acts =
      let one : at + 1 + length vs ≡ at + suc (length vs) = omega arith in
      made_after (at + 1) vs acts ∙ ap (λ k. made_by k acts) one

  planned : DoesWhatIsPlanned V
  planned at [] vs r =
      let all = append-nil (map (λ (v : V). Sends v) vs) in
      (ap sent_by (sym all) ∙ sent_first vs [] ∙ append-nil vs, ap (made_by at) (sym all) ∙ made_after at vs [])
  planned at (q ∷ qs) vs r =
      let first = take (q - at) vs in
      let rest = drop (q - at) vs in
      let within = rises_within q qs (at + length vs) r.1 in
      let many : length first ≡ q - at = length-take-le (q - at) vs (omega (arith, within, r.0)) in
      let left = length-drop (q - at) vs in
      let end : at + length vs ≡ q + length rest = omega (arith, left, within, r.0) in
      let here : at + length first ≡ q = omega (arith, many, r.0) in
      let then = planned q qs rest (subst (Rises q qs) end r.1) in (
        sent_first first (MakesReceiver ∷ plan q qs rest) ∙ ap (λ l. first ++ l) then.0 ∙ take-append-drop (q - at) vs,
        made_after at first (MakesReceiver ∷ plan q qs rest) ∙ ap (λ k. made_by k (MakesReceiver ∷ plan q qs rest)) here ∙ ap (λ l. Live Receiver q ∷ l) then.1,
      )

pub does_what_is_planned : (V : Type 0) → DoesWhatIsPlanned V
does_what_is_planned V = planned
