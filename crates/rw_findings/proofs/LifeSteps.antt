-- One call of a channel: which handles it makes, and which it leaves as they are.
use Rattle.std.proofs.Common.{◌≡◌, ◌≢◌, ℕ, ◌+◌, ◌<◌, ◌⊎◌, List, [], ◌∷◌, ◌++◌, length, length-set, inl, inr, refl, ap, sym, ◌∙◌, subst}
use Rattle.std.specs.Prelude.{IsSome, Option, Some, None, slice_get, slice_set}
use Rattle.std.proofs.lemmas.List.{length_push}
use Rattle.std.proofs.lemmas.Option.{slice_get-get_or}
use Rattle.rw_handles.specs.declared.kinds.Kind.{Kind}
use Rattle.rw_handles.specs.declared.kinds.Kind.TheVariants.{Receiver}
use Rattle.rw_handles.specs.declared.kinds.Slot.{Slot}
use Rattle.rw_handles.specs.declared.kinds.Slot.TheVariants.{Live, Spent}
use Rattle.rw_handles.specs.Slots.{kind_at}
use Rattle.rw_broadcast.specs.Channel as b
use Rattle.rw_broadcast.specs.Shown as bs
use Rattle.rw_watch.specs.Channel as w
use Rattle.rw_watch.specs.Shown as ws
use Rattle.rw_world.specs.Kinds.{broadcast_shown, watch_shown}
use Rattle.rw_world.specs.Machines.{ChanShown, of_chan}
use Rattle.rw_world.specs.declared.channels.ChanCall.{ChanCall}
use Rattle.rw_world.specs.declared.channels.ChanCall.TheVariants as call_of
use Rattle.rw_findings.specs.Lives.{kind_in, made_in}
use Rattle.rw_world.specs.Channel.{handle_of}
use Rattle.rw_findings.proofs.HandleSteps.{IsKept, grows, grows_marked, own, own_mark}

-- from slots to slots: as many, or one more that has a handle
abbrev IsLonger : {X : Type 0} → (before after : List (Slot X)) → Type 0
IsLonger before after = (length after ≡ length before) ⊎ ((length after ≡ length before + 1) × IsSome (kind_at (slice_get after (length before))))

pushed : {X : Type 0} (xs : List X) (x : X) → slice_get (xs ++ x ∷ []) (length xs) ≡ Some x
pushed [] x = refl
pushed (y ∷ xs) x = pushed xs x

longer_push : {X : Type 0} (slots : List (Slot X)) (kind : Kind) (x : X) → IsLonger slots (slots ++ Live kind x ∷ [])
longer_push slots kind x = inr (length_push slots (Live kind x), subst (λ o. IsSome (kind_at o)) (sym (pushed slots (Live kind x))) refl)

longer_set : {X : Type 0} (slots : List (Slot X)) (h : ℕ) (slot : Slot X) → IsLonger slots (slice_set slots h slot)
longer_set slots h slot = inl (length-set slots h slot)

-- a slot that was there is the same
kept_there : {X : Type 0} (before after : List (Slot X)) (g : ℕ) (d : Slot X) → g < length before → IsKept (slice_get before g) (slice_get after g)
    → kind_at (slice_get after g) ≡ kind_at (slice_get before g)
kept_there before after g d within (inr same) = ap kind_at same
kept_there before after g d within (inl none) =
    let there = slice_get-get_or before g d within in
    let e : ◌≡◌ {A = Option (Slot _)} None (Some _) = sym none ∙ there in
    absurd cc

module _ {V : Type 0} where
  longer_broadcast : (x : bs.Shown V) (e : b.Change V) → IsLonger x.slots (bs.with_change x e).slots
  longer_broadcast x b.Keep = inl refl
  longer_broadcast x (b.Append v) = inl refl
  longer_broadcast x (b.Make kind p) = longer_push x.slots kind p
  longer_broadcast x (b.Move h from to) = longer_set x.slots h (Live Receiver to)
  longer_broadcast x (b.Leave h kind p) = longer_set x.slots h Spent

  longer_watch : (x : ws.Shown V) (e : w.Change V) → IsLonger x.slots (ws.with_change x e).slots
  longer_watch x w.Keep = inl refl
  longer_watch x (w.Write v told) = inl refl
  longer_watch x (w.Make kind mark) = longer_push x.slots kind mark
  longer_watch x (w.Mark h from to) = longer_set x.slots h (Live Receiver to)
  longer_watch x (w.Leave h kind mark) = longer_set x.slots h Spent

  -- from x to y by a call with handle h: the others keep their kind, and at most one handle is made
  pub record Steps (x y : ChanShown V) (h : ℕ) : Type 0 where
    pub others : (g : ℕ) → g ≢ h → g < made_in x → kind_in y g ≡ kind_in x g
    pub made : (made_in y ≡ made_in x) ⊎ ((made_in y ≡ made_in x + 1) × IsSome (kind_in y (made_in x)))

  idle : (x : ChanShown V) (h : ℕ) → Steps x x h
  idle x h = record { others = λ g apart within. refl; made = inl refl }

  pub steps : (x : ChanShown V) (call : ChanCall V) → Steps x ((of_chan {V = V}).next x call) (handle_of call)
  steps (broadcast_shown x) (call_of.B call) =
      let e = (b.effect (bs.channel_of x) call).0 in
      record {
        others = λ g apart within. kept_there x.slots (bs.with_change x e).slots g Spent within
            (grows x e (b.handle_of call) g (own (bs.channel_of x) call) apart).2;
        made = longer_broadcast x e;
      }
  steps (broadcast_shown x) (call_of.W call) = idle (broadcast_shown x) (w.handle_of call)
  steps (watch_shown x) (call_of.B call) = idle (watch_shown x) (b.handle_of call)
  steps (watch_shown x) (call_of.W call) =
      let e = (w.effect x call).0 in
      record {
        others = λ g apart within. kept_there x.slots (ws.with_change x e).slots g Spent within
            (grows_marked x e (w.handle_of call) g (own_mark x call) apart).1;
        made = longer_watch x e;
      }
