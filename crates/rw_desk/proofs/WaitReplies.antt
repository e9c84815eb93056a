-- The replies to the calls of a wait for a value.
use Rattle.std.proofs.Common.{◌≡◌, ◌⊎◌, ℕ, zero, suc, Bool, true, false, Option, List, [], ◌∷◌, Result, Ok}
use Rattle.std.proofs.Common.{Err, OnErr, Some, None, refl, sym, ◌∙◌, ap, subst, inl, inr}
use Rattle.std.specs.Prelude.{map, ◌↔◌, IsErrAnd, IsErrOf, IsTrue, MatchOption}
use Rattle.std.proofs.lemmas.Bool.{true≢false}
use Rattle.rw_law.specs.Journal.{after_all}
use Rattle.rw_handles.specs.declared.kinds.Found.{Found}
use Rattle.rw_handles.specs.declared.kinds.Found.TheVariants.{Fault, Handle}
use Rattle.rw_handles.specs.Slots.{lookup}
use Rattle.rw_watch.specs.Channel.{wait_effect, effect_found, is_closed, is_unseen, wanted_kind}
use Rattle.rw_watch.specs.Shown.{Shown}
use Rattle.rw_watch.specs.declared.calls.WCall.{WCall}
use Rattle.rw_watch.specs.declared.calls.WCall.TheVariants.{Update, Changed}
use Rattle.rw_watch.specs.declared.calls.WReply.{WReply}
use Rattle.rw_watch.specs.declared.calls.WReply.TheVariants.{Value, Done, Closed}
use Rattle.rw_world.specs.declared.channels.ChanCall.TheVariants as call
use Rattle.rw_world.specs.declared.channels.ChanReply.TheVariants as reply
use Rattle.rw_world.specs.Channel.{strays_at}
use Rattle.rw_world.specs.declared.kinds.ChannelKind.TheVariants as kinds
use Rattle.rw_world.specs.Kinds.{broadcast_shown, watch_shown}
use Rattle.rw_world.specs.Machines.{ChanShown, of_chan, of_watch}
use Rattle.rw_world.specs.Openings.{opened_channel, spec_kind}
use Rattle.rw_world.specs.declared.opening.Spec.{Spec}
use Rattle.rw_world.specs.declared.opening.Spec.TheVariants as spec
use Rattle.rw_world.specs.Shapes.{stray_of}
use Rattle.rw_desk.specs.declared.faults.DeskFault.{DeskFault}
use Rattle.rw_desk.specs.declared.faults.DeskFault.TheVariants.{NoChannel}
use Rattle.rw_desk.specs.Desks.{has_no_watch, row_call}
use Rattle.rw_desk.specs.Passes.{Pass}
use Rattle.rw_desk.specs.Waiting.{HasChanged, HasLooked, IsHandleRefusal}

module _ {V : Type 0} where
  -- the value, or the refusal of the handle
  abbrev pub IsRead : WReply V → Type 0
  IsRead r = ((v : V) × (r ≡ Value v)) ⊎ IsHandleRefusal r

  read : (y : Shown V) (h : ℕ) (f : Found (Option ℕ)) → IsRead ((effect_found y (Update h) f).1)
  read y h (Fault fault) = inr (fault, refl)
  read y h (Handle kind mark) = inl (y.value, refl)

  -- a change, the channel's close, or the refusal of the handle
  abbrev pub IsChange : WReply V → Type 0
  IsChange r = (r ≡ Done) ⊎ (r ≡ Closed) ⊎ IsHandleRefusal r

  change : (y : Shown V) (h : ℕ) (f : Found (Option ℕ)) → (of_watch {V = V}).is_waiting ((effect_found y (Changed h) f).1) ≡ false
      → IsChange ((effect_found y (Changed h) f).1)
  change y h (Fault fault) no_wait = inr (inr (fault, refl))
  change y h (Handle kind mark) no_wait = go (is_unseen y.version mark) refl
    where
      go : (unseen : Bool) → is_unseen y.version mark ≡ unseen → IsChange ((wait_effect y h mark).1)
      go true is = inl (rw is refl)
      go false is = closes (is_closed y) refl
        where
          closes : (closed : Bool) → is_closed y ≡ closed → IsChange ((wait_effect y h mark).1)
          closes true shut = inr (inl (rw (is, shut) refl))
          closes false shut = let waits : (of_watch {V = V}).is_waiting ((wait_effect y h mark).1) ≡ true = rw (is, shut) refl in absurd (cc)

  pub of_look : (spec : Option (Spec V)) (old new : Pass V) (channel h : ℕ) (r : WReply V) → HasLooked spec channel h old new r → IsRead r
  of_look spec old new channel h r receipt = go (after_all of_chan (opened_channel receipt.opened) receipt.journal) receipt.replied
    where
      go : (s : ChanShown V) → (of_chan {V = V}).reply_of s (call.W (Update h)) ≡ reply.W r → IsRead r
      go (broadcast_shown x) is = absurd (cc)
      go (watch_shown y) is = let same : (effect_found y (Update h) (lookup (wanted_kind {V = V} (Update h)) y.slots h)).1 ≡ r = cc in
          subst IsRead same (read y h (lookup (wanted_kind {V = V} (Update h)) y.slots h))

  pub of_change : (spec : Option (Spec V)) (old new : Pass V) (channel h : ℕ) (r : WReply V) → HasChanged spec channel h old new r → IsChange r
  of_change spec old new channel h r receipt = go (after_all of_chan (opened_channel receipt.opened) receipt.journal) receipt.replied
    where
      go : (s : ChanShown V) → (of_chan {V = V}).reply_of s (call.W (Changed h)) ≡ reply.W r → IsChange r
      go (broadcast_shown x) is = absurd (cc)
      go (watch_shown y) is =
          let given = (effect_found y (Changed h) (lookup (wanted_kind {V = V} (Changed h)) y.slots h)).1 in
          let same : given ≡ r = cc in
          let no_wait : (of_watch {V = V}).is_waiting given ≡ false = ap (of_watch {V = V}).is_waiting same ∙ receipt.no_wait in
          subst IsChange same (change y h (lookup (wanted_kind {V = V} (Changed h)) y.slots h) no_wait)

  -- a watch's call strays exactly if there is no watch
  pub strays_alike : (specs : List (Spec V)) (channel : ℕ) (c : WCall V)
      → stray_of strays_at (map spec_kind specs) (row_call channel (call.W c)) ≡ has_no_watch specs channel
  strays_alike [] channel c = refl
  strays_alike (spec.Broadcast n ∷ specs) zero c = refl
  strays_alike (spec.Watch v ∷ specs) zero c = refl
  strays_alike (s ∷ specs) (suc channel) c = strays_alike specs channel c

  -- if a watch's call found a channel, that is a watch
  pub watch_found : (specs : List (Spec V)) (channel : ℕ) (c : WCall V)
      → (IsTrue (stray_of strays_at (map spec_kind specs) (row_call channel (call.W c))) → true ≡ false) → IsTrue (has_no_watch specs channel) → ⊥
  watch_found specs channel c found none = true≢false (found (subst IsTrue (sym (strays_alike specs channel c)) none))

  pub watch_there : (s : Spec V) (c : WCall V) → strays_at (spec_kind s) (call.W c) ≡ false → spec_kind s ≡ kinds.Watch
  watch_there (spec.Broadcast n) c stays = absurd (true≢false stays)
  watch_there (spec.Watch v) c stays = refl

-- what holds anyway holds at an error
pub beside_error : {T E : Type 0} (r : Result T E) (P : Type 0) → P → OnErr r P
beside_error (Ok x) P p = tt
beside_error (Err e) P p = p

-- an `Ok` is no fault
pub no_fault : {T : Type 0} (x : T) (f : DeskFault) → IsErrOf (Ok x) f → ⊥
no_fault x f h = cc

pub in_none : {X : Type 0} (o : Option X) (A : Type 0) (B : X → Type 0) → ((x : X) → o ≡ Some x → ⊥) → MatchOption o A B → A
in_none None A B other m = m
in_none (Some x) A B other m = absurd (other x refl)

error_is : {T E : Type 0} (r : Result T E) (e f : E) → IsErrAnd r (λ g. g ≡ e) → r ≡ Err f → f ≡ e
error_is (Ok x) e f told h = absurd told
error_is (Err g) e f told h = let same : g ≡ f = cc in sym same ∙ told

module _ {V T : Type 0} (specs : List (Spec V)) (channel : ℕ) (c : WCall V) (x : T)
    (told : IsErrOf (Ok x) NoChannel ↔ IsTrue (stray_of strays_at (map spec_kind specs) (row_call channel (call.W c)))) where
  there_is : IsTrue (has_no_watch specs channel) → ⊥
  there_is none = no_fault x NoChannel (told.1 (subst IsTrue (sym (strays_alike specs channel c)) none))

  -- once one call was made, the clause on `NoChannel` holds at each `Ok`
  pub answered_there : {U : Type 0} (y : U) → (IsErrOf (Ok y) NoChannel ↔ IsTrue (has_no_watch specs channel))
  answered_there y = (λ h. absurd (no_fault y NoChannel h), λ none. absurd (there_is none))

  -- and at each fault
  pub broken_there : {U : Type 0} (d : WCall V) (e : DeskFault) (r : Result U DeskFault) → IsErrAnd r (λ f. f ≡ e)
      → (IsErrOf {T = T} (Err e) NoChannel ↔ IsTrue (stray_of strays_at (map spec_kind specs) (row_call channel (call.W d))))
      → (IsErrOf r NoChannel ↔ IsTrue (has_no_watch specs channel))
  broken_there d e r is told2 = (
    λ h. subst IsTrue (strays_alike specs channel d) (told2.0 (ap (λ f. Err f) (sym (error_is r e NoChannel is h)))),
    λ none. absurd (there_is none),
  )
