-- One call of a channel: it moves or drops no handle but the one that it names.
use Rattle.std.proofs.Common.{◌≡◌, ◌≢◌, ℕ, ◌-◌, ◌≤◌, ◌⊎◌, true, false, List, [], ◌∷◌, ◌++◌, length, inl, inr, refl, sym, ◌∙◌, arith}
use Rattle.std.specs.Prelude.{Option, Some, None, nat_lt, ◌==◌, slice_get, slice_set}
use Rattle.std.proofs.lemmas.Bool.{cond_both}
use Rattle.rw_handles.specs.declared.kinds.Kind.{Kind}
use Rattle.rw_handles.specs.declared.kinds.Kind.TheVariants.{Receiver}
use Rattle.rw_handles.specs.declared.kinds.Slot.TheVariants.{Live, Spent}
use Rattle.rw_handles.specs.Slots.{lookup}
use Rattle.rw_handles.proofs.Checks.{of_checked}
use Rattle.rw_broadcast.specs.declared.calls.BCall.{BCall}
use Rattle.rw_broadcast.specs.declared.calls.BCall.TheVariants as bcall
use Rattle.rw_broadcast.specs.declared.calls.BReply.{BReply}
use Rattle.rw_broadcast.specs.declared.calls.BReply.TheVariants as breply
use Rattle.rw_broadcast.specs.Channel as b
use Rattle.rw_broadcast.specs.Shown as bs
use Rattle.rw_watch.specs.declared.calls.WCall.{WCall}
use Rattle.rw_watch.specs.declared.calls.WCall.TheVariants as wcall
use Rattle.rw_watch.specs.declared.calls.WReply.{WReply}
use Rattle.rw_watch.specs.declared.calls.WReply.TheVariants as wreply
use Rattle.rw_watch.specs.Channel as w
use Rattle.rw_watch.specs.Shown as ws
use Rattle.rw_findings.proofs.LossSteps.{get-set_other, get-push_before}

-- from one slot to another: there was none, or it is the same
abbrev pub IsKept : {X : Type 0} → (before after : Option X) → Type 0
IsKept before after = (before ≡ None) ⊎ (after ≡ before)

kept_set : {X : Type 0} (xs : List X) (h k g : ℕ) (x : X) → k ≡ h → g ≢ h → IsKept (slice_get xs g) (slice_get (slice_set xs k x) g)
kept_set xs h k g x own apart = inr (get-set_other xs k g x (λ same. apart (same ∙ own)))

kept_push : {X : Type 0} (xs : List X) (g : ℕ) (x : X) → IsKept (slice_get xs g) (slice_get (xs ++ x ∷ []) g)
kept_push {X = X} xs g x = by_slot (slice_get xs g) refl where
  by_slot : (o : Option X) → slice_get xs g ≡ o → IsKept (slice_get xs g) (slice_get (xs ++ x ∷ []) g)
  by_slot None here = inl here
  by_slot (Some s) here = inr (get-push_before xs g x s here ∙ sym here)

module _ {V : Type 0} where
  -- ---- a broadcast

  -- the change moves or drops no handle but this one
  abbrev pub IsOwn : ℕ → b.Change V → Type 0
  IsOwn h (b.Move g from to) = g ≡ h
  IsOwn h (b.Leave g kind position) = g ≡ h
  IsOwn h _ = Unit {0}

  own_read : (c : b.Channel V) (h p : ℕ) (o : Option V) (nothing : BReply V) → IsOwn h (b.read c h p o nothing).0
  own_read c h p None nothing = tt
  own_read c h p (Some v) nothing = refl

  own_receive : (c : b.Channel V) (h p : ℕ) (nothing : BReply V) → IsOwn h (b.receive c h p nothing).0
  own_receive c h p nothing = cond_both (nat_lt 0 (b.oldest c - p)) _ _ (λ (e : b.Change V × BReply V). IsOwn h e.0) (λ _. refl)
      (λ _. own_read c h p (c.value p) nothing)

  own_with : (c : b.Channel V) (call : BCall V) (kind : Kind) (p : ℕ) → IsOwn (b.handle_of call) (b.effect_with c call kind p).0
  own_with c (bcall.Send h v) kind p = cond_both (b.receivers c == 0) _ _ (λ (e : b.Change V × BReply V). IsOwn h e.0) (λ _. tt) (λ _. tt)
  own_with c (bcall.Subscribe h) kind p = tt
  own_with c (bcall.CloneSender h) kind p = tt
  own_with c (bcall.Resubscribe h) kind p = tt
  own_with c (bcall.TryRecv h) kind p = own_receive c h p breply.Empty
  own_with c (bcall.Recv h) kind p = own_receive c h p breply.Waits
  own_with c (bcall.DropHandle h) kind p = refl
  own_with c (bcall.SenderLen h) kind p = tt
  own_with c (bcall.ReceiverCount h) kind p = tt
  own_with c (bcall.ReceiverLen h) kind p = tt
  own_with c (bcall.Downgrade h) kind p = tt
  own_with c (bcall.Upgrade h) kind p = cond_both (b.is_closed c) _ _ (λ (e : b.Change V × BReply V). IsOwn h e.0) (λ _. tt) (λ _. tt)
  own_with c (bcall.CloneWeak h) kind p = tt

  pub own : (c : b.Channel V) (call : BCall V) → IsOwn (b.handle_of call) (b.effect c call).0
  own c call =
      of_checked (λ (e : b.Change V × BReply V). IsOwn (b.handle_of call) e.0) (λ f. (b.Keep, b.fault_reply f)) (b.Keep, breply.TooManyHandles) (b.makes call)
      (length c.slots) (b.effect_with c call)
      (lookup (b.wanted_kind call) c.slots (b.handle_of call)) (λ f. tt) tt (λ kind p found few. own_with c call kind p)

  -- from x to y, what is measured of this receiver doesn't fall
  abbrev pub Grows : (x y : bs.Shown V) → ℕ → Type 0
  Grows x y g = (x.sent ≤ y.sent) × (y.capacity ≡ x.capacity) × IsKept (slice_get x.slots g) (slice_get y.slots g)

  pub grows : (x : bs.Shown V) (e : b.Change V) (h g : ℕ) → IsOwn h e → g ≢ h → Grows x (bs.with_change x e) g
  grows x b.Keep h g own apart = (omega arith, refl, inr refl)
  grows x (b.Append v) h g own apart = (omega arith, refl, inr refl)
  grows x (b.Make kind p) h g own apart = (omega arith, refl, kept_push x.slots g (Live kind p))
  grows x (b.Move k from to) h g own apart = (omega arith, refl, kept_set x.slots h k g (Live Receiver to) own apart)
  grows x (b.Leave k kind p) h g own apart = (omega arith, refl, kept_set x.slots h k g Spent own apart)

  -- ---- a watch

  abbrev pub IsOwnMark : ℕ → w.Change V → Type 0
  IsOwnMark h (w.Mark g from to) = g ≡ h
  IsOwnMark h (w.Leave g kind mark) = g ≡ h
  IsOwnMark h _ = Unit {0}

  own_mark_with : (c : w.Channel V) (call : WCall V) (kind : Kind) (mark : Option ℕ) → IsOwnMark (w.handle_of call) (w.effect_with c call kind mark).0
  own_mark_with c (wcall.Send h v) kind mark = cond_both (w.has_no_receiver c) _ _ (λ (e : w.Change V × WReply V). IsOwnMark h e.0) (λ _. tt) (λ _. tt)
  own_mark_with c (wcall.SendReplace h v) kind mark = tt
  own_mark_with c (wcall.Modify told h v) kind mark = tt
  own_mark_with c (wcall.Subscribe h) kind mark = tt
  own_mark_with c (wcall.CloneSender h) kind mark = tt
  own_mark_with c (wcall.CloneReceiver h) kind mark = tt
  own_mark_with c (wcall.Borrow h) kind mark = tt
  own_mark_with c (wcall.Update h) kind mark = refl
  own_mark_with c (wcall.HasChanged h) kind mark = tt
  own_mark_with c (wcall.Changed h) kind mark =
      cond_both (w.is_unseen c.version mark) _ _ (λ (e : w.Change V × WReply V). IsOwnMark h e.0) (λ _. refl) (λ _. tt)
  own_mark_with c (wcall.MarkChanged h) kind mark = refl
  own_mark_with c (wcall.MarkUnchanged h) kind mark = refl
  own_mark_with c (wcall.DropHandle h) kind mark = refl
  own_mark_with c (wcall.ReceiverCount h) kind mark = tt
  own_mark_with c (wcall.IsClosed h) kind mark = tt
  own_mark_with c (wcall.AwaitClosed h) kind mark = tt

  pub own_mark : (c : w.Channel V) (call : WCall V) → IsOwnMark (w.handle_of call) (w.effect c call).0
  own_mark c call =
      of_checked (λ (e : w.Change V × WReply V). IsOwnMark (w.handle_of call) e.0) (λ f. (w.Keep, w.fault_reply f)) (w.Keep, wreply.TooManyHandles)
      (w.makes call) (length c.slots) (w.effect_with c call)
      (lookup (w.wanted_kind call) c.slots (w.handle_of call)) (λ f. tt) tt (λ kind mark found few. own_mark_with c call kind mark)

  abbrev pub GrowsMarked : (x y : ws.Shown V) → ℕ → Type 0
  GrowsMarked x y g = (x.version ≤ y.version) × IsKept (slice_get x.slots g) (slice_get y.slots g)

  pub grows_marked : (x : ws.Shown V) (e : w.Change V) (h g : ℕ) → IsOwnMark h e → g ≢ h → GrowsMarked x (ws.with_change x e) g
  grows_marked x w.Keep h g own apart = (omega arith, inr refl)
  grows_marked x (w.Write v true) h g own apart = (omega arith, inr refl)
  grows_marked x (w.Write v false) h g own apart = (omega arith, inr refl)
  grows_marked x (w.Make kind mark) h g own apart = (omega arith, kept_push x.slots g (Live kind mark))
  grows_marked x (w.Mark k from to) h g own apart = (omega arith, kept_set x.slots h k g (Live Receiver to) own apart)
  grows_marked x (w.Leave k kind mark) h g own apart = (omega arith, kept_set x.slots h k g Spent own apart)
