-- Calls are equal if they are the same with the words of their values.
use Rattle.std.proofs.Common.{◌≡◌, ℕ, Option, Some, refl, ap, sym, ◌∙◌}
use Rattle.std.specs.Option.{option_map}
use Rattle.rw_broadcast.specs.declared.calls.BCall.{BCall}
use Rattle.rw_broadcast.specs.declared.calls.BCall.TheVariants as b
use Rattle.rw_watch.specs.declared.calls.WCall.{WCall}
use Rattle.rw_watch.specs.declared.calls.WCall.TheVariants as w
use Rattle.rw_desk.specs.CallWords.{of_broadcast, OfBroadcastValue, of_watch, OfWatchValue}

some_is : {X : Type 0} (x y : X) → Some x ≡ Some y → x ≡ y
some_is x y h = cc

module _ {V : Type 0} (word_of : V → ℕ) (value_of : ℕ → Option V) (is_value : V → Type 0) (gives : (v : V) → is_value v → value_of (word_of v) ≡ Some v) where
  -- values with the same word are equal
  pub one_value : (v u : V) → is_value v → is_value u → word_of v ≡ word_of u → v ≡ u
  one_value v u of_v of_u same = some_is v u (sym (gives v of_v) ∙ (ap value_of same ∙ gives u of_u))

  abbrev broadcast_of : BCall ℕ → Option (BCall V)
  broadcast_of (b.Send h n) = option_map (λ v. b.Send h v) (value_of n)
  broadcast_of (b.Subscribe h) = Some (b.Subscribe h)
  broadcast_of (b.CloneSender h) = Some (b.CloneSender h)
  broadcast_of (b.Resubscribe h) = Some (b.Resubscribe h)
  broadcast_of (b.TryRecv h) = Some (b.TryRecv h)
  broadcast_of (b.Recv h) = Some (b.Recv h)
  broadcast_of (b.DropHandle h) = Some (b.DropHandle h)
  broadcast_of (b.SenderLen h) = Some (b.SenderLen h)
  broadcast_of (b.ReceiverCount h) = Some (b.ReceiverCount h)
  broadcast_of (b.ReceiverLen h) = Some (b.ReceiverLen h)
  broadcast_of (b.Downgrade h) = Some (b.Downgrade h)
  broadcast_of (b.Upgrade h) = Some (b.Upgrade h)
  broadcast_of (b.CloneWeak h) = Some (b.CloneWeak h)

  broadcast_back : (c : BCall V) → OfBroadcastValue is_value c → broadcast_of (of_broadcast word_of c) ≡ Some c
  broadcast_back (b.Send h v) known = ap (λ o. option_map (λ v. b.Send h v) o) (gives v known)
  broadcast_back _ known = refl

  -- calls of broadcasts with the same words are equal
  pub one_broadcast : (c d : BCall V) → OfBroadcastValue is_value c → OfBroadcastValue is_value d → of_broadcast word_of c ≡ of_broadcast word_of d → c ≡ d
  one_broadcast c d of_c of_d same = some_is c d (sym (broadcast_back c of_c) ∙ (ap broadcast_of same ∙ broadcast_back d of_d))

  abbrev watch_of : WCall ℕ → Option (WCall V)
  watch_of (w.Send h n) = option_map (λ v. w.Send h v) (value_of n)
  watch_of (w.SendReplace h n) = option_map (λ v. w.SendReplace h v) (value_of n)
  watch_of (w.Modify told h n) = option_map (λ v. w.Modify told h v) (value_of n)
  watch_of (w.Subscribe h) = Some (w.Subscribe h)
  watch_of (w.CloneSender h) = Some (w.CloneSender h)
  watch_of (w.CloneReceiver h) = Some (w.CloneReceiver h)
  watch_of (w.Borrow h) = Some (w.Borrow h)
  watch_of (w.Update h) = Some (w.Update h)
  watch_of (w.HasChanged h) = Some (w.HasChanged h)
  watch_of (w.Changed h) = Some (w.Changed h)
  watch_of (w.MarkChanged h) = Some (w.MarkChanged h)
  watch_of (w.MarkUnchanged h) = Some (w.MarkUnchanged h)
  watch_of (w.DropHandle h) = Some (w.DropHandle h)
  watch_of (w.ReceiverCount h) = Some (w.ReceiverCount h)
  watch_of (w.IsClosed h) = Some (w.IsClosed h)
  watch_of (w.AwaitClosed h) = Some (w.AwaitClosed h)

  watch_back : (c : WCall V) → OfWatchValue is_value c → watch_of (of_watch word_of c) ≡ Some c
  watch_back (w.Send h v) known = ap (λ o. option_map (λ v. w.Send h v) o) (gives v known)
  watch_back (w.SendReplace h v) known = ap (λ o. option_map (λ v. w.SendReplace h v) o) (gives v known)
  watch_back (w.Modify told h v) known = ap (λ o. option_map (λ v. w.Modify told h v) o) (gives v known)
  watch_back (w.Subscribe h) known = refl
  watch_back (w.CloneSender h) known = refl
  watch_back (w.CloneReceiver h) known = refl
  watch_back (w.Borrow h) known = refl
  watch_back (w.Update h) known = refl
  watch_back (w.HasChanged h) known = refl
  watch_back (w.Changed h) known = refl
  watch_back (w.MarkChanged h) known = refl
  watch_back (w.MarkUnchanged h) known = refl
  watch_back (w.DropHandle h) known = refl
  watch_back (w.ReceiverCount h) known = refl
  watch_back (w.IsClosed h) known = refl
  watch_back (w.AwaitClosed h) known = refl

  -- calls of watches with the same words are equal
  pub one_watch : (c d : WCall V) → OfWatchValue is_value c → OfWatchValue is_value d → of_watch word_of c ≡ of_watch word_of d → c ≡ d
  one_watch c d of_c of_d same = some_is c d (sym (watch_back c of_c) ∙ (ap watch_of same ∙ watch_back d of_d))
