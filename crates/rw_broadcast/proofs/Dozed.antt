-- What is shown after a receiver is moved to the last evicted value.
use Rattle.std.proofs.Common.{◌≡◌, ℕ, zero, suc, ◌-◌, ◌<◌, ◌≤◌, max, List, [], ◌∷◌, set, refl, ap, sym, ◌∙◌, arith}
use Rattle.std.specs.Prelude.{Option, Some, None, slice_get}
use Rattle.rw_handles.specs.declared.kinds.Kind.TheVariants.{Sender, Receiver, Weak}
use Rattle.rw_handles.specs.declared.kinds.Slot.{Slot}
use Rattle.rw_handles.specs.declared.kinds.Slot.TheVariants.{Live, Spent}
use Rattle.rw_broadcast.specs.Channel.{oldest}
use Rattle.rw_broadcast.specs.Dozing.{changed, dozing_slot, dozing}
use Rattle.rw_broadcast.specs.Machine.{position_at}
use Rattle.rw_broadcast.specs.Shown.{Shown, channel_of}

-- one element is written, with what the change makes of it
changed_is : {A : Type 0} (h : ℕ) (f : A → A) (xs : List A) (a b : A) → slice_get xs h ≡ Some a → f a ≡ b → set xs h b ≡ changed h f xs
changed_is h f [] a b at is = refl
changed_is zero f (x ∷ xs) a b at is = let same : x ≡ a = cc in ap (λ y. y ∷ xs) (sym is ∙ ap f (sym same))
changed_is (suc h) f (x ∷ xs) a b at is = ap (λ l. x ∷ l) (changed_is h f xs a b at is)

-- a change that leaves the element leaves the list
unchanged : {A : Type 0} (h : ℕ) (f : A → A) (xs : List A) → ((a : A) → slice_get xs h ≡ Some a → f a ≡ a) → changed h f xs ≡ xs
unchanged h f [] same = refl
unchanged zero f (x ∷ xs) same = ap (λ y. y ∷ xs) (same x refl)
unchanged (suc h) f (x ∷ xs) same = ap (λ l. x ∷ l) (unchanged h f xs same)

position_of : (o : Option (Slot ℕ)) (p : ℕ) → position_at o ≡ Some p → o ≡ Some (Live Receiver p)
position_of None p is = absurd cc
position_of (Some Spent) p is = absurd cc
position_of (Some (Live Receiver q)) p is = cc
position_of (Some (Live Sender q)) p is = absurd cc
position_of (Some (Live Weak q)) p is = absurd cc

no_position : (old : ℕ) (s : Slot ℕ) → position_at (Some s) ≡ None → dozing_slot old s ≡ s
no_position old Spent is = refl
no_position old (Live Receiver q) is = absurd cc
no_position old (Live Sender q) is = refl
no_position old (Live Weak q) is = refl

module _ {V : Type 0} (x : Shown V) (h : ℕ) where
  abbrev old : ℕ
  old = oldest (channel_of x)

  pub none_dozes : position_at (slice_get x.slots h) ≡ None → x ≡ dozing h x
  none_dozes none =
      ap (λ l. record x { slots = l }) (sym (unchanged h (dozing_slot old) x.slots (λ s at. no_position old s (ap position_at (sym at) ∙ none))))

  pub dozes_already : (p : ℕ) → position_at (slice_get x.slots h) ≡ Some p → old - 1 ≤ p → x ≡ dozing h x
  dozes_already p is near =
      let stands = position_of (slice_get x.slots h) p is in
      let same : max p (old - 1) ≡ p = omega (arith, near) in
      ap (λ l. record x { slots = l })
      (sym (unchanged h (dozing_slot old) x.slots (λ s at. here s (sym at ∙ stands) same))) where
        here : (s : Slot ℕ) → Some s ≡ Some (Live Receiver p) → max p (old - 1) ≡ p → dozing_slot old s ≡ s
        here (Live Receiver q) is same = let one : q ≡ p = cc in ap (λ k. Live Receiver (max k (old - 1))) one ∙ ap (λ k. Live Receiver k) (same ∙ sym one)
        here (Live Sender q) is same = refl
        here (Live Weak q) is same = refl
        here Spent is same = refl

  pub moves_to_doze : (p q : ℕ) → position_at (slice_get x.slots h) ≡ Some p → q ≡ old - 1 → p < q
      → record x { slots = set x.slots h (Live Receiver q) } ≡ dozing h x
  moves_to_doze p q is last far =
      let at : max p (old - 1) ≡ q = omega (arith, last, far) in
      ap (λ l. record x { slots = l })
      (changed_is h (dozing_slot old) x.slots (Live Receiver p) (Live Receiver q) (position_of (slice_get x.slots h) p is) (ap (λ k. Live Receiver k) at))
