-- Laws of handles in a list.
use Rattle.std.proofs.Common.{◌≡◌, ℕ, zero, suc, ◌-◌, ◌<◌, Bool, true, false, cond, List, [], ◌∷◌, ◌++◌, length, set, refl, ap, sym, subst, arith, length-set}
use Rattle.std.specs.Prelude.{Option, Some, None, All, slice_get}
use Rattle.std.proofs.lemmas.List.{length_push}
use Rattle.std.proofs.lemmas.List.Elements.{All-get_or}
use Rattle.std.proofs.lemmas.Option.{slice_get_within, get_or_from_slice_get}
use Rattle.rw_handles.specs.declared.kinds.HandleFault.TheVariants.{WrongKind}
use Rattle.rw_handles.specs.declared.kinds.Kind.{Kind}
use Rattle.rw_handles.specs.declared.kinds.Kind.TheVariants.{Sender, Receiver, Weak}
use Rattle.rw_handles.specs.declared.kinds.Slot.{Slot}
use Rattle.rw_handles.specs.declared.kinds.Slot.TheVariants.{Live, Spent}
use Rattle.rw_handles.specs.declared.kinds.Found.TheVariants.{Fault, Handle}
use Rattle.rw_handles.specs.Slots.{serves, same_kind, lookup_at, values, IsLive, IsReceiver}

-- a handle that is found is the one under its number
pub found_at_is : {X : Type 0} (wanted : Option Kind) (o : Option (Slot X)) (kind : Kind) (x : X) → lookup_at wanted o ≡ Handle kind x → o ≡ Some (Live kind x)
found_at_is wanted None kind x h = cc
found_at_is wanted (Some Spent) kind x h = cc
found_at_is wanted (Some (Live own y)) kind x h = found_live (serves wanted own) own y kind x h where
  found_live : {X : Type 0} (b : Bool) (own : Kind) (y : X) (kind : Kind) (x : X) → cond b (Handle own y) (Fault WrongKind) ≡ Handle kind x
      → Some (Live own y) ≡ Some (Live kind x)
  found_live true own y kind x h = cc
  found_live false own y kind x h = cc

-- writing back what a write replaced undoes the write
pub set_back : {A : Type 0} (xs : List A) (i : ℕ) (a b : A) → slice_get xs i ≡ Some b → set (set xs i a) i b ≡ xs
set_back [] i a b h = refl
set_back (x ∷ xs) zero a b h = let e : x ≡ b = cc in ap (λ y. y ∷ xs) (sym e)
set_back (x ∷ xs) (suc i) a b h = ap (λ ys. x ∷ ys) (set_back xs i a b h)

same_kind_is : (a b : Kind) → same_kind a b ≡ true → a ≡ b
same_kind_is Sender Sender h = refl
same_kind_is Receiver Receiver h = refl
same_kind_is Weak Weak h = refl
same_kind_is _ _ h = cc

-- and where a kind is wanted, the handle is of that kind
pub found_at_wanted : {X : Type 0} (wanted : Kind) (o : Option (Slot X)) (kind : Kind) (x : X) → lookup_at (Some wanted) o ≡ Handle kind x
    → o ≡ Some (Live wanted x)
found_at_wanted wanted None kind x h = cc
found_at_wanted wanted (Some Spent) kind x h = cc
found_at_wanted wanted (Some (Live own y)) kind x h = found_live (same_kind wanted own) (same_kind_is wanted own) y h where
  found_live : (b : Bool) (same : b ≡ true → wanted ≡ own) (y : _) → cond b (Handle own y) (Fault WrongKind) ≡ Handle kind x
      → Some (Live own y) ≡ Some (Live wanted x)
  found_live true same y h = let e : wanted ≡ own = same refl in cc
  found_live false same y h = cc

-- reading what was written
pub slice_get-set : {A : Type 0} (xs : List A) (i : ℕ) (a b : A) → slice_get xs i ≡ Some b → slice_get (set xs i a) i ≡ Some a
slice_get-set [] i a b h = cc
slice_get-set (x ∷ xs) zero a b h = refl
slice_get-set (x ∷ xs) (suc i) a b h = slice_get-set xs i a b h

-- the values of joined lists of slots
pub values-append : {X : Type 0} (kind : Kind) (xs ys : List (Slot X)) → values kind (xs ++ ys) ≡ values kind xs ++ values kind ys
values-append kind [] ys = refl
values-append kind (Spent ∷ xs) ys = values-append kind xs ys
values-append kind (Live own x ∷ xs) ys = appended (same_kind kind own) (values-append kind xs ys) where
  appended : (b : Bool) → values kind (xs ++ ys) ≡ values kind xs ++ values kind ys
      → cond b (x ∷ values kind (xs ++ ys)) (values kind (xs ++ ys)) ≡ cond b (x ∷ values kind xs) (values kind xs) ++ values kind ys
  appended true h = ap (λ l. x ∷ l) h
  appended false h = h

-- the slot that was pushed last is under the last number
pub slice_get-push : {A : Type 0} (xs : List A) (a : A) → slice_get (xs ++ a ∷ []) (length (xs ++ a ∷ []) - 1) ≡ Some a
slice_get-push xs a =
    let last : length (xs ++ a ∷ []) - 1 ≡ length xs = omega (arith, length_push xs a) in
    rw last (at_end xs a) where
      at_end : {A : Type 0} (xs : List A) (a : A) → slice_get (xs ++ a ∷ []) (length xs) ≡ Some a
      at_end [] a = refl
      at_end (x ∷ xs) a = at_end xs a

-- the handle that was made last is alive
pub live_push : {X : Type 0} (slots : List (Slot X)) (kind : Kind) (x : X)
    → IsLive (slice_get (slots ++ Live kind x ∷ []) (length (slots ++ Live kind x ∷ []) - 1))
live_push slots kind x = is_live (slice_get-push slots (Live kind x)) where
  is_live : {X : Type 0} {o : Option (Slot X)} {kind : Kind} {x : X} → o ≡ Some (Live kind x) → IsLive o
  is_live h = rw h refl

-- a receiver stays one when its value is written
pub receiver_set : {X : Type 0} (slots : List (Slot X)) (i : ℕ) (x was : X) → slice_get slots i ≡ Some (Live Receiver was)
    → IsReceiver (slice_get (set slots i (Live Receiver x)) i)
receiver_set slots i x was at = is_receiver (slice_get-set slots i (Live Receiver x) (Live Receiver was) at) where
  is_receiver : {X : Type 0} {o : Option (Slot X)} {x : X} → o ≡ Some (Live Receiver x) → IsReceiver o
  is_receiver h = rw h tt

-- what holds of all slots holds of the one under a number
pub All-slice_get : {A : Type 0} (P : A → Type 0) (xs : List A) (i : ℕ) (a : A) → slice_get xs i ≡ Some a → All P xs → P a
All-slice_get P xs i a is all = subst P (get_or_from_slice_get xs i a a is) (All-get_or P xs i a (slice_get_within xs i a is) all)

-- a number with a slot is within the list after a write, too
pub within_set : {A : Type 0} (xs : List A) (i j : ℕ) (was a : A) → slice_get xs i ≡ Some was → i < length (set xs j a)
within_set xs i j was a is = omega (arith, length-set xs j a, slice_get_within xs i was is)
