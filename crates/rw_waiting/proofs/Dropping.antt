-- Whom a drop tells, by how many were alive before and after it.
use Rattle.std.proofs.Common.{◌≡◌, ℕ, ◌+◌, ◌<◌, ◌≤◌, Bool, true, false, cond, List, set, refl, ap₂, arith}
use Rattle.std.specs.Prelude.{Some, None, slice_get, nat_lt, ◌==◌, ◌&&◌}
use Rattle.std.proofs.lemmas.Bool.{ltb-true, ltb-false, eqb-true}
use Rattle.rw_handles.specs.declared.kinds.Kind.{Kind}
use Rattle.rw_handles.specs.declared.kinds.Kind.TheVariants.{Sender, Receiver, Weak}
use Rattle.rw_handles.specs.declared.kinds.Slot.{Slot}
use Rattle.rw_handles.specs.declared.kinds.Slot.TheVariants.{Live, Spent}
use Rattle.rw_handles.specs.Slots.{alive}
use Rattle.rw_handles.proofs.Tallies.{alive-set}
use Rattle.rw_waiting.specs.declared.notices.WaitFor.TheVariants as wait
use Rattle.rw_waiting.specs.Told.{told_by_drop, told_by_counts, counts_of, was_last}

-- one less is left: it was the last if none is
last_one : (before left : ℕ) → left + 1 ≡ before → was_last before left ≡ (left == 0)
last_one before left is = by_test (nat_lt 0 before) (ltb-false 0 before) where
  by_test : (b : Bool) → (b ≡ false → before ≤ 0) → (b && (left == 0)) ≡ (left == 0)
  by_test true none = refl
  by_test false none = absurd (omega (arith, none refl, is))

-- as many are left: none was the last
no_last : (before left : ℕ) → left ≡ before → was_last before left ≡ false
no_last before left is = by_tests (nat_lt 0 before) (left == 0) (ltb-true 0 before) (eqb-true left 0) where
  by_tests : (a b : Bool) → (a ≡ true → 0 < before) → (b ≡ true → left ≡ 0) → (a && b) ≡ false
  by_tests false b some none = refl
  by_tests true false some none = refl
  by_tests true true some none = absurd (omega (arith, some refl, none refl, is))

module _ {X : Type 0} (slots : List (Slot X)) (g : ℕ) (item : X) where
  pub told_as_counted : (kind : Kind) → slice_get slots g ≡ Some (Live kind item)
      → told_by_counts (counts_of slots) (counts_of (set slots g Spent)) ≡ told_by_drop kind (alive kind (set slots g Spent))
  told_as_counted Sender is =
      let other : was_last (alive Receiver slots) (alive Receiver (set slots g Spent)) ≡ false =
      no_last (alive Receiver slots) (alive Receiver (set slots g Spent)) (omega (arith, alive-set Receiver slots g (Live Sender item) Spent is)) in
      let own : was_last (alive Sender slots) (alive Sender (set slots g Spent)) ≡ (alive Sender (set slots g Spent) == 0) =
      last_one (alive Sender slots) (alive Sender (set slots g Spent)) (omega (arith, alive-set Sender slots g (Live Sender item) Spent is)) in
      ap₂ (λ a b. cond a (Some wait.Value) (cond b (Some wait.NoReceiver) None)) own other
  told_as_counted Receiver is =
      let other : was_last (alive Sender slots) (alive Sender (set slots g Spent)) ≡ false =
      no_last (alive Sender slots) (alive Sender (set slots g Spent)) (omega (arith, alive-set Sender slots g (Live Receiver item) Spent is)) in
      let own : was_last (alive Receiver slots) (alive Receiver (set slots g Spent)) ≡ (alive Receiver (set slots g Spent) == 0) =
      last_one (alive Receiver slots) (alive Receiver (set slots g Spent)) (omega (arith, alive-set Receiver slots g (Live Receiver item) Spent is)) in
      ap₂ (λ a b. cond a (Some wait.Value) (cond b (Some wait.NoReceiver) None)) other own
  told_as_counted Weak is =
      let one : was_last (alive Sender slots) (alive Sender (set slots g Spent)) ≡ false =
      no_last (alive Sender slots) (alive Sender (set slots g Spent)) (omega (arith, alive-set Sender slots g (Live Weak item) Spent is)) in
      let other : was_last (alive Receiver slots) (alive Receiver (set slots g Spent)) ≡ false =
      no_last (alive Receiver slots) (alive Receiver (set slots g Spent)) (omega (arith, alive-set Receiver slots g (Live Weak item) Spent is)) in
      ap₂ (λ a b. cond a (Some wait.Value) (cond b (Some wait.NoReceiver) None)) one other
