-- Counts of handles, and what an `if` tells.
use Rattle.std.proofs.Common.{set, ◌≡◌, ℕ, zero, suc, ◌+◌, ◌<◌, Bool, true, false, cond, List, refl, arith}
use Rattle.std.specs.Prelude.{Some, None, slice_get, ◌==◌}
use Rattle.std.proofs.lemmas.Bool.{ne_eqb, eqb-true, eqb-false}
use Rattle.rw_handles.specs.declared.kinds.Kind.{Kind}
use Rattle.rw_handles.specs.declared.kinds.Kind.TheVariants.{Sender, Receiver, Weak}
use Rattle.rw_handles.specs.declared.kinds.Slot.{Slot}
use Rattle.rw_handles.specs.declared.kinds.Slot.TheVariants.{Live, Spent}
use Rattle.rw_handles.specs.Slots.{alive}
use Rattle.rw_handles.proofs.Tallies.{alive-set}
use Rattle.rw_waiting.specs.declared.notices.WaitFor.{WaitFor}

pub some_of : (n : ℕ) → (n == 0) ≡ false → 0 < n
some_of zero is = absurd cc
some_of (suc n) is = omega arith

pub not_none : (n : ℕ) → 0 < n → (n == 0) ≡ false
not_none n some = ne_eqb n 0 (λ none. omega (arith, some, none))

pub many_of : (n : ℕ) → (n == 1) ≡ false → 0 < n → 1 < n
many_of zero two some = absurd (omega (arith, some))
many_of (suc zero) two some = absurd cc
many_of (suc (suc n)) two some = omega arith

-- where a handle is dropped, one of kind k stays alive, unless it was the last
pub still_alive : {X : Type 0} (k kind : Kind) (slots : List (Slot X)) (id : ℕ) (x : X) → slice_get slots id ≡ Some (Live kind x)
    → (kind ≡ k → (alive k slots == 1) ≡ false) → 0 < alive k slots → 0 < alive k (set slots id Spent)
still_alive Sender Sender slots id x at more some =
    omega (arith, alive-set Sender slots id (Live Sender x) Spent at, many_of (alive Sender slots) (more refl) some)
still_alive Receiver Receiver slots id x at more some =
    omega (arith, alive-set Receiver slots id (Live Receiver x) Spent at, many_of (alive Receiver slots) (more refl) some)
still_alive Weak Weak slots id x at more some =
    omega (arith, alive-set Weak slots id (Live Weak x) Spent at, many_of (alive Weak slots) (more refl) some)
still_alive k kind slots id x at more some = omega (arith, alive-set k slots id (Live kind x) Spent at, some)

pub if_is : (b : Bool) (what : WaitFor) → (cond b (Some what) None ≡ Some what → ⊥) → b ≡ false
if_is true what untold = absurd (untold refl)
if_is false what untold = refl

pub if_so : (b : Bool) (what : WaitFor) → cond b (Some what) None ≡ Some what → b ≡ true
if_so true what is = refl
if_so false what is = absurd cc

pub if_else : (b : Bool) (one other : WaitFor) → (one ≡ other → ⊥) → cond b (Some one) None ≡ Some other → ⊥
if_else true one other apart is = apart cc
if_else false one other apart is = absurd cc

-- none is left where there was one
pub one_less : (before after : ℕ) → after + 1 ≡ before → (after == 0) ≡ (before == 1)
one_less before after is = by_tests (after == 0) (before == 1) (eqb-true after 0) (eqb-false after 0) (eqb-true before 1) (eqb-false before 1) where
  by_tests : (a b : Bool) → (a ≡ true → after ≡ 0) → (a ≡ false → after ≡ 0 → ⊥) → (b ≡ true → before ≡ 1) → (b ≡ false → before ≡ 1 → ⊥) → a ≡ b
  by_tests true true _ _ _ _ = refl
  by_tests true false a _ _ b = absurd (b refl (omega (arith, a refl, is)))
  by_tests false true _ a b _ = absurd (a refl (omega (arith, b refl, is)))
  by_tests false false _ _ _ _ = refl
