-- The count of live handles after a making, a write and a drop.
use Rattle.std.proofs.Common.{◌≡◌, ℕ, ◌+◌, ◌<◌, ◌++◌, ◌∷◌, [], true, cond, List, length, get_or, set, refl, arith, length-set}
use Rattle.std.specs.Prelude.{Some, slice_get}
use Rattle.std.proofs.lemmas.List.Sums.{sum_by-set, count_by-le-length, sum_by-append}
use Rattle.std.proofs.lemmas.Option.{slice_get_within, get_or_from_slice_get}
use Rattle.rw_handles.specs.declared.kinds.Kind.{Kind}
use Rattle.rw_handles.specs.declared.kinds.Kind.TheVariants.{Sender, Receiver, Weak}
use Rattle.rw_handles.specs.declared.kinds.Slot.{Slot}
use Rattle.rw_handles.specs.declared.kinds.Slot.TheVariants.{Live, Spent}
use Rattle.rw_handles.specs.Slots.{alive, is_alive, same_kind}

-- a write removes the old slot from the count, and adds the new one
pub alive-set : {X : Type 0} (k : Kind) (slots : List (Slot X)) (id : ℕ) (was now : Slot X) → slice_get slots id ≡ Some was
    → alive k (set slots id now) + cond (is_alive k was) 1 0 ≡ alive k slots + cond (is_alive k now) 1 0
alive-set k slots id was now at =
    let moved = sum_by-set (λ s. cond (is_alive k s) 1 0) slots id now Spent (slice_get_within slots id was at) in
    let there : get_or slots id Spent ≡ was = get_or_from_slice_get slots id was Spent at in
    let counted : ◌≡◌ {A = ℕ} (cond (is_alive k (get_or slots id Spent)) 1 0) (cond (is_alive k was) 1 0) = rw there refl in
    omega (arith, moved, counted)

pub alive-push : {X : Type 0} (k : Kind) (slots : List (Slot X)) (last : Slot X)
    → alive k (slots ++ last ∷ []) ≡ alive k slots + cond (is_alive k last) 1 0
alive-push k slots last = omega (arith, sum_by-append (λ s. cond (is_alive k s) 1 0) slots (last ∷ []))

same_kind-refl : (k : Kind) → same_kind k k ≡ true
same_kind-refl Sender = refl
same_kind-refl Receiver = refl
same_kind-refl Weak = refl

-- a live handle is counted
pub alive-some : {X : Type 0} (kind : Kind) (slots : List (Slot X)) (id : ℕ) (x : X) → slice_get slots id ≡ Some (Live kind x) → 0 < alive kind slots
alive-some kind slots id x at =
    let less = alive-set kind slots id (Live kind x) Spent at in
    let one : ◌≡◌ {A = ℕ} (cond (same_kind kind kind) 1 0) 1 = rw same_kind-refl refl in
    omega (arith, less, one)

-- with a spent slot, the count is below the number of slots
pub alive-below : {X : Type 0} (k : Kind) (slots : List (Slot X)) (id : ℕ) (x : X) → slice_get slots id ≡ Some Spent → alive k slots < length slots
alive-below k slots id x at =
    let more = alive-set k slots id Spent (Live k x) at in
    let most = count_by-le-length (is_alive k) (set slots id (Live k x)) in
    let one : ◌≡◌ {A = ℕ} (cond (same_kind k k) 1 0) 1 = rw same_kind-refl refl in
    omega (arith, more, most, one, length-set slots id (Live k x))
