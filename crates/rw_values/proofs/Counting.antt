-- How many receivers have yet to receive each value, before and after a step.
use Rattle.std.proofs.Common.{◌≡◌, ℕ, ◌+◌, ◌<◌, ◌≤◌, Bool, true, false, cond, List, [], ◌∷◌, length, set, get_or, refl, ap, arith}
use Rattle.std.specs.Prelude.{Option, Some, None, slice_get, nat_lt, nat_le, ◌&&◌, ◌==◌, All, count_by, ⊤}
use Rattle.std.proofs.lemmas.Bool.{ltb-true, ltb-false, leb-true, leb-false, le-leb}
use Rattle.std.proofs.lemmas.List.Elements.{All-head, All-tail}
use Rattle.std.proofs.lemmas.List.Sums.{sum_by-set, sum_by-cons, sum_by_push}
use Rattle.std.proofs.lemmas.Option.{slice_get_within, get_or_from_slice_get}
use Rattle.rw_handles.specs.declared.kinds.Kind.{Kind}
use Rattle.rw_handles.specs.declared.kinds.Kind.TheVariants.{Sender, Receiver, Weak}
use Rattle.rw_handles.specs.declared.kinds.Slot.{Slot}
use Rattle.rw_handles.specs.declared.kinds.Slot.TheVariants.{Live, Spent}
use Rattle.rw_handles.specs.declared.kinds.Found.TheVariants.{Handle}
use Rattle.rw_handles.specs.Slots.{lookup, alive, is_alive}
use Rattle.rw_handles.proofs.Checks.{of_checked}
use Rattle.rw_handles.proofs.SlotLaws.{found_at_is, found_at_wanted}
use Rattle.rw_broadcast.specs.declared.calls.BCall.{BCall}
use Rattle.rw_broadcast.specs.declared.calls.BCall.TheVariants.{Send, Subscribe, CloneSender, Resubscribe, TryRecv, Recv, DropHandle}
use Rattle.rw_broadcast.specs.declared.calls.BCall.TheVariants.{SenderLen, ReceiverCount, ReceiverLen, Downgrade, Upgrade, CloneWeak}
use Rattle.rw_broadcast.specs.declared.calls.BReply.{BReply}
use Rattle.rw_broadcast.specs.declared.calls.BReply.TheVariants.{Empty, Waits, TooManyHandles}
use Rattle.rw_broadcast.specs.Arithmetic.{lag}
use Rattle.rw_broadcast.specs.Channel.{Change, Keep, Append, Make, Move, Leave, handle_of, wanted_kind, makes}
use Rattle.rw_broadcast.specs.Channel.{fault_reply, is_closed, oldest, receivers, read, receive, effect_with, effect}
use Rattle.rw_broadcast.specs.Shown.{Shown, channel_of, with_change, IsPlaced}
use Rattle.rw_values.specs.Counts.{awaits, yet, served, CountsDown, AllAwaitTheNext}

-- a new receiver is at the end, a receiver moves forward, and what moves or is dropped is there
unfoldable pub IsMade : {V : Type 0} → Shown V → Change V → Type 0
IsMade x Keep = ⊤
IsMade x (Append v) = ⊤
IsMade x (Make Receiver q) = q ≡ x.sent
IsMade x (Make Sender q) = ⊤
IsMade x (Make Weak q) = ⊤
IsMade x (Move g from to) = (slice_get x.slots g ≡ Some (Live Receiver from)) × (from ≤ to)
IsMade x (Leave g kind q) = slice_get x.slots g ≡ Some (Live kind q)

module _ {V : Type 0} (x : Shown V) where
  by_if : (b : Bool) (one two : Change V × BReply V) → (b ≡ true → IsMade x one.0) → (b ≡ false → IsMade x two.0) → IsMade x (cond b one two).0
  by_if true one two first second = first refl
  by_if false one two first second = second refl

  by_read : (h p : ℕ) (o : Option V) (nothing : BReply V) → slice_get x.slots h ≡ Some (Live Receiver p)
      → IsMade x (read (channel_of x) h p o nothing).0
  unfolding IsMade
  by_read h p (Some v) nothing there = (there, omega arith)
  by_read h p None nothing there = tt

  by_receive : (h p : ℕ) (nothing : BReply V) → slice_get x.slots h ≡ Some (Live Receiver p) → IsMade x (receive (channel_of x) h p nothing).0
  unfolding IsMade
  by_receive h p nothing there =
      by_if (nat_lt 0 (lag (oldest (channel_of x)) p)) _ _
      (λ behind. (there, omega (arith, ltb-true 0 (lag (oldest (channel_of x)) p) behind)))
      (λ _. by_read h p _ nothing there)

  by_call : (call : BCall V) (kind : Kind) (p : ℕ) → lookup (wanted_kind call) x.slots (handle_of call) ≡ Handle kind p
      → IsMade x (effect_with (channel_of x) call kind p).0
  unfolding IsMade
  by_call (Send g v) kind p is = by_if (receivers (channel_of x) == 0) _ _ (λ _. tt) (λ _. tt)
  by_call (Subscribe g) kind p is = refl
  by_call (CloneSender g) kind p is = tt
  by_call (Resubscribe g) kind p is = refl
  by_call (TryRecv g) kind p is = by_receive g p Empty (found_at_wanted Receiver _ kind p is)
  by_call (Recv g) kind p is = by_receive g p Waits (found_at_wanted Receiver _ kind p is)
  by_call (DropHandle g) kind p is = found_at_is None _ kind p is
  by_call (SenderLen g) kind p is = tt
  by_call (ReceiverCount g) kind p is = tt
  by_call (ReceiverLen g) kind p is = tt
  by_call (Downgrade g) kind p is = tt
  by_call (Upgrade g) kind p is = by_if (is_closed (channel_of x)) _ _ (λ _. tt) (λ _. tt)
  by_call (CloneWeak g) kind p is = tt

  pub is_made : (call : BCall V) → IsMade x (effect (channel_of x) call).0
  unfolding IsMade
  is_made call =
      of_checked (λ e. IsMade x e.0) (λ fault. (Keep, fault_reply fault)) (Keep, TooManyHandles) (makes call) (length x.slots)
      (effect_with (channel_of x) call)
      (lookup (wanted_kind call) x.slots (handle_of call))
      (λ fault. tt)
      tt
      (λ kind p is few. by_call call kind p is)

-- ---- counts

module _ (p : ℕ) where
  abbrev pub bit : Slot ℕ → ℕ
  bit s = cond (awaits p s) 1 0

  pub many_set : (slots : List (Slot ℕ)) (id : ℕ) (was now : Slot ℕ) → slice_get slots id ≡ Some was
      → count_by (awaits p) (set slots id now) + bit was ≡ count_by (awaits p) slots + bit now
  many_set slots id was now at =
      let moved = sum_by-set bit slots id now Spent (slice_get_within slots id was at) in
      let there : get_or slots id Spent ≡ was = get_or_from_slice_get slots id was Spent at in
      let counted : bit (get_or slots id Spent) ≡ bit was = ap bit there in
      omega (arith, moved, counted)

  -- a receiver that moves forward
  forward : (from to : ℕ) → from ≤ to → cond (nat_le to p) 1 0 + cond (nat_le from p && nat_lt p to) 1 0 ≡ cond (nat_le from p) 1 0
  forward from to less = by_tests (nat_le to p) (nat_le from p) (nat_lt p to) (leb-true to p) (leb-false to p) (leb-true from p) (leb-false from p)
      (ltb-true p to) (ltb-false p to) where
        by_tests : (a b c : Bool) → (a ≡ true → to ≤ p) → (a ≡ false → p < to) → (b ≡ true → from ≤ p) → (b ≡ false → p < from)
            → (c ≡ true → p < to) → (c ≡ false → to ≤ p) → ◌≡◌ {A = ℕ} (cond a 1 0 + cond (b && c) 1 0) (cond b 1 0)
        by_tests true true true a _ _ _ c _ = absurd (omega (arith, a refl, c refl))
        by_tests true true false _ _ _ _ _ _ = refl
        by_tests true false c a _ _ b _ _ = absurd (omega (arith, a refl, b refl, less))
        by_tests false true true _ _ _ _ _ _ = refl
        by_tests false true false _ a _ _ _ c = absurd (omega (arith, a refl, c refl))
        by_tests false false c _ _ _ _ _ _ = refl

  pub late : (n : ℕ) → p < n → ◌≡◌ {A = ℕ} (cond (nat_le n p) 1 0) 0
  late n less = by_test (nat_le n p) (leb-true n p) where
    by_test : (b : Bool) → (b ≡ true → n ≤ p) → ◌≡◌ {A = ℕ} (cond b 1 0) 0
    by_test true h = absurd (omega (arith, h refl, less))
    by_test false h = refl

  pub counts : {V : Type 0} (x : Shown V) (c : Change V) → p < x.sent → IsMade x c → yet (with_change x c) p + served c p ≡ yet x p
  unfolding IsMade
  counts x Keep less made = omega arith
  counts x (Append v) less made = omega arith
  counts x (Make Receiver q) less made =
      omega (arith, sum_by_push bit x.slots (Live Receiver q), late q (omega (arith, less, made)))
  counts x (Make Sender q) less made = omega (arith, sum_by_push bit x.slots (Live Sender q))
  counts x (Make Weak q) less made = omega (arith, sum_by_push bit x.slots (Live Weak q))
  counts x (Move g from to) less made =
      omega (arith, many_set x.slots g (Live Receiver from) (Live Receiver to) made.0, forward from to made.1)
  counts x (Leave g Receiver q) less made = omega (arith, many_set x.slots g (Live Receiver q) Spent made)
  counts x (Leave g Sender q) less made = omega (arith, many_set x.slots g (Live Sender q) Spent made)
  counts x (Leave g Weak q) less made = omega (arith, many_set x.slots g (Live Weak q) Spent made)

pub counts_down : (V : Type 0) → CountsDown V
counts_down V x call p less = counts p x (effect (channel_of x) call).0 less (is_made x call)

all_await : (n : ℕ) (slots : List (Slot ℕ)) → All (IsPlaced n) slots → count_by (awaits n) slots ≡ alive Receiver slots
all_await n [] placed = refl
all_await n (s ∷ slots) placed =
    let rest = all_await n slots (All-tail (IsPlaced n) s slots placed) in
    let one = by_slot s (All-head (IsPlaced n) s slots placed) in
    omega (arith, sum_by-cons (λ t. cond (awaits n t) 1 0) s slots, sum_by-cons (λ t. cond (is_alive Receiver t) 1 0) s slots, rest, one) where
      by_slot : (t : Slot ℕ) → IsPlaced n t → ◌≡◌ {A = ℕ} (cond (awaits n t) 1 0) (cond (is_alive Receiver t) 1 0)
      by_slot (Live Receiver q) less = ap (λ b. cond b 1 0) (le-leb q n less)
      by_slot (Live Sender q) is = refl
      by_slot (Live Weak q) is = refl
      by_slot Spent is = refl

pub all_await_the_next : (V : Type 0) → AllAwaitTheNext V
all_await_the_next V x ok = all_await x.sent x.slots ok.placed
