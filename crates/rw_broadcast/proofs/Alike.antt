-- Channels that are alike reply alike.
use Rattle.std.proofs.Common.{◌≡◌, ℕ, ◌+◌, ◌-◌, ◌<◌, ◌≤◌, true, List, [], ◌∷◌, length, map}
use Rattle.std.proofs.Common.{refl, ap, sym, ◌∙◌, subst, arith, length-set, inl, inr}
use Rattle.std.specs.Prelude.{All, ◌⊎◌}
use Rattle.std.proofs.lemmas.Bool.{cases_lt}
use Rattle.std.proofs.lemmas.List.{length-map, length_push}
use Rattle.std.proofs.lemmas.List.Elements.{All-head, All-tail}
use Rattle.rw_handles.specs.declared.kinds.Kind.TheVariants.{Sender, Receiver, Weak}
use Rattle.rw_handles.specs.declared.kinds.Slot.{Slot}
use Rattle.rw_handles.specs.declared.kinds.Slot.TheVariants.{Live, Spent}
use Rattle.rw_handles.specs.declared.table.TheConstants.{MOST_HANDLES}
use Rattle.rw_handles.specs.Renaming.{IsRenaming}
use Rattle.rw_handles.proofs.Changing.{renaming_changed}
use Rattle.rw_handles.proofs.Renaming.{renames_twice}
use Rattle.rw_broadcast.specs.declared.calls.BCall.{BCall}
use Rattle.rw_broadcast.specs.Alike.{unread_slot, unread_slots, IsAlike, RepliesAlike, replies_of, RepliesAlikeThroughout, RenamedAreAlike, AlikeTwice}
use Rattle.rw_broadcast.specs.Channel.{Change, Keep, Append, Make, Move, Leave, effect, makes}
use Rattle.rw_broadcast.specs.Raised.{raised_slot, raised, IsFull}
use Rattle.rw_broadcast.specs.Renaming.{IsRenamed, renamed_call, renamed_reply}
use Rattle.rw_broadcast.specs.Shown.{Shown, channel_of, with_change, next, reply_of, IsAllowed, IsPlaced}
use Rattle.rw_broadcast.specs.Soundness.{broadcast_laws}
use Rattle.rw_broadcast.proofs.Raising.{replies_raised}
use Rattle.rw_broadcast.proofs.Renaming.{replies_renamed}

-- ---- what is unread stays as it is where more values were sent before

unread_raised : (n s : ℕ) (slot : Slot ℕ) → unread_slot (n + s) (raised_slot n slot) ≡ unread_slot s slot
unread_raised n s (Live Receiver p) = let left : n + s - (n + p) ≡ s - p = omega arith in ap (λ k. Live Receiver k) left
unread_raised n s (Live Sender p) = refl
unread_raised n s (Live Weak p) = refl
unread_raised n s Spent = refl

all_unread_raised : (n s : ℕ) (slots : List (Slot ℕ)) → map (unread_slot (n + s)) (map (raised_slot n) slots) ≡ map (unread_slot s) slots
all_unread_raised n s [] = refl
all_unread_raised n s (slot ∷ slots) =
    ap (λ t. t ∷ map (unread_slot (n + s)) (map (raised_slot n) slots)) (unread_raised n s slot)
    ∙ ap (λ l. unread_slot s slot ∷ l) (all_unread_raised n s slots)

-- the position of a receiver that has u values to receive, where the values end
abbrev placed_slot : (end : ℕ) → Slot ℕ → Slot ℕ
placed_slot end (Live Receiver u) = Live Receiver (end - u)
placed_slot end (Live kind u) = Live kind u
placed_slot end Spent = Spent

placed_unread : (n s : ℕ) (slot : Slot ℕ) → IsPlaced s slot → placed_slot (n + s) (unread_slot s slot) ≡ raised_slot n slot
placed_unread n s (Live Receiver p) placed = let at : n + s - (s - p) ≡ n + p = omega (arith, placed) in ap (λ k. Live Receiver k) at
placed_unread n s (Live Sender p) placed = refl
placed_unread n s (Live Weak p) placed = refl
placed_unread n s Spent placed = refl

all_placed_unread : (n s : ℕ) (slots : List (Slot ℕ)) → All (IsPlaced s) slots → map (placed_slot (n + s)) (map (unread_slot s) slots)
    ≡ map (raised_slot n) slots
all_placed_unread n s [] all = refl
all_placed_unread n s (slot ∷ slots) all =
    ap (λ t. t ∷ map (placed_slot (n + s)) (map (unread_slot s) slots)) (placed_unread n s slot (All-head (IsPlaced s) slot slots all))
    ∙ ap (λ l. raised_slot n slot ∷ l) (all_placed_unread n s slots (All-tail (IsPlaced s) slot slots all))

-- ---- none more

raised_none : (slots : List (Slot ℕ)) → map (raised_slot 0) slots ≡ slots
raised_none [] = refl
raised_none (slot ∷ slots) = ap (λ t. t ∷ map (raised_slot 0) slots) (same slot) ∙ ap (λ l. slot ∷ l) (raised_none slots) where
  same : (slot : Slot ℕ) → raised_slot 0 slot ≡ slot
  same (Live Receiver p) = let none : 0 + p ≡ p = omega arith in ap (λ k. Live Receiver k) none
  same (Live Sender p) = refl
  same (Live Weak p) = refl
  same Spent = refl

module _ {V : Type 0} where
  raised_by_none : (x : Shown V) → raised 0 x ≡ x
  raised_by_none x =
      let none : 0 + x.sent ≡ x.sent = omega arith in
      ap (λ n. record x { sent = n; slots = map (raised_slot 0) x.slots }) none ∙ ap (λ l. record x { slots = l }) (raised_none x.slots)

  -- no reply tells that n more values were sent before
  CanBeRaised : ℕ → Shown V → Type 0
  CanBeRaised n x = (n ≡ 0) ⊎ IsFull x

  abbrev FollowsRaised : Shown V → BCall V → ℕ → Type 0
  FollowsRaised x call n = (reply_of (raised n x) call ≡ reply_of x call) × (next (raised n x) call ≡ raised n (next x call))

  follows_raised : (n : ℕ) (x : Shown V) (call : BCall V) → CanBeRaised n x → FollowsRaised x call n
  unfolding CanBeRaised
  follows_raised n x call (inr full) = replies_raised V n x call full
  follows_raised n x call (inl none) =
      let same = raised_by_none x in
      subst (FollowsRaised x call) (sym none) (ap (λ z. reply_of z call) same, ap (λ z. next z call) same ∙ sym (raised_by_none (next x call)))

  -- ---- channels that are alike are renamed ones, where as many values were sent to both

  alike_raised : (to : ℕ → ℕ) (x y : Shown V) (m n : ℕ) → IsAllowed x → IsAllowed y → IsAlike to x y → m + x.sent ≡ n + y.sent
      → IsRenamed to (raised m x) (raised n y)
  alike_raised to x y m n here there is end = record {
    same =
        ap (λ c. record (raised n y) { capacity = c }) is.capacity
        ∙ ap (λ s. record (raised n y) { capacity = x.capacity; sent = s }) (sym end)
        ∙ ap (λ w. record (raised n y) { capacity = x.capacity; sent = m + x.sent; window = w }) is.window;
    renaming =
        let placed = renaming_changed to (unread_slots x) (unread_slots y) (placed_slot (m + x.sent)) refl is.renaming in
        let first = all_placed_unread m x.sent x.slots here.placed in
        let second = ap (λ k. map (placed_slot k) (unread_slots y)) end ∙ all_placed_unread n y.sent y.slots there.placed in
        subst (λ l. IsRenaming to l (map (raised_slot n) y.slots)) first
        (subst (λ l. IsRenaming to (map (placed_slot (m + x.sent)) (unread_slots x)) l) second placed);
  }

  raised_alike : (to : ℕ → ℕ) (x y : Shown V) (m n : ℕ) → IsRenamed to (raised m x) (raised n y) → IsAlike to x y
  raised_alike to x y m n is = record {
    capacity = ap (λ z. z.capacity) is.same;
    window = ap (λ z. z.window) is.same;
    renaming =
        let end : n + y.sent ≡ m + x.sent = ap (λ z. z.sent) is.same in
        let left = renaming_changed to (map (raised_slot m) x.slots) (map (raised_slot n) y.slots) (unread_slot (m + x.sent)) refl is.renaming in
        let first = all_unread_raised m x.sent x.slots in
        let second = ap (λ k. map (unread_slot k) (map (raised_slot n) y.slots)) (sym end) ∙ all_unread_raised n y.sent y.slots in
        subst (λ l. IsRenaming to l (unread_slots y)) first
        (subst (λ l. IsRenaming to (map (unread_slot (m + x.sent)) (map (raised_slot m) x.slots)) l) second left);
  }

  -- by how many values each can be raised, so that as many were sent to both
  raisings : (to : ℕ → ℕ) (x y : Shown V) → IsAllowed x → IsAllowed y → IsAlike to x y
      → (m : ℕ) × (n : ℕ) × (m + x.sent ≡ n + y.sent) × CanBeRaised m x × CanBeRaised n y
  unfolding CanBeRaised
  raisings to x y here there is = by_order (cases_lt x.sent x.capacity) where
    by_order : (x.sent < x.capacity) ⊎ (x.capacity ≤ x.sent)
        → (m : ℕ) × (n : ℕ) × (m + x.sent ≡ n + y.sent) × ((m ≡ 0) ⊎ IsFull x) × ((n ≡ 0) ⊎ IsFull y)
    by_order (inl less) = (0, 0, omega (arith, less, here.retained, there.retained, is.capacity, ap length is.window), inl refl, inl refl)
    by_order (inr full) = (
      y.sent,
      x.sent,
      omega arith,
      inr full,
      inr (omega (arith, full, here.retained, there.retained, is.capacity, ap length is.window)),
    )

pub replies_alike : (V : Type 0) → RepliesAlike V
replies_alike V to x y call here there is few =
    let by = raisings to x y here there is in
    let m = by.0 in
    let n = by.1 in
    let renamed = alike_raised to x y m n here there is by.2 in
    let room : makes call ≡ true → (length (raised m x).slots < MOST_HANDLES) × (length (raised n y).slots < MOST_HANDLES) = λ one. (
      omega (arith, (few one).0, length-map x.slots (raised_slot m)),
      omega (arith, (few one).1, length-map y.slots (raised_slot n)),
    ) in
    let step = replies_renamed V to (raised m x) (raised n y) call renamed room in
    let first = follows_raised m x call by.3 in
    let second = follows_raised n y (renamed_call to call) by.4 in (
      sym second.0 ∙ step.0 ∙ ap (renamed_reply to) first.0,
      raised_alike to (next x call) (next y (renamed_call to call)) m n
          (subst (λ z. IsRenamed to z (raised n (next y (renamed_call to call)))) first.1
          (subst (λ z. IsRenamed to (next (raised m x) call) z) second.1 step.1)),
    )

-- ---- all later calls

made_one_at_most : {V : Type 0} (x : Shown V) (change : Change V) → length (with_change x change).slots ≤ length x.slots + 1
made_one_at_most x Keep = omega arith
made_one_at_most x (Append v) = omega arith
made_one_at_most x (Make kind p) = omega (arith, length_push x.slots (Live kind p))
made_one_at_most x (Move h from to) = omega (arith, length-set x.slots h (Live Receiver to))
made_one_at_most x (Leave h kind p) = omega (arith, length-set x.slots h Spent)

few_after : {V : Type 0} (x : Shown V) (call : BCall V) (n : ℕ) → length x.slots + (n + 1) ≤ MOST_HANDLES → length (next x call).slots + n ≤ MOST_HANDLES
few_after x call n few = omega (arith, few, made_one_at_most x (effect (channel_of x) call).0)

pub replies_alike_throughout : (V : Type 0) → RepliesAlikeThroughout V
replies_alike_throughout V to x y [] here there is few less = (refl, is)
replies_alike_throughout V to x y (call ∷ calls) here there is few less =
    let other = renamed_call to call in
    let step = replies_alike V to x y call here there is (λ _. (omega (arith, few), omega (arith, less))) in
    let rest = replies_alike_throughout V to (next x call) (next y other) calls
    (broadcast_laws.next_allowed x call here) (broadcast_laws.next_allowed y other there) step.1
    (few_after x call (length calls) (omega (arith, few))) (few_after y other (length calls) (omega (arith, less))) in (
      ap (λ r. r ∷ replies_of (next y other) (map (renamed_call to) calls)) step.0 ∙ ap (λ l. renamed_reply to (reply_of x call) ∷ l) rest.0,
      rest.1,
    )

-- ---- other ways to be alike

pub renamed_are_alike : (V : Type 0) → RenamedAreAlike V
renamed_are_alike V to x y is = record {
  capacity = ap (λ z. z.capacity) is.same;
  window = ap (λ z. z.window) is.same;
  renaming =
      let left = renaming_changed to x.slots y.slots (unread_slot x.sent) refl is.renaming in
      subst (λ n. IsRenaming to (unread_slots x) (map (unread_slot n) y.slots)) (sym (ap (λ z. z.sent) is.same)) left;
}

pub alike_twice : (V : Type 0) → AlikeTwice V
alike_twice V to onto x y z is then = record {
  capacity = then.capacity ∙ is.capacity;
  window = then.window ∙ is.window;
  renaming = renames_twice ℕ to onto (unread_slots x) (unread_slots y) (unread_slots z) is.renaming then.renaming;
}
