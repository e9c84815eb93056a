-- It makes no difference to any call that more values were sent before.
use Rattle.std.proofs.Common.{◌≡◌, ℕ, ◌+◌, ◌-◌, min, max, Bool, true, false, cond, List, [], ◌∷◌, ◌++◌, zero, suc, length, map, fold, refl, ap, ◌∙◌, arith}
use Rattle.std.specs.Prelude.{Option, Some, None, slice_get, slice_set, nat_lt, nat_le, ◌&&◌, ◌==◌}
use Rattle.std.specs.Option.{option_map}
use Rattle.std.proofs.lemmas.List.{length-map}
use Rattle.std.proofs.lemmas.Option.{slice_get-map}
use Rattle.rw_handles.proofs.SlotLaws.{found_at_is, found_at_wanted}
use Rattle.rw_handles.specs.declared.kinds.Kind.{Kind}
use Rattle.rw_handles.specs.declared.kinds.Kind.TheVariants.{Sender, Receiver, Weak}
use Rattle.rw_handles.specs.declared.kinds.Slot.{Slot}
use Rattle.rw_handles.specs.declared.kinds.Slot.TheVariants.{Live, Spent}
use Rattle.rw_handles.specs.declared.kinds.HandleFault.TheVariants.{WrongKind}
use Rattle.rw_handles.specs.declared.kinds.Found.{Found}
use Rattle.rw_handles.specs.declared.kinds.Found.TheVariants.{Fault, Handle}
use Rattle.rw_handles.specs.declared.table.TheConstants.{MOST_HANDLES}
use Rattle.rw_handles.specs.Slots.{lookup_at, serves, alive, is_alive, values, same_kind}
use Rattle.rw_broadcast.specs.declared.calls.BCall.{BCall}
use Rattle.rw_broadcast.specs.declared.calls.BCall.TheVariants.{Send, Subscribe, CloneSender, Resubscribe, TryRecv, Recv, DropHandle}
use Rattle.rw_broadcast.specs.declared.calls.BCall.TheVariants.{SenderLen, ReceiverCount, ReceiverLen, Downgrade, Upgrade, CloneWeak}
use Rattle.rw_broadcast.specs.declared.calls.BReply.{BReply}
use Rattle.rw_broadcast.specs.declared.calls.BReply.TheVariants.{Sent, NoReceivers, Value, Lagged, Empty, Closed, Waits, New, Count, TooManyHandles, NoSender}
use Rattle.rw_broadcast.specs.Arithmetic as number
use Rattle.rw_broadcast.specs.Channel.{Channel, Change, Keep, Append, Make, Move, Leave, receivers, oldest, queued, is_closed, read, receive}
use Rattle.rw_broadcast.specs.Channel.{effect_with, effect_found, effect, handle_of, wanted_kind, makes, send, upgrade}
use Rattle.rw_broadcast.specs.Shown.{Shown, channel_of, with_change}
use Rattle.rw_broadcast.specs.Raised.{raised_position, raised_slot, raised, IsFull, RepliesRaised}

-- the handles alive are the same ones
count_raised : (n : ℕ) (kind : Kind) (a : ℕ) (slots : List (Slot ℕ))
    → fold (λ a s. a + cond (is_alive kind s) 1 0) a (map (raised_slot n) slots) ≡ fold (λ a s. a + cond (is_alive kind s) 1 0) a slots
count_raised n kind a [] = refl
count_raised n kind a (Live own p ∷ slots) = count_raised n kind (a + cond (same_kind kind own) 1 0) slots
count_raised n kind a (Spent ∷ slots) = count_raised n kind (a + 0) slots

alive_raised : (n : ℕ) (kind : Kind) (slots : List (Slot ℕ)) → alive kind (map (raised_slot n) slots) ≡ alive kind slots
alive_raised n kind slots = count_raised n kind 0 slots

positions_raised : (n : ℕ) (slots : List (Slot ℕ)) → values Receiver (map (raised_slot n) slots) ≡ map (λ p. n + p) (values Receiver slots)
positions_raised n [] = refl
positions_raised n (Live Sender p ∷ slots) = positions_raised n slots
positions_raised n (Live Receiver p ∷ slots) = ap (λ ps. (n + p) ∷ ps) (positions_raised n slots)
positions_raised n (Live Weak p ∷ slots) = positions_raised n slots
positions_raised n (Spent ∷ slots) = positions_raised n slots

fold_raised : (n p : ℕ) (ps : List ℕ) → fold min (n + p) (map (λ q. n + q) ps) ≡ n + fold min p ps
fold_raised n p [] = refl
fold_raised n p (q ∷ ps) =
    let here : min (n + p) (n + q) ≡ n + min p q = omega arith in
    ap (λ k. fold min k (map (λ q. n + q) ps)) here ∙ fold_raised n (min p q) ps

queued_raised : (n sent old : ℕ) (ps : List ℕ) → number.queued (n + sent) (n + old) (map (λ p. n + p) ps) ≡ number.queued sent old ps
queued_raised n sent old [] = refl
queued_raised n sent old (p ∷ ps) =
    let least = fold_raised n p ps in
    let here : n + sent - max (n + old) (n + fold min p ps) ≡ sent - max old (fold min p ps) = omega arith in
    ap (λ k. n + sent - max (n + old) k) least ∙ here

-- what is found, where n more values were sent before
abbrev raised_found : ℕ → Found ℕ → Found ℕ
raised_found n (Fault fault) = Fault fault
raised_found n (Handle kind p) = Handle kind (raised_position n kind p)

found_raised : (n : ℕ) (wanted : Option Kind) (o : Option (Slot ℕ)) → lookup_at wanted (option_map (raised_slot n) o) ≡ raised_found n (lookup_at wanted o)
found_raised n wanted None = refl
found_raised n wanted (Some Spent) = refl
found_raised n wanted (Some (Live own p)) = by_kind (serves wanted own) where
  by_kind : (b : Bool) → cond b (Handle own (raised_position n own p)) (Fault WrongKind) ≡ raised_found n (cond b (Handle own p) (Fault WrongKind))
  by_kind true = refl
  by_kind false = refl

map_push : (n : ℕ) (slots : List (Slot ℕ)) (s : Slot ℕ) → map (raised_slot n) slots ++ raised_slot n s ∷ [] ≡ map (raised_slot n) (slots ++ s ∷ [])
map_push n [] s = refl
map_push n (t ∷ slots) s = ap (λ l. raised_slot n t ∷ l) (map_push n slots s)

map_set : (n : ℕ) (slots : List (Slot ℕ)) (h : ℕ) (s : Slot ℕ)
    → slice_set (map (raised_slot n) slots) h (raised_slot n s) ≡ map (raised_slot n) (slice_set slots h s)
map_set n [] h s = refl
map_set n (t ∷ slots) zero s = refl
map_set n (t ∷ slots) (suc h) s = ap (λ l. raised_slot n t ∷ l) (map_set n slots h s)

module _ {V : Type 0} (n : ℕ) where
  -- a change, where n more values were sent before
  abbrev raised_change : Change V → Change V
  raised_change Keep = Keep
  raised_change (Append v) = Append v
  raised_change (Make kind p) = Make kind (raised_position n kind p)
  raised_change (Move h from to) = Move h (n + from) (n + to)
  raised_change (Leave h kind p) = Leave h kind (raised_position n kind p)

  abbrev raised_effect : Change V × BReply V → Change V × BReply V
  raised_effect e = (raised_change e.0, e.1)

  -- ---- what a call changes

  change_raised : (x : Shown V) (c : Change V) → with_change (raised n x) (raised_change c) ≡ raised n (with_change x c)
  change_raised x Keep = refl
  change_raised x (Append v) =
      let here : n + x.sent + 1 ≡ n + (x.sent + 1) = omega arith in
      ap (λ s. record (with_change (raised n x) (Append v)) { sent = s }) here
  change_raised x (Make kind p) = ap (λ slots. record (raised n x) { slots = slots }) (map_push n x.slots (Live kind p))
  change_raised x (Move h from to) = ap (λ slots. record (raised n x) { slots = slots }) (map_set n x.slots h (Live Receiver to))
  change_raised x (Leave h kind p) = ap (λ slots. record (raised n x) { slots = slots }) (map_set n x.slots h Spent)

  -- ---- what a call does

  module _ (x : Shown V) (full : IsFull x) where
    abbrev here : Channel V
    here = channel_of x

    abbrev there : Channel V
    there = channel_of (raised n x)

    same_count : (kind : Kind) → alive kind there.slots ≡ alive kind here.slots
    same_count kind = alive_raised n kind x.slots

    send_raised : (v : V) → send there v ≡ raised_effect (send here v)
    send_raised v = ap (λ k. cond (k == 0) (Keep, NoReceivers v) (Append v, Sent k)) (same_count Receiver) ∙ by_test (receivers here == 0) where
      by_test : (b : Bool) → cond b (Keep, NoReceivers v) (Append v, Sent (receivers here))
          ≡ raised_effect (cond b (Keep, NoReceivers v) (Append v, Sent (receivers here)))
      by_test true = refl
      by_test false = refl

    oldest_raised : oldest there ≡ n + oldest here
    oldest_raised = omega (arith, full)

    read_raised : (h p : ℕ) (o : Option V) (nothing : BReply V) → read there h (n + p) o nothing ≡ raised_effect (read here h p o nothing)
    read_raised h p (Some v) nothing =
        let one : n + p + 1 ≡ n + (p + 1) = omega arith in
        ap (λ k. (Move h (n + p) k, Value v)) one
    read_raised h p None nothing = ap (λ k. (Keep, cond (k == 0) Closed nothing)) (same_count Sender)

    receive_raised : (h p : ℕ) (nothing : BReply V) → receive there h (n + p) nothing ≡ raised_effect (receive here h p nothing)
    receive_raised h p nothing =
        let behind : number.lag (oldest there) (n + p) ≡ number.lag (oldest here) p = omega (arith, full) in
        let at : n + p - oldest there ≡ p - oldest here = omega (arith, full) in
        ap (λ k. cond (nat_lt 0 k) (Move h (n + p) (oldest there), Lagged k) (read there h (n + p) (there.value (n + p)) nothing)) behind
        ∙ ap (λ k. cond (nat_lt 0 (number.lag (oldest here) p)) (Move h (n + p) (oldest there), Lagged (number.lag (oldest here) p))
        (read there h (n + p) (slice_get x.window k) nothing)) at
        ∙ ap (λ k. cond (nat_lt 0 (number.lag (oldest here) p)) (Move h (n + p) k, Lagged (number.lag (oldest here) p))
        (read there h (n + p) (here.value p) nothing)) oldest_raised
        ∙ by_test (nat_lt 0 (number.lag (oldest here) p)) where
          by_test : (b : Bool) → cond b (Move h (n + p) (n + oldest here), Lagged (number.lag (oldest here) p)) (read there h (n + p) (here.value p) nothing)
              ≡ raised_effect (cond b (Move h p (oldest here), Lagged (number.lag (oldest here) p)) (read here h p (here.value p) nothing))
          by_test true = refl
          by_test false = read_raised h p (here.value p) nothing

    upgrade_raised : upgrade there ≡ raised_effect (upgrade here)
    upgrade_raised =
        ap (λ k. cond (k == 0) (Keep, NoSender) (Make Sender 0, New (length there.slots))) (same_count Sender)
        ∙ ap (λ k. cond (is_closed here) (Keep, NoSender) (Make Sender 0, New k)) (length-map x.slots (raised_slot n))
        ∙ by_test (is_closed here) where
          by_test : (b : Bool) → cond b (Keep, NoSender) (Make Sender 0, New (length x.slots))
              ≡ raised_effect (cond b (Keep, NoSender) (Make Sender 0, New (length x.slots)))
          by_test true = refl
          by_test false = refl

    made_raised : (kind : Kind) (p : ℕ) → (Make kind (raised_position n kind p), New (length there.slots)) ≡ raised_effect (Make kind p, New (length x.slots))
    made_raised kind p = ap (λ k. (Make kind (raised_position n kind p), New k)) (length-map x.slots (raised_slot n))

    queued_same : queued there ≡ queued here
    queued_same =
        ap (λ ps. number.queued (n + x.sent) (oldest there) ps) (positions_raised n x.slots)
        ∙ ap (λ k. number.queued (n + x.sent) k (map (λ p. n + p) (values Receiver x.slots))) oldest_raised
        ∙ queued_raised n x.sent (oldest here) (values Receiver x.slots)

    -- the kind of handle that a call wants
    abbrev IsWanted : Option Kind → Kind → Type 0
    IsWanted None kind = Unit {0}
    IsWanted (Some wanted) kind = kind ≡ wanted

    with_raised : (call : BCall V) (kind : Kind) (p : ℕ) → IsWanted (wanted_kind call) kind
        → effect_with there call kind (raised_position n kind p) ≡ raised_effect (effect_with here call kind p)
    with_raised (Send h v) kind p is = send_raised v
    with_raised (Subscribe h) kind p is = made_raised Receiver x.sent
    with_raised (CloneSender h) kind p is = made_raised Sender 0
    with_raised (Resubscribe h) kind p is = made_raised Receiver x.sent
    with_raised (TryRecv h) Receiver p is = receive_raised h p Empty
    with_raised (TryRecv h) Sender p is = absurd cc
    with_raised (TryRecv h) Weak p is = absurd cc
    with_raised (Recv h) Receiver p is = receive_raised h p Waits
    with_raised (Recv h) Sender p is = absurd cc
    with_raised (Recv h) Weak p is = absurd cc
    with_raised (DropHandle h) kind p is = refl
    with_raised (SenderLen h) kind p is = ap (λ k. (Keep, Count k)) queued_same
    with_raised (ReceiverCount h) kind p is = ap (λ k. (Keep, Count k)) (same_count Receiver)
    with_raised (ReceiverLen h) Receiver p is =
        let left : n + x.sent - (n + p) ≡ x.sent - p = omega arith in
        ap (λ k. (Keep, Count k)) left
    with_raised (ReceiverLen h) Sender p is = absurd cc
    with_raised (ReceiverLen h) Weak p is = absurd cc
    with_raised (Downgrade h) kind p is = made_raised Weak 0
    with_raised (Upgrade h) kind p is = upgrade_raised
    with_raised (CloneWeak h) kind p is = made_raised Weak 0

    wanted_found : (wanted : Option Kind) (o : Option (Slot ℕ)) (kind : Kind) (p : ℕ) → lookup_at wanted o ≡ Handle kind p → IsWanted wanted kind
    wanted_found None o kind p is = tt
    wanted_found (Some wanted) o kind p is =
        let own = found_at_is (Some wanted) o kind p is in
        let same = found_at_wanted wanted o kind p is in
        cc

    found_same : (call : BCall V) (f : Found ℕ) → ((kind : Kind) (p : ℕ) → f ≡ Handle kind p → IsWanted (wanted_kind call) kind)
        → effect_found there call (raised_found n f) ≡ raised_effect (effect_found here call f)
    found_same call (Fault fault) wanted = refl
    found_same call (Handle kind p) wanted =
        ap (λ k. cond (makes call && nat_le MOST_HANDLES k) (Keep, TooManyHandles) (effect_with there call kind (raised_position n kind p)))
        (length-map x.slots (raised_slot n))
        ∙ ap (λ e. cond (makes call && nat_le MOST_HANDLES (length x.slots)) (Keep, TooManyHandles) e) (with_raised call kind p (wanted kind p refl))
        ∙ by_test (makes call && nat_le MOST_HANDLES (length x.slots)) where
          by_test : (b : Bool) → cond b (Keep, TooManyHandles) (raised_effect (effect_with here call kind p))
              ≡ raised_effect (cond b (Keep, TooManyHandles) (effect_with here call kind p))
          by_test true = refl
          by_test false = refl

    effect_raised : (call : BCall V) → effect there call ≡ raised_effect (effect here call)
    effect_raised call =
        let o = slice_get x.slots (handle_of call) in
        ap (λ s. effect_found there call (lookup_at (wanted_kind call) s)) (slice_get-map (raised_slot n) x.slots (handle_of call))
        ∙ ap (effect_found there call) (found_raised n (wanted_kind call) o)
        ∙ found_same call (lookup_at (wanted_kind call) o) (λ kind p is. wanted_found (wanted_kind call) o kind p is)

pub replies_raised : (V : Type 0) → RepliesRaised V
replies_raised V n x call full =
    let same = effect_raised n x full call in
    (ap (λ e. e.1) same, ap (λ e. with_change (raised n x) e.0) same ∙ change_raised n x (effect (channel_of x) call).0)
