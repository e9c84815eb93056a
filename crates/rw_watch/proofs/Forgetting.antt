-- It makes no difference to any call which versions there were before.
use Rattle.std.proofs.Common.{◌≡◌, ℕ, zero, suc, ◌+◌, Bool, true, false, cond, List, [], ◌∷◌, ◌++◌, length, map, fold, refl, ap, sym, subst, ◌∙◌, arith}
use Rattle.std.specs.Prelude.{Option, Some, None, All, not, slice_get, slice_set, nat_le, ◌&&◌, ◌==◌}
use Rattle.std.specs.Option.{option_map}
use Rattle.std.proofs.lemmas.List.{length-map}
use Rattle.std.proofs.lemmas.Option.{slice_get-map}
use Rattle.std.proofs.lemmas.List.Elements.{All-head, All-tail}
use Rattle.std.proofs.lemmas.Bool.{eq-eqb}
use Rattle.std.proofs.lemmas.Bool.{ne_eqb}
use Rattle.rw_handles.specs.declared.kinds.Kind.{Kind}
use Rattle.rw_handles.specs.declared.kinds.Kind.TheVariants.{Sender, Receiver, Weak}
use Rattle.rw_handles.specs.declared.kinds.Slot.{Slot}
use Rattle.rw_handles.specs.declared.kinds.Slot.TheVariants.{Live, Spent}
use Rattle.rw_handles.specs.declared.kinds.HandleFault.TheVariants.{WrongKind}
use Rattle.rw_handles.specs.declared.kinds.Found.{Found}
use Rattle.rw_handles.specs.declared.kinds.Found.TheVariants.{Fault, Handle}
use Rattle.rw_handles.specs.declared.table.TheConstants.{MOST_HANDLES}
use Rattle.rw_handles.specs.Slots.{lookup_at, serves, alive, is_alive, same_kind}
use Rattle.rw_watch.specs.declared.calls.WCall.{WCall}
use Rattle.rw_watch.specs.declared.calls.WCall.TheVariants as call
use Rattle.rw_watch.specs.declared.calls.WReply.{WReply}
use Rattle.rw_watch.specs.declared.calls.WReply.TheVariants as reply
use Rattle.rw_watch.specs.Channel.{Channel, Change, Keep, Write, Make, Mark, Leave, has_no_receiver, is_closed, is_unseen}
use Rattle.rw_watch.specs.Channel.{handle_of, wanted_kind, makes, send, make, wait_effect, effect_with, effect_found, effect}
use Rattle.rw_watch.specs.Shown.{Shown, with_change, IsMark, IsMarked}
use Rattle.rw_watch.specs.Recent.{recent_mark, recent_slot, recent, RepliesRecent}

count_recent : (w : ℕ) (kind : Kind) (a : ℕ) (slots : List (Slot (Option ℕ)))
    → fold (λ a s. a + cond (is_alive kind s) 1 0) a (map (recent_slot w) slots) ≡ fold (λ a s. a + cond (is_alive kind s) 1 0) a slots
count_recent w kind a [] = refl
count_recent w kind a (Live own m ∷ slots) = count_recent w kind (a + cond (same_kind kind own) 1 0) slots
count_recent w kind a (Spent ∷ slots) = count_recent w kind (a + 0) slots

alive_recent : (w : ℕ) (kind : Kind) (slots : List (Slot (Option ℕ))) → alive kind (map (recent_slot w) slots) ≡ alive kind slots
alive_recent w kind slots = count_recent w kind 0 slots

abbrev recent_found : ℕ → Found (Option ℕ) → Found (Option ℕ)
recent_found w (Fault fault) = Fault fault
recent_found w (Handle kind m) = Handle kind (recent_mark w m)

found_recent : (w : ℕ) (wanted : Option Kind) (o : Option (Slot (Option ℕ))) → lookup_at wanted (option_map (recent_slot w) o)
    ≡ recent_found w (lookup_at wanted o)
found_recent w wanted None = refl
found_recent w wanted (Some Spent) = refl
found_recent w wanted (Some (Live own m)) = by_kind (serves wanted own) where
  by_kind : (b : Bool) → cond b (Handle own (recent_mark w m)) (Fault WrongKind) ≡ recent_found w (cond b (Handle own m) (Fault WrongKind))
  by_kind true = refl
  by_kind false = refl

-- a mark of version 0 says whether the value was seen
unseen_recent : (w : ℕ) (m : Option ℕ) → is_unseen 0 (recent_mark w m) ≡ is_unseen w m
unseen_recent w m = by_test (is_unseen w m) where
  by_test : (b : Bool) → is_unseen 0 (cond b None (Some 0)) ≡ b
  by_test true = refl
  by_test false = refl

-- the newest mark is one that has seen the value
newest_recent : (w : ℕ) → recent_mark w (Some w) ≡ Some 0
newest_recent w = ap (λ b. cond (not b) None (Some 0)) (eq-eqb w w refl)

again : (w : ℕ) (m : Option ℕ) → recent_mark 0 (recent_mark w m) ≡ recent_mark w m
again w m = ap (λ b. cond b None (Some 0)) (unseen_recent w m)

again_slot : (w : ℕ) (s : Slot (Option ℕ)) → recent_slot 0 (recent_slot w s) ≡ recent_slot w s
again_slot w (Live kind m) = ap (Live kind) (again w m)
again_slot w Spent = refl

again_all : (w : ℕ) (slots : List (Slot (Option ℕ))) → map (recent_slot 0) (map (recent_slot w) slots) ≡ map (recent_slot w) slots
again_all w [] = refl
again_all w (s ∷ slots) = ap (λ t. t ∷ map (recent_slot 0) (map (recent_slot w) slots)) (again_slot w s) ∙ ap (λ l. recent_slot w s ∷ l) (again_all w slots)

map_push : (w : ℕ) (slots : List (Slot (Option ℕ))) (s : Slot (Option ℕ)) → map (recent_slot w) (slots ++ s ∷ [])
    ≡ map (recent_slot w) slots ++ recent_slot w s ∷ []
map_push w [] s = refl
map_push w (t ∷ slots) s = ap (λ l. recent_slot w t ∷ l) (map_push w slots s)

map_set : (w : ℕ) (slots : List (Slot (Option ℕ))) (h : ℕ) (s : Slot (Option ℕ))
    → map (recent_slot w) (slice_set slots h s) ≡ slice_set (map (recent_slot w) slots) h (recent_slot w s)
map_set w [] h s = refl
map_set w (t ∷ slots) zero s = refl
map_set w (t ∷ slots) (suc h) s = ap (λ l. recent_slot w t ∷ l) (map_set w slots h s)

-- a mark of an earlier version has not seen the next one
none_mark : (w : ℕ) (m : Option ℕ) → IsMark w m → recent_mark 1 (recent_mark w m) ≡ recent_mark (w + 1) m
none_mark w None ok = refl
none_mark w (Some m) ok =
    let later : (m == w + 1) ≡ false = ne_eqb m (w + 1) (λ is. omega (arith, ok, is)) in
    by_test (m == w) ∙ sym (ap (λ b. cond (not b) None (Some 0)) later) where
      by_test : (b : Bool) → recent_mark 1 (cond (not b) None (Some 0)) ≡ None
      by_test true = refl
      by_test false = refl

none_slot : (w : ℕ) (s : Slot (Option ℕ)) → IsMarked w s → recent_slot 1 (recent_slot w s) ≡ recent_slot (w + 1) s
none_slot w (Live Sender m) is = ap (λ k. Live Sender k) (none_mark w m (subst (IsMark w) (sym is) tt))
none_slot w (Live Receiver m) ok = ap (λ k. Live Receiver k) (none_mark w m ok)
none_slot w (Live Weak m) ok = elim ok [ ]
none_slot w Spent ok = refl

module _ {V : Type 0} (x : Shown V) where
  abbrev w : ℕ
  w = x.version

  abbrev there : Channel V
  there = recent x

  abbrev recent_change : Change V → Change V
  recent_change Keep = Keep
  recent_change (Write v told) = Write v told
  recent_change (Make kind m) = Make kind (recent_mark w m)
  recent_change (Mark h from to) = Mark h (recent_mark w from) (recent_mark w to)
  recent_change (Leave h kind m) = Leave h kind (recent_mark w m)

  abbrev recent_effect : Change V × WReply V → Change V × WReply V
  recent_effect e = (recent_change e.0, e.1)

  none_of : (kind : Kind) → (alive kind there.slots == 0) ≡ (alive kind x.slots == 0)
  none_of kind = ap (λ k. k == 0) (alive_recent w kind x.slots)

  send_recent : (v : V) → send there v ≡ recent_effect (send x v)
  send_recent v = ap (λ b. cond {A = Change V × WReply V} b (Keep, reply.NoReceivers v) (Write v true, reply.Stored)) (none_of Receiver)
      ∙ by_test (has_no_receiver x) where
        by_test : (b : Bool) → cond {A = Change V × WReply V} b (Keep, reply.NoReceivers v) (Write v true, reply.Stored)
            ≡ recent_effect (cond b (Keep, reply.NoReceivers v) (Write v true, reply.Stored))
        by_test true = refl
        by_test false = refl

  made_recent : (kind : Kind) (n : Option ℕ) → make there kind (recent_mark w n) ≡ recent_effect (make x kind n)
  made_recent kind n = ap (λ k. (Make kind (recent_mark w n), reply.New k)) (length-map x.slots (recent_slot w))

  newest : Some 0 ≡ recent_mark w (Some w)
  newest = sym (newest_recent w)

  waits_recent : (h : ℕ) (m : Option ℕ) → wait_effect there h (recent_mark w m) ≡ recent_effect (wait_effect x h m)
  waits_recent h m =
      ap (λ b. cond {A = Change V × WReply V} b (Mark h (recent_mark w m) (Some 0), reply.Done)
      (Keep, cond (is_closed there) reply.Closed reply.Waits)) (unseen_recent w m)
      ∙ ap (λ b. cond {A = Change V × WReply V} (is_unseen w m) (Mark h (recent_mark w m) (Some 0), reply.Done)
      (Keep, cond b reply.Closed reply.Waits)) (none_of Sender)
      ∙ ap (λ k. cond {A = Change V × WReply V} (is_unseen w m) (Mark h (recent_mark w m) k, reply.Done)
      (Keep, cond (is_closed x) reply.Closed reply.Waits)) newest
      ∙ by_test (is_unseen w m) where
        by_test : (b : Bool) → cond {A = Change V × WReply V} b (Mark h (recent_mark w m) (recent_mark w (Some w)), reply.Done)
            (Keep, cond (is_closed x) reply.Closed reply.Waits)
            ≡ recent_effect (cond b (Mark h m (Some w), reply.Done) (Keep, cond (is_closed x) reply.Closed reply.Waits))
        by_test true = refl
        by_test false = refl

  with_recent : (c : WCall V) (kind : Kind) (m : Option ℕ) → effect_with there c kind (recent_mark w m) ≡ recent_effect (effect_with x c kind m)
  with_recent (call.Send h v) kind m = send_recent v
  with_recent (call.SendReplace h v) kind m = refl
  with_recent (call.Modify told h v) kind m = refl
  with_recent (call.Subscribe h) kind m = ap (λ k. make there Receiver k) newest ∙ made_recent Receiver (Some w)
  with_recent (call.CloneSender h) kind m = made_recent Sender None
  with_recent (call.CloneReceiver h) kind m = made_recent Receiver m
  with_recent (call.Borrow h) kind m = refl
  with_recent (call.Update h) kind m = ap (λ k. (Mark h (recent_mark w m) k, reply.Value x.value)) newest
  with_recent (call.HasChanged h) kind m =
      ap (λ b. (Keep, cond b reply.Closed (reply.Flag (is_unseen 0 (recent_mark w m))))) (none_of Sender)
      ∙ ap (λ b. (Keep, cond (is_closed x) reply.Closed (reply.Flag b))) (unseen_recent w m)
  with_recent (call.Changed h) kind m = waits_recent h m
  with_recent (call.MarkChanged h) kind m = refl
  with_recent (call.MarkUnchanged h) kind m = ap (λ k. (Mark h (recent_mark w m) k, reply.Done)) newest
  with_recent (call.DropHandle h) kind m = refl
  with_recent (call.ReceiverCount h) kind m = ap (λ k. (Keep, reply.Count k)) (alive_recent w Receiver x.slots)
  with_recent (call.IsClosed h) kind m = ap (λ b. (Keep, reply.Flag b)) (none_of Receiver)
  with_recent (call.AwaitClosed h) kind m = ap (λ b. (Keep, cond b reply.Done reply.Waits)) (none_of Receiver)

  found_same : (c : WCall V) (f : Found (Option ℕ)) → effect_found there c (recent_found w f) ≡ recent_effect (effect_found x c f)
  found_same c (Fault fault) = refl
  found_same c (Handle kind m) =
      ap (λ k. cond (makes c && nat_le MOST_HANDLES k) (Keep, reply.TooManyHandles) (effect_with there c kind (recent_mark w m)))
      (length-map x.slots (recent_slot w))
      ∙ ap (λ e. cond (makes c && nat_le MOST_HANDLES (length x.slots)) (Keep, reply.TooManyHandles) e) (with_recent c kind m)
      ∙ by_test (makes c && nat_le MOST_HANDLES (length x.slots)) where
        by_test : (b : Bool) → cond b (Keep, reply.TooManyHandles) (recent_effect (effect_with x c kind m))
            ≡ recent_effect (cond b (Keep, reply.TooManyHandles) (effect_with x c kind m))
        by_test true = refl
        by_test false = refl

  effect_recent : (c : WCall V) → effect there c ≡ recent_effect (effect x c)
  effect_recent c =
      ap (λ s. effect_found there c (lookup_at (wanted_kind c) s)) (slice_get-map (recent_slot w) x.slots (handle_of c))
      ∙ ap (effect_found there c) (found_recent w (wanted_kind c) (slice_get x.slots (handle_of c)))
      ∙ found_same c (lookup_at (wanted_kind c) (slice_get x.slots (handle_of c)))

  -- after a notification nobody has seen the value
  none_seen : (slots : List (Slot (Option ℕ))) → All (IsMarked w) slots → map (recent_slot 1) (map (recent_slot w) slots) ≡ map (recent_slot (w + 1)) slots
  none_seen [] all = refl
  none_seen (s ∷ slots) all = ap (λ t. t ∷ map (recent_slot 1) (map (recent_slot w) slots)) (none_slot w s (All-head (IsMarked w) s slots all))
      ∙ ap (λ l. recent_slot (w + 1) s ∷ l) (none_seen slots (All-tail (IsMarked w) s slots all))

  change_recent : All (IsMarked w) x.slots → (c : Change V) → recent (with_change there (recent_change c)) ≡ recent (with_change x c)
  change_recent all Keep = ap (λ l. record there { slots = l }) (again_all w x.slots)
  change_recent all (Write v true) = ap (λ l. record there { value = v; slots = l }) (none_seen x.slots all)
  change_recent all (Write v false) = ap (λ l. record there { value = v; slots = l }) (again_all w x.slots)
  change_recent all (Make kind m) =
      ap (λ l. record there { slots = l }) (ap (map (recent_slot 0)) (sym (map_push w x.slots (Live kind m))) ∙ again_all w (x.slots ++ Live kind m ∷ []))
  change_recent all (Mark h from to) =
      ap (λ l. record there { slots = l }) (ap (map (recent_slot 0)) (sym (map_set w x.slots h (Live Receiver to)))
      ∙ again_all w (slice_set x.slots h (Live Receiver to)))
  change_recent all (Leave h kind m) =
      ap (λ l. record there { slots = l }) (ap (map (recent_slot 0)) (sym (map_set w x.slots h Spent)) ∙ again_all w (slice_set x.slots h Spent))

pub replies_recent : (V : Type 0) → RepliesRecent V
replies_recent V x c ok =
    let same = effect_recent x c in
    (ap (λ e. e.1) same, ap (λ e. recent (with_change (recent x) e.0)) same ∙ change_recent x ok.marked (effect x c).0)
