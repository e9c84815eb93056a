-- As long as a receiver isn't asked, it makes no difference by how many values it lags.
use Rattle.std.proofs.Common.{◌≡◌, ℕ, zero, suc, ◌+◌, ◌-◌, ◌≤◌, min, max, Bool, true, false, cond, List, [], ◌∷◌, ◌++◌, length, map, fold, set}
use Rattle.std.proofs.Common.{refl, ap, sym, ◌∙◌, subst, arith, inl, inr}
use Rattle.std.specs.Prelude.{Option, Some, None, slice_get, nat_lt, nat_le, ◌&&◌, ◌==◌, count_by, All, ◌⊎◌}
use Rattle.std.specs.Option.{option_map}
use Rattle.std.proofs.lemmas.Bool.{cases_eq}
use Rattle.std.proofs.lemmas.List.Elements.{All-head, All-tail}
use Rattle.std.proofs.lemmas.List.Sums.{sum_by-cons}
use Rattle.rw_handles.specs.declared.kinds.Kind.{Kind}
use Rattle.rw_handles.specs.declared.kinds.Kind.TheVariants.{Sender, Receiver, Weak}
use Rattle.rw_handles.specs.declared.kinds.Slot.{Slot}
use Rattle.rw_handles.specs.declared.kinds.Slot.TheVariants.{Live, Spent}
use Rattle.rw_handles.specs.declared.kinds.HandleFault.TheVariants.{WrongKind}
use Rattle.rw_handles.specs.declared.kinds.Found.{Found}
use Rattle.rw_handles.specs.declared.kinds.Found.TheVariants.{Fault, Handle}
use Rattle.rw_handles.specs.declared.table.TheConstants.{MOST_HANDLES}
use Rattle.rw_handles.specs.Slots.{lookup_at, serves, alive, is_alive, values}
use Rattle.rw_broadcast.specs.declared.calls.BCall.{BCall}
use Rattle.rw_broadcast.specs.declared.calls.BCall.TheVariants.{Send, Subscribe, CloneSender, Resubscribe, TryRecv, Recv, DropHandle}
use Rattle.rw_broadcast.specs.declared.calls.BCall.TheVariants.{SenderLen, ReceiverCount, ReceiverLen, Downgrade, Upgrade, CloneWeak}
use Rattle.rw_broadcast.specs.declared.calls.BReply.{BReply}
use Rattle.rw_broadcast.specs.declared.calls.BReply.TheVariants.{Sent, NoReceivers, Lagged, Empty, Closed, Waits, New, Count, TooManyHandles, NoSender}
use Rattle.rw_broadcast.specs.Alike.{replies_of}
use Rattle.rw_broadcast.specs.Arithmetic as number
use Rattle.rw_broadcast.specs.Channel.{Channel, Change, Keep, Append, Make, Move, Leave, queued, is_closed, read, receive}
use Rattle.rw_broadcast.specs.Channel.{effect_with, effect_found, effect, handle_of, wanted_kind, makes, send, make, upgrade}
use Rattle.rw_broadcast.specs.Dozing.{asks, changed, dozing_slot, dozing, LeavesAlone, RepliesDozing, RepliesDozingThroughout}
use Rattle.rw_broadcast.specs.Laws.{shown_after}
use Rattle.rw_broadcast.specs.Shown.{Shown, channel_of, with_change, next, reply_of}

-- ---- a list with one element changed

module _ {A : Type 0} (f g : A → A) (again : (x : A) → g (f x) ≡ g x) where
  changed_again : (h : ℕ) (xs : List A) → changed h g (changed h f xs) ≡ changed h g xs
  changed_again h [] = refl
  changed_again zero (x ∷ xs) = ap (λ y. y ∷ xs) (again x)
  changed_again (suc h) (x ∷ xs) = ap (λ l. x ∷ l) (changed_again h xs)

  changed_push : (h : ℕ) (xs : List A) (y : A) → changed h g (changed h f xs ++ y ∷ []) ≡ changed h g (xs ++ y ∷ [])
  changed_push h [] y = refl
  changed_push zero (x ∷ xs) y = ap (λ z. z ∷ xs ++ y ∷ []) (again x)
  changed_push (suc h) (x ∷ xs) y = ap (λ l. x ∷ l) (changed_push h xs y)

  changed_set : (h : ℕ) (xs : List A) (i : ℕ) (y : A) → changed h g (set (changed h f xs) i y) ≡ changed h g (set xs i y)
  changed_set h [] i y = refl
  changed_set zero (x ∷ xs) zero y = refl
  changed_set zero (x ∷ xs) (suc i) y = ap (λ z. z ∷ set xs i y) (again x)
  changed_set (suc h) (x ∷ xs) zero y = ap (λ l. y ∷ l) (changed_again h xs)
  changed_set (suc h) (x ∷ xs) (suc i) y = ap (λ l. x ∷ l) (changed_set h xs i y)

length_changed : {A : Type 0} (h : ℕ) (f : A → A) (xs : List A) → length (changed h f xs) ≡ length xs
length_changed h f [] = refl
length_changed zero f (x ∷ xs) = refl
length_changed (suc h) f (x ∷ xs) = ap suc (length_changed h f xs)

get_changed : {A : Type 0} (h : ℕ) (f : A → A) (xs : List A) → slice_get (changed h f xs) h ≡ option_map f (slice_get xs h)
get_changed h f [] = refl
get_changed zero f (x ∷ xs) = refl
get_changed (suc h) f (x ∷ xs) = get_changed h f xs

get_changed_other : {A : Type 0} (h : ℕ) (f : A → A) (xs : List A) (i : ℕ) → (i ≡ h → ⊥) → slice_get (changed h f xs) i ≡ slice_get xs i
get_changed_other h f [] i other = refl
get_changed_other zero f (x ∷ xs) zero other = absurd (other refl)
get_changed_other zero f (x ∷ xs) (suc i) other = refl
get_changed_other (suc h) f (x ∷ xs) zero other = refl
get_changed_other (suc h) f (x ∷ xs) (suc i) other = get_changed_other h f xs i (λ one. other (ap suc one))

count_changed : {A : Type 0} (test : A → Bool) (h : ℕ) (f : A → A) → ((x : A) → test (f x) ≡ test x) → (xs : List A)
    → count_by test (changed h f xs) ≡ count_by test xs
count_changed test h f same [] = refl
count_changed {A} test zero f same (x ∷ xs) =
    let bit : A → ℕ = λ a. cond (test a) 1 0 in
    let is : bit (f x) ≡ bit x = ap (λ b. cond b 1 0) (same x) in
    omega (arith, sum_by-cons bit (f x) xs, sum_by-cons bit x xs, is)
count_changed {A} test (suc h) f same (x ∷ xs) =
    let bit : A → ℕ = λ a. cond (test a) 1 0 in
    omega (arith, sum_by-cons bit x (changed h f xs), sum_by-cons bit x xs, count_changed test h f same xs)

-- ---- a slot

doze_again : (old new : ℕ) → old ≤ new → (s : Slot ℕ) → dozing_slot new (dozing_slot old s) ≡ dozing_slot new s
doze_again old new more (Live Receiver p) =
    let is : max (max p (old - 1)) (new - 1) ≡ max p (new - 1) = omega (arith, more) in ap (λ k. Live Receiver k) is
doze_again old new more (Live Sender p) = refl
doze_again old new more (Live Weak p) = refl
doze_again old new more Spent = refl

alive_dozing : (kind : Kind) (old : ℕ) (s : Slot ℕ) → is_alive kind (dozing_slot old s) ≡ is_alive kind s
alive_dozing kind old (Live Receiver p) = refl
alive_dozing kind old (Live Sender p) = refl
alive_dozing kind old (Live Weak p) = refl
alive_dozing kind old Spent = refl

-- ---- what is queued

-- the positions, none before the oldest retained value
abbrev clipped : (old : ℕ) → List ℕ → List ℕ
clipped old ps = map (λ p. max old p) ps

clipped_dozing : (old h : ℕ) (slots : List (Slot ℕ)) → clipped old (values Receiver (changed h (dozing_slot old) slots)) ≡ clipped old (values Receiver slots)
clipped_dozing old h [] = refl
clipped_dozing old zero (Live Receiver p ∷ slots) =
    let is : max old (max p (old - 1)) ≡ max old p = omega arith in ap (λ k. k ∷ clipped old (values Receiver slots)) is
clipped_dozing old zero (Live Sender p ∷ slots) = refl
clipped_dozing old zero (Live Weak p ∷ slots) = refl
clipped_dozing old zero (Spent ∷ slots) = refl
clipped_dozing old (suc h) (Live Receiver p ∷ slots) = ap (λ l. max old p ∷ l) (clipped_dozing old h slots)
clipped_dozing old (suc h) (Live Sender p ∷ slots) = clipped_dozing old h slots
clipped_dozing old (suc h) (Live Weak p ∷ slots) = clipped_dozing old h slots
clipped_dozing old (suc h) (Spent ∷ slots) = clipped_dozing old h slots

fold_clipped : (old p : ℕ) (ps : List ℕ) → fold min (max old p) (clipped old ps) ≡ max old (fold min p ps)
fold_clipped old p [] = refl
fold_clipped old p (q ∷ ps) =
    let here : min (max old p) (max old q) ≡ max old (min p q) = omega arith in
    ap (λ k. fold min k (clipped old ps)) here ∙ fold_clipped old (min p q) ps

-- how many values come after the least of these positions, if there is one
abbrev after_least : ℕ → List ℕ → ℕ
after_least sent [] = 0
after_least sent (p ∷ ps) = sent - fold min p ps

queued_clipped : (sent old : ℕ) (ps : List ℕ) → number.queued sent old ps ≡ after_least sent (clipped old ps)
queued_clipped sent old [] = refl
queued_clipped sent old (p ∷ ps) = ap (λ k. sent - k) (sym (fold_clipped old p ps))

-- ---- what a call does

module _ {V : Type 0} where
  -- a change, whatever the position of a handle that is dropped
  abbrev plain : Change V → Change V
  plain Keep = Keep
  plain (Append v) = Append v
  plain (Make kind p) = Make kind p
  plain (Move g from to) = Move g from to
  plain (Leave g kind p) = Leave g kind 0

  abbrev plain_effect : Change V × BReply V → Change V × BReply V
  plain_effect e = (plain e.0, e.1)

  plain_is : (x : Shown V) (c : Change V) → with_change x (plain c) ≡ with_change x c
  plain_is x Keep = refl
  plain_is x (Append v) = refl
  plain_is x (Make kind p) = refl
  plain_is x (Move g from to) = refl
  plain_is x (Leave g kind p) = refl

  module _ (h : ℕ) (x : Shown V) where
    abbrev old : ℕ
    old = number.oldest x.sent x.capacity

    abbrev here : Channel V
    here = channel_of x

    abbrev there : Channel V
    there = channel_of (dozing h x)

    change_dozing : (c : Change V) → dozing h (with_change (dozing h x) c) ≡ dozing h (with_change x c)
    change_dozing Keep = ap (λ l. record x { slots = l }) (changed_again (dozing_slot old) (dozing_slot old) (doze_again old old (omega arith)) h x.slots)
    change_dozing (Append v) =
        let new = number.oldest (x.sent + 1) x.capacity in
        ap (λ l. record (with_change x (Append v)) { slots = l })
        (changed_again (dozing_slot old) (dozing_slot new) (doze_again old new (omega arith)) h x.slots)
    change_dozing (Make kind p) =
        ap (λ l. record x { slots = l }) (changed_push (dozing_slot old) (dozing_slot old) (doze_again old old (omega arith)) h x.slots (Live kind p))
    change_dozing (Move g from to) =
        ap (λ l. record x { slots = l }) (changed_set (dozing_slot old) (dozing_slot old) (doze_again old old (omega arith)) h x.slots g (Live Receiver to))
    change_dozing (Leave g kind p) =
        ap (λ l. record x { slots = l }) (changed_set (dozing_slot old) (dozing_slot old) (doze_again old old (omega arith)) h x.slots g Spent)

    same_alive : (kind : Kind) → alive kind there.slots ≡ alive kind here.slots
    same_alive kind = count_changed (is_alive kind) h (dozing_slot old) (alive_dozing kind old) x.slots

    same_length : length there.slots ≡ length here.slots
    same_length = length_changed h (dozing_slot old) x.slots

    same_queued : queued there ≡ queued here
    same_queued =
        queued_clipped x.sent old (values Receiver there.slots) ∙ ap (after_least x.sent) (clipped_dozing old h x.slots)
        ∙ sym (queued_clipped x.sent old (values Receiver x.slots))

    same_send : (v : V) → send there v ≡ send here v
    same_send v = ap (λ k. cond {A = Change V × BReply V} (k == 0) (Keep, NoReceivers v) (Append v, Sent k)) (same_alive Receiver)

    same_make : (kind : Kind) (p : ℕ) → make there kind p ≡ make here kind p
    same_make kind p = ap (λ k. (Make kind p, New k)) same_length

    same_upgrade : upgrade there ≡ upgrade here
    same_upgrade =
        ap (λ k. cond {A = Change V × BReply V} (k == 0) (Keep, NoSender) (make there Sender 0)) (same_alive Sender)
        ∙ ap (λ e. cond {A = Change V × BReply V} (is_closed here) (Keep, NoSender) e) (same_make Sender 0)

    same_read : (g p : ℕ) (o : Option V) (nothing : BReply V) → read there g p o nothing ≡ read here g p o nothing
    same_read g p (Some v) nothing = refl
    same_read g p None nothing = ap (λ k. (Keep, cond (k == 0) Closed nothing)) (same_alive Sender)

    same_receive : (g p : ℕ) (nothing : BReply V) → receive there g p nothing ≡ receive here g p nothing
    same_receive g p nothing =
        ap (λ e. cond {A = Change V × BReply V} (nat_lt 0 (number.lag old p)) (Move g p old, Lagged (number.lag old p)) e)
        (same_read g p (here.value p) nothing)

    -- the position is the same, or isn't asked
    abbrev IsTold : BCall V → (p q : ℕ) → Type 0
    IsTold call p q = (p ≡ q) ⊎ (asks call ≡ false)

    with_dozing : (call : BCall V) (kind : Kind) (p q : ℕ) → IsTold call p q → plain_effect (effect_with there call kind p)
        ≡ plain_effect (effect_with here call kind q)
    with_dozing (Send g v) kind p q told = ap plain_effect (same_send v)
    with_dozing (Subscribe g) kind p q told = ap plain_effect (same_make Receiver x.sent)
    with_dozing (CloneSender g) kind p q told = ap plain_effect (same_make Sender 0)
    with_dozing (Resubscribe g) kind p q told = ap plain_effect (same_make Receiver x.sent)
    with_dozing (TryRecv g) kind p q (inl same) = ap plain_effect (same_receive g p Empty ∙ ap (λ k. receive here g k Empty) same)
    with_dozing (TryRecv g) kind p q (inr never) = absurd cc
    with_dozing (Recv g) kind p q (inl same) = ap plain_effect (same_receive g p Waits ∙ ap (λ k. receive here g k Waits) same)
    with_dozing (Recv g) kind p q (inr never) = absurd cc
    with_dozing (DropHandle g) kind p q told = refl
    with_dozing (SenderLen g) kind p q told = ap (λ k. (Keep, Count k)) same_queued
    with_dozing (ReceiverCount g) kind p q told = ap (λ k. (Keep, Count k)) (same_alive Receiver)
    with_dozing (ReceiverLen g) kind p q (inl same) = ap (λ k. (Keep, Count (number.unread x.sent k))) same
    with_dozing (ReceiverLen g) kind p q (inr never) = absurd cc
    with_dozing (Downgrade g) kind p q told = ap plain_effect (same_make Weak 0)
    with_dozing (Upgrade g) kind p q told = ap plain_effect same_upgrade
    with_dozing (CloneWeak g) kind p q told = ap plain_effect (same_make Weak 0)

    -- what is found is the same, but for a position that isn't asked
    abbrev AreFound : BCall V → Found ℕ → Found ℕ → Type 0
    AreFound call (Fault e) (Fault f) = e ≡ f
    AreFound call (Handle kind p) (Handle own q) = (kind ≡ own) × IsTold call p q
    AreFound call _ _ = ⊥

    same_found : (call : BCall V) (f : Found ℕ) → AreFound call f f
    same_found call (Fault e) = refl
    same_found call (Handle kind p) = (refl, inl refl)

    dozing_found : (call : BCall V) → asks call ≡ false → (wanted : Option Kind) (o : Option (Slot ℕ))
        → AreFound call (lookup_at wanted (option_map (dozing_slot old) o)) (lookup_at wanted o)
    dozing_found call never wanted None = refl
    dozing_found call never wanted (Some Spent) = refl
    dozing_found call never wanted (Some (Live Sender p)) = same_found call (lookup_at wanted (Some (Live Sender p)))
    dozing_found call never wanted (Some (Live Weak p)) = same_found call (lookup_at wanted (Some (Live Weak p)))
    dozing_found call never wanted (Some (Live Receiver p)) = by_kind (serves wanted Receiver) where
      by_kind : (b : Bool) → AreFound call (cond b (Handle Receiver (max p (old - 1))) (Fault WrongKind)) (cond b (Handle Receiver p) (Fault WrongKind))
      by_kind true = (refl, inr never)
      by_kind false = refl

    found_dozing : (call : BCall V) (f e : Found ℕ) → AreFound call f e → plain_effect (effect_found there call f) ≡ plain_effect (effect_found here call e)
    found_dozing call (Fault f) (Fault e) is = ap (λ k. plain_effect (effect_found here call (Fault k))) is
    found_dozing call (Fault f) (Handle own q) is = elim is [ ]
    found_dozing call (Handle kind p) (Fault e) is = elim is [ ]
    found_dozing call (Handle kind p) (Handle own q) is =
        ap (λ k. plain_effect (cond {A = Change V × BReply V} (makes call && nat_le MOST_HANDLES k) (Keep, TooManyHandles)
        (effect_with there call kind p))) same_length
        ∙ by_test (makes call && nat_le MOST_HANDLES (length x.slots)) where
          same : plain_effect (effect_with there call kind p) ≡ plain_effect (effect_with here call own q)
          same = with_dozing call kind p q is.1 ∙ ap (λ k. plain_effect (effect_with here call k q)) is.0

          by_test : (b : Bool) → plain_effect (cond b (Keep, TooManyHandles) (effect_with there call kind p))
              ≡ plain_effect (cond b (Keep, TooManyHandles) (effect_with here call own q))
          by_test true = refl
          by_test false = same

    abbrev look : BCall V → List (Slot ℕ) → Found ℕ
    look call slots = lookup_at (wanted_kind call) (slice_get slots (handle_of call))

    effect_dozing : (call : BCall V) → (handle_of call ≡ h → asks call ≡ false) → plain_effect (effect there call) ≡ plain_effect (effect here call)
    effect_dozing call quiet = found_dozing call (look call there.slots) (look call x.slots) (by_number (cases_eq (handle_of call) h)) where
      by_number : (handle_of call ≡ h) ⊎ (handle_of call ≡ h → ⊥) → AreFound call (look call there.slots) (look call x.slots)
      by_number (inl one) =
          let at : slice_get there.slots (handle_of call) ≡ option_map (dozing_slot old) (slice_get x.slots (handle_of call)) =
          ap (slice_get there.slots) one ∙ get_changed h (dozing_slot old) x.slots ∙ ap (λ i. option_map (dozing_slot old) (slice_get x.slots i)) (sym one) in
          subst (λ o. AreFound call (lookup_at (wanted_kind call) o) (lookup_at (wanted_kind call) (slice_get x.slots (handle_of call)))) (sym at)
          (dozing_found call (quiet one) (wanted_kind call) (slice_get x.slots (handle_of call)))
      by_number (inr two) =
          let at = get_changed_other h (dozing_slot old) x.slots (handle_of call) two in
          subst (λ o. AreFound call (lookup_at (wanted_kind call) o) (lookup_at (wanted_kind call) (slice_get x.slots (handle_of call)))) (sym at)
          (same_found call (lookup_at (wanted_kind call) (slice_get x.slots (handle_of call))))

pub replies_dozing : (V : Type 0) → RepliesDozing V
replies_dozing V h x call quiet =
    let same = effect_dozing h x call quiet in
    let first = (effect (channel_of (dozing h x)) call).0 in
    let second = (effect (channel_of x) call).0 in (
      ap (λ e. e.1) same,
      ap (dozing h) (sym (plain_is (dozing h x) first)) ∙ ap (λ e. dozing h (with_change (dozing h x) e.0)) same
          ∙ ap (dozing h) (plain_is (dozing h x) second) ∙ change_dozing h x second,
    )

-- ---- all later calls

-- channels that show the same where h dozes reply the same
dozing_throughout : (V : Type 0) (h : ℕ) (x y : Shown V) (calls : List (BCall V)) → All (LeavesAlone h) calls → dozing h y ≡ dozing h x
    → (replies_of y calls ≡ replies_of x calls) × (dozing h (shown_after y calls) ≡ dozing h (shown_after x calls))
dozing_throughout V h x y [] quiet same = (refl, same)
dozing_throughout V h x y (call ∷ calls) quiet same =
    let alone = All-head (LeavesAlone h) call calls quiet in
    let first = replies_dozing V h x call alone in
    let second = replies_dozing V h y call alone in
    let reply : reply_of y call ≡ reply_of x call = sym second.0 ∙ ap (λ z. reply_of z call) same ∙ first.0 in
    let after : dozing h (next y call) ≡ dozing h (next x call) = sym second.1 ∙ ap (λ z. dozing h (next z call)) same ∙ first.1 in
    let rest = dozing_throughout V h (next x call) (next y call) calls (All-tail (LeavesAlone h) call calls quiet) after in
    (ap (λ r. r ∷ replies_of (next y call) calls) reply ∙ ap (λ l. reply_of x call ∷ l) rest.0, rest.1)

pub replies_dozing_throughout : (V : Type 0) → RepliesDozingThroughout V
replies_dozing_throughout V h x calls quiet = dozing_throughout V h x (dozing h x) calls quiet (change_dozing h x Keep)
