-- A store beside a channel follows it.
use Rattle.std.proofs.Common.{◌≡◌, ◌≢◌, ◌⊎◌, ℕ, zero, suc, ◌+◌, ◌-◌, ◌<◌, ◌≤◌, Bool, true, false, cond, List, [], ◌∷◌, ◌++◌, length, map, drop}
use Rattle.std.proofs.Common.{refl, ap, sym, ◌∙◌, arith, subst, inl, inr}
use Rattle.std.specs.Prelude.{◌==◌, Option, Some, None, slice_get, slice_set, nat_lt, nat_le, ◌&&◌, count_by, ⊤}
use Rattle.std.proofs.lemmas.Bool.{ltb-true, ltb-false, lt-ltb, le-ltb, eqb-true, eqb-false, le-leb, leb-true}
use Rattle.rw_handles.specs.declared.kinds.Kind.{Kind}
use Rattle.rw_handles.specs.declared.kinds.Kind.TheVariants.{Sender, Receiver, Weak}
use Rattle.rw_handles.specs.declared.kinds.Slot.{Slot}
use Rattle.rw_handles.specs.declared.kinds.Slot.TheVariants.{Live, Spent}
use Rattle.rw_handles.specs.Slots.{alive}
use Rattle.rw_handles.specs.Slots.{lookup}
use Rattle.rw_handles.proofs.Checks.{of_checked}
use Rattle.std.proofs.lemmas.Option.{slice_get_within}
use Rattle.rw_broadcast.specs.declared.calls.BCall.{BCall}
use Rattle.rw_broadcast.specs.declared.calls.BCall.TheVariants.{Send, Subscribe, CloneSender, Resubscribe, TryRecv, Recv, DropHandle}
use Rattle.rw_broadcast.specs.declared.calls.BCall.TheVariants.{SenderLen, ReceiverCount, ReceiverLen, Downgrade, Upgrade, CloneWeak}
use Rattle.rw_broadcast.specs.declared.calls.BReply.{BReply}
use Rattle.rw_broadcast.specs.declared.calls.BReply.TheVariants.{Empty, Waits, TooManyHandles}
use Rattle.rw_broadcast.specs.Arithmetic.{lag}
use Rattle.rw_broadcast.specs.Channel.{receivers, is_closed, read, receive, effect_with, fault_reply, makes, wanted_kind, handle_of}
use Rattle.rw_broadcast.specs.Channel.{Change, Keep, Append, Make, Move, Leave, effect, oldest}
use Rattle.rw_broadcast.specs.Shown.{Shown, channel_of, with_change, IsAllowed}
use Rattle.rw_values.specs.Counts.{awaits}
use Rattle.rw_values.specs.Following.{kept_for, kept_from, kept_beside, kept_after, StoreFollows, HasWhatWasSent}
use Rattle.rw_values.specs.Stored.{sent_to, one_less, one_less_at, one_less_from, value_of}
use Rattle.rw_values.proofs.Counting.{IsMade, is_made, counts, many_set, late, all_await_the_next}

-- one receiver less
less_one : {V : Type 0} (now before : ℕ) (v : V) → now + 1 ≡ before → kept_for now v ≡ one_less (kept_for before v)
less_one {V} now before v is =
    let less : now ≡ before - 1 = omega (arith, is) in
    ap (λ r. record { receivers = r; value = cond (now == 0) None (Some v) }) less
    ∙ ap (λ o. record { receivers = before - 1; value = o })
    (by_tests (now == 0) (before == 1) (before == 0) (eqb-true now 0) (eqb-false now 0) (eqb-true before 1) (eqb-false before 1) (eqb-true before 0)) where
      by_tests : (c one none : Bool) → (c ≡ true → now ≡ 0) → (c ≡ false → now ≢ 0) → (one ≡ true → before ≡ 1) → (one ≡ false → before ≢ 1)
          → (none ≡ true → before ≡ 0) → cond c None (Some v) ≡ cond one None (cond none None (Some v))
      by_tests true true none _ _ _ _ _ = refl
      by_tests true false none zero_now _ _ other _ = absurd (other refl (omega (arith, zero_now refl, is)))
      by_tests false true none _ some_now one _ _ = absurd (some_now refl (omega (arith, one refl, is)))
      by_tests false false true _ _ _ _ never = absurd (omega (arith, never refl, is))
      by_tests false false false _ _ _ _ _ = refl

-- how many have yet to receive the value at a position
abbrev many : List (Slot ℕ) → ℕ → ℕ
many slots p = count_by (awaits p) slots

module _ {V : Type 0} (now before : List (Slot ℕ)) where
  -- where nobody has received anything
  pub same_kept : (p : ℕ) (vs : List V) → ((q : ℕ) → p ≤ q → q < p + length vs → many now q ≡ many before q) → kept_from now p vs ≡ kept_from before p vs
  same_kept p [] same = refl
  same_kept p (v ∷ vs) same =
      ap (λ m. kept_for m v ∷ kept_from now (p + 1) vs) (same p (omega arith) (omega arith))
      ∙ ap (λ l. kept_for (many before p) v ∷ l) (same_kept (p + 1) vs (λ q low high. same q (omega (arith, low)) (omega (arith, high))))

  -- where one receiver has received one value
  pub one_kept : (p i : ℕ) (vs : List V) → i < length vs → many now (p + i) + 1 ≡ many before (p + i)
      → ((q : ℕ) → p ≤ q → q < p + length vs → q ≢ p + i → many now q ≡ many before q)
      → kept_from now p vs ≡ one_less_at (kept_from before p vs) i
  one_kept p i [] within one other = absurd (omega (arith, within))
  one_kept p zero (v ∷ vs) within one other =
      let here : p + 0 ≡ p = omega arith in
      ap (λ k. k ∷ kept_from now (p + 1) vs) (less_one (many now p) (many before p) v (subst (λ m. many now m + 1 ≡ many before m) here one))
      ∙ ap (λ l. one_less (kept_for (many before p) v) ∷ l)
      (same_kept (p + 1) vs (λ q low high. other q (omega (arith, low)) (omega (arith, high)) (λ is. omega (arith, is, low))))
  one_kept p (suc i) (v ∷ vs) within one other =
      let there : p + suc i ≡ p + 1 + i = omega arith in
      ap (λ m. kept_for m v ∷ kept_from now (p + 1) vs) (other p (omega arith) (omega arith) (λ is. omega (arith, is)))
      ∙ ap (λ l. kept_for (many before p) v ∷ l)
      (one_kept (p + 1) i vs (omega (arith, within)) (subst (λ m. many now m + 1 ≡ many before m) there one)
      (λ q low high apart. other q (omega (arith, low)) (omega (arith, high)) (λ is. apart (omega (arith, is)))))

  -- where one receiver is gone that had all of them to receive
  pub all_less : (p : ℕ) (vs : List V) → ((q : ℕ) → p ≤ q → q < p + length vs → many now q + 1 ≡ many before q)
      → kept_from now p vs ≡ map one_less (kept_from before p vs)
  all_less p [] less = refl
  all_less p (v ∷ vs) less =
      ap (λ k. k ∷ kept_from now (p + 1) vs) (less_one (many now p) (many before p) v (less p (omega arith) (omega arith)))
      ∙ ap (λ l. one_less (kept_for (many before p) v) ∷ l) (all_less (p + 1) vs (λ q low high. less q (omega (arith, low)) (omega (arith, high))))

  -- and where it had those to receive that are not among the oldest
  pub some_less : (p older : ℕ) (vs : List V)
      → ((q : ℕ) → p ≤ q → q < p + length vs → q < p + older → many now q ≡ many before q)
      → ((q : ℕ) → p ≤ q → q < p + length vs → p + older ≤ q → many now q + 1 ≡ many before q)
      → kept_from now p vs ≡ one_less_from (kept_from before p vs) older
  some_less p zero vs same less = all_less p vs (λ q low high. less q low high (omega (arith, low)))
  some_less p (suc older) [] same less = refl
  some_less p (suc older) (v ∷ vs) same less =
      ap (λ m. kept_for m v ∷ kept_from now (p + 1) vs) (same p (omega arith) (omega arith) (omega arith))
      ∙ ap (λ l. kept_for (many before p) v ∷ l)
      (some_less (p + 1) older vs (λ q low high early. same q (omega (arith, low)) (omega (arith, high)) (omega (arith, early)))
      (λ q low high late. less q (omega (arith, low)) (omega (arith, high)) (omega (arith, late))))

-- values that are sent later come behind
pub kept_append : {V : Type 0} (slots : List (Slot ℕ)) (p : ℕ) (vs : List V) (v : V)
    → kept_from slots p (vs ++ v ∷ []) ≡ kept_from slots p vs ++ kept_for (many slots (p + length vs)) v ∷ []
kept_append slots p [] v = ap (λ q. kept_for (many slots q) v ∷ []) here where
  here : p ≡ p + 0
  here = omega arith
kept_append slots p (w ∷ vs) v =
    let there : p + 1 + length vs ≡ p + length (w ∷ vs) = omega arith in
    ap (λ l. kept_for (many slots p) w ∷ l)
    (kept_append slots (p + 1) vs v ∙ ap (λ q. kept_from slots (p + 1) vs ++ kept_for (many slots q) v ∷ []) there)

length_kept : {V : Type 0} (slots : List (Slot ℕ)) (p : ℕ) (vs : List V) → length (kept_from slots p vs) ≡ length vs
length_kept slots p [] = refl
length_kept slots p (v ∷ vs) = ap suc (length_kept slots (p + 1) vs)

-- the value that comes after this many older ones
kept_get : {V : Type 0} (slots : List (Slot ℕ)) (p i : ℕ) (vs : List V) (v : V) → slice_get vs i ≡ Some v
    → slice_get (kept_from slots p vs) i ≡ Some (kept_for (many slots (p + i)) v)
kept_get slots p i [] v is = cc
kept_get slots p zero (w ∷ vs) v is =
    let here : p ≡ p + 0 = omega arith in
    let same : w ≡ v = cc in
    ap (λ u. Some (kept_for (many slots p) u)) same ∙ ap (λ q. Some (kept_for (many slots q) v)) here
kept_get slots p (suc i) (w ∷ vs) v is =
    let there : p + 1 + i ≡ p + suc i = omega arith in
    kept_get slots (p + 1) i vs v is ∙ ap (λ q. Some (kept_for (many slots q) v)) there

not_zero : (n : ℕ) (b : Bool) → (b ≡ true → n ≡ 0) → 0 < n → b ≡ false
not_zero n true is some = absurd (omega (arith, is refl, some))
not_zero n false is some = refl

-- a value that was just sent
newest : {V : Type 0} (n receivers : ℕ) (v : V) → n ≡ receivers → 0 < receivers → kept_for n v ≡ sent_to receivers v
newest n receivers v is some =
    ap (λ m. kept_for m v) is
    ∙ ap (λ b. record { receivers = receivers; value = cond b None (Some v) }) (not_zero receivers (receivers == 0) (eqb-true receivers 0) some)

-- a receiver at a position has the value there to receive
awaits_here : (slots : List (Slot ℕ)) (h p : ℕ) → slice_get slots h ≡ Some (Live Receiver p) → 0 < many slots p
awaits_here slots h p at =
    omega (arith, many_set p slots h (Live Receiver p) Spent at, ap {B = ℕ} (λ b. cond b 1 0) (le-leb p p (omega arith)))

pub has_what_was_sent : (V : Type 0) → HasWhatWasSent V
has_what_was_sent V x h p v at value kept =
    let base = oldest (channel_of x) in
    let there : base + (p - base) ≡ p = omega arith in
    let some : 0 < many x.slots (base + (p - base)) = subst (λ q. 0 < many x.slots q) (sym there) (awaits_here x.slots h p at) in
    ap value_of (kept_get x.slots base (p - base) x.window v value)
    ∙ ap (λ b. cond b None (Some v))
    (not_zero (many x.slots (base + (p - base))) (many x.slots (base + (p - base)) == 0) (eqb-true (many x.slots (base + (p - base))) 0) some)

-- which positions a move serves, and a drop
unread_at : (q p : ℕ) → q ≤ p → ◌≡◌ {A = ℕ} (cond (nat_le q p) 1 0) 1
unread_at q p low = ap {B = ℕ} (λ b. cond b 1 0) (le-leb q p low)

served_at : (from to p : ℕ) → from ≤ p → p < to → ◌≡◌ {A = ℕ} (cond (nat_le from p && nat_lt p to) 1 0) 1
served_at from to p low high =
    ap {B = ℕ} (λ b. cond (b && nat_lt p to) 1 0) (le-leb from p low) ∙ ap {B = ℕ} (λ b. cond b 1 0) (lt-ltb p to high)

served_not : (from to p : ℕ) → (from ≤ p → p < to → ⊥) → ◌≡◌ {A = ℕ} (cond (nat_le from p && nat_lt p to) 1 0) 0
served_not from to p never = by_tests (nat_le from p) (nat_lt p to) (leb-true from p) (ltb-true p to) where
  by_tests : (a b : Bool) → (a ≡ true → from ≤ p) → (b ≡ true → p < to) → ◌≡◌ {A = ℕ} (cond (a && b) 1 0) 0
  by_tests true true low high = absurd (never (low refl) (high refl))
  by_tests true false low high = refl
  by_tests false b low high = refl

-- one more value, where there is room or the oldest is overwritten
appended : {V : Type 0} (b : Bool) (slots : List (Slot ℕ)) (p now sent receivers : ℕ) (w : List V) (v : V)
    → (b ≡ true → (now ≡ p) × (p + length w ≡ sent)) → (b ≡ false → (now ≡ p + 1) × (p + length w ≡ sent) × (0 < length w))
    → many slots sent ≡ receivers → 0 < receivers
    → kept_from slots now (cond b (w ++ v ∷ []) (drop 1 w ++ v ∷ []))
    ≡ cond b (kept_from slots p w ++ sent_to receivers v ∷ []) (drop 1 (kept_from slots p w) ++ sent_to receivers v ∷ [])
appended true slots p now sent receivers w v room full all some =
    ap (λ q. kept_from slots q (w ++ v ∷ [])) (room refl).0
    ∙ (kept_append slots p w v
    ∙ ap (λ k. kept_from slots p w ++ k ∷ []) (ap (λ q. kept_for (many slots q) v) (room refl).1 ∙ newest (many slots sent) receivers v all some))
appended false slots p now sent receivers [] v room full all some = absurd (omega (arith, (full refl).2))
appended false slots p now sent receivers (y ∷ ys) v room full all some =
    let end : p + 1 + length ys ≡ sent = omega (arith, (full refl).1) in
    ap (λ q. kept_from slots q (ys ++ v ∷ [])) (full refl).0
    ∙ (kept_append slots (p + 1) ys v
    ∙ ap (λ k. kept_from slots (p + 1) ys ++ k ∷ []) (ap (λ q. kept_for (many slots q) v) end ∙ newest (many slots sent) receivers v all some))

-- what a change of a call is, besides what is made: a value that is sent has receivers, and a receiver moves by one value that is retained,
-- or to the oldest one that is
IsCalled : {V : Type 0} → Shown V → Change V → Type 0
IsCalled x Keep = ⊤
IsCalled x (Append v) = 0 < alive Receiver x.slots
IsCalled x (Make kind q) = ⊤
IsCalled x (Move g from to) =
    ((to ≡ from + 1) × (oldest (channel_of x) ≤ from) × (from - oldest (channel_of x) < length x.window))
    ⊎ ((from < oldest (channel_of x)) × (to ≡ oldest (channel_of x)))
IsCalled x (Leave g kind q) = ⊤

module _ {V : Type 0} (x : Shown V) where
  abbrev base : ℕ
  base = oldest (channel_of x)

  called_if : (b : Bool) (one two : Change V × BReply V) → (b ≡ true → IsCalled x one.0) → (b ≡ false → IsCalled x two.0) → IsCalled x (cond b one two).0
  called_if true one two first second = first refl
  called_if false one two first second = second refl

  called_read : (h p : ℕ) (o : Option V) (nothing : BReply V) → slice_get x.window (p - base) ≡ o → base ≤ p → IsCalled x (read (channel_of x) h p o nothing).0
  unfolding IsCalled
  called_read h p (Some v) nothing is kept = inl (refl, kept, slice_get_within x.window (p - base) v is)
  called_read h p None nothing is kept = tt

  called_receive : (h p : ℕ) (nothing : BReply V) → IsCalled x (receive (channel_of x) h p nothing).0
  unfolding IsCalled
  called_receive h p nothing =
      called_if (nat_lt 0 (lag base p)) _ _
      (λ behind. inr (omega (arith, ltb-true 0 (lag base p) behind), refl))
      (λ ahead. called_read h p _ nothing refl (omega (arith, ltb-false 0 (lag base p) ahead)))

  called_with : (call : BCall V) (kind : Kind) (p : ℕ) → IsCalled x (effect_with (channel_of x) call kind p).0
  unfolding IsCalled
  called_with (Send g v) kind p = called_if (receivers (channel_of x) == 0) _ _ (λ _. tt)
      (λ some. positive (alive Receiver x.slots) (eqb-false (alive Receiver x.slots) 0 some)) where
        positive : (n : ℕ) → n ≢ 0 → 0 < n
        positive n other = omega (arith, other)
  called_with (Subscribe g) kind p = tt
  called_with (CloneSender g) kind p = tt
  called_with (Resubscribe g) kind p = tt
  called_with (TryRecv g) kind p = called_receive g p Empty
  called_with (Recv g) kind p = called_receive g p Waits
  called_with (DropHandle g) kind p = tt
  called_with (SenderLen g) kind p = tt
  called_with (ReceiverCount g) kind p = tt
  called_with (ReceiverLen g) kind p = tt
  called_with (Downgrade g) kind p = tt
  called_with (Upgrade g) kind p = called_if (is_closed (channel_of x)) _ _ (λ _. tt) (λ _. tt)
  called_with (CloneWeak g) kind p = tt

  is_called : (call : BCall V) → IsCalled x (effect (channel_of x) call).0
  unfolding IsCalled
  is_called call =
      of_checked (λ e. IsCalled x e.0) (λ fault. (Keep, fault_reply fault)) (Keep, TooManyHandles) (makes call) (length x.slots)
      (effect_with (channel_of x) call)
      (lookup (wanted_kind call) x.slots (handle_of call))
      (λ fault. tt)
      tt
      (λ kind p is few. called_with call kind p)

  -- one change
  follow : (c : Change V) → IsAllowed x → IsMade x c → IsCalled x c → kept_beside (with_change x c) ≡ kept_after x c (kept_beside x)
  unfolding IsCalled IsMade
  follow Keep ok made called = refl
  follow (Make kind q) ok made called = same_kept (x.slots ++ Live kind q ∷ []) x.slots base x.window
      (λ p low high. (let less : p < x.sent = omega (arith, high, ok.retained) in omega (arith, counts p x (Make kind q) less made)))
  follow (Leave g Sender q) ok made called = same_kept (slice_set x.slots g Spent) x.slots base x.window
      (λ p low high. (let less : p < x.sent = omega (arith, high, ok.retained) in omega (arith, counts p x (Leave g Sender q) less made)))
  follow (Leave g Weak q) ok made called = same_kept (slice_set x.slots g Spent) x.slots base x.window
      (λ p low high. (let less : p < x.sent = omega (arith, high, ok.retained) in omega (arith, counts p x (Leave g Weak q) less made)))
  follow (Leave g Receiver q) ok made called =
      let left = slice_set x.slots g Spent in
      let counted = λ (p : ℕ) (low : base ≤ p) (high : p < base + length x.window).
      (let less : p < x.sent = omega (arith, high, ok.retained) in counts p x (Leave g Receiver q) less made) in
      let older = length x.window - (x.sent - q) in
      some_less left x.slots base older x.window
      (λ p low high early. omega (arith, counted p low high, late p q (omega (arith, low, high, early, ok.retained))))
      (λ p low high from. omega (arith, counted p low high, unread_at q p (omega (arith, low, high, from, ok.retained))))
      ∙ ap (λ n. one_less_from (kept_beside x) (n - (x.sent - q))) (sym (length_kept x.slots base x.window))
  follow (Move g from to) ok made (inl called) =
      let moved = slice_set x.slots g (Live Receiver to) in
      let counted = λ (p : ℕ) (low : base ≤ p) (high : p < base + length x.window).
      (let less : p < x.sent = omega (arith, high, ok.retained) in counts p x (Move g from to) less made) in
      let here : base + (from - base) ≡ from = omega (arith, called.1) in
      one_kept moved x.slots base (from - base) x.window called.2
      (subst (λ p. many moved p + 1 ≡ many x.slots p) (sym here)
      (omega (arith, counted from called.1 (omega (arith, called.1, called.2)), served_at from to from (omega arith) (omega (arith, called.0)))))
      (λ p low high other. omega (
        arith,
        counted p low high,
        served_not from to p (λ above below. other (omega (arith, above, below, called.0, here))),
      ))
      ∙ sym (ap (λ b. cond b (kept_beside x) (one_less_at (kept_beside x) (from - base))) (le-ltb from base called.1))
  follow (Move g from to) ok made (inr called) =
      let moved = slice_set x.slots g (Live Receiver to) in
      same_kept moved x.slots base x.window
      (λ p low high.
      (let less : p < x.sent = omega (arith, high, ok.retained) in
      omega (arith, counts p x (Move g from to) less made, served_not from to p (λ above below. omega (arith, above, below, low, called.1)))))
      ∙ sym (ap (λ b. cond b (kept_beside x) (one_less_at (kept_beside x) (from - base))) (lt-ltb from base called.0))
  follow (Append v) ok made called =
      let b = nat_lt (length x.window) x.capacity in
      appended b x.slots base (x.sent + 1 - x.capacity) x.sent (alive Receiver x.slots) x.window v
      (λ room. (
        omega (arith, ltb-true (length x.window) x.capacity room, ok.retained),
        omega (arith, ltb-true (length x.window) x.capacity room, ok.retained),
      ))
      (λ full. (
        omega (arith, ltb-false (length x.window) x.capacity full, ok.retained),
        omega (arith, ltb-false (length x.window) x.capacity full, ok.retained),
        omega (arith, ltb-false (length x.window) x.capacity full, ok.some_capacity),
      ))
      (all_await_the_next V x ok) called
      ∙ ap (λ n. cond (nat_lt n x.capacity) (kept_beside x ++ sent_to (alive Receiver x.slots) v ∷ [])
      (drop 1 (kept_beside x) ++ sent_to (alive Receiver x.slots) v ∷ [])) (sym (length_kept x.slots base x.window))

pub store_follows : (V : Type 0) → StoreFollows V
store_follows V x call ok = follow x (effect (channel_of x) call).0 ok (is_made x call) (is_called x call)
