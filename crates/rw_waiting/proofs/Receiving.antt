-- Who waits for a value of a broadcast, before and after a step.
use Rattle.std.proofs.Common.{◌≡◌, ℕ, zero, suc, ◌+◌, ◌-◌, ◌<◌, ◌≤◌, Bool, true, false, cond, List, [], ◌∷◌, length, set}
use Rattle.std.proofs.Common.{refl, ap, sym, ◌∙◌, subst, arith}
use Rattle.std.specs.Prelude.{Option, Some, None, slice_get, nat_lt, ◌==◌, ⊤}
use Rattle.std.proofs.lemmas.Bool.{ltb-true, ltb-false, eqb-true}
use Rattle.std.proofs.lemmas.Option.{slice_get_within, slice_get_past}
use Rattle.rw_handles.specs.declared.kinds.Kind.{Kind}
use Rattle.rw_handles.specs.declared.kinds.Kind.TheVariants.{Sender, Receiver, Weak}
use Rattle.rw_handles.specs.declared.kinds.Slot.{Slot}
use Rattle.rw_handles.specs.declared.kinds.Slot.TheVariants.{Live, Spent}
use Rattle.rw_handles.specs.declared.kinds.Found.TheVariants.{Handle}
use Rattle.rw_handles.specs.Slots.{lookup, lookup_at, alive}
use Rattle.rw_handles.proofs.Checks.{of_checked}
use Rattle.rw_handles.proofs.Renaming.{get_push_first, get_set_other, live_fewer}
use Rattle.rw_handles.proofs.SlotLaws.{All-slice_get, found_at_is, found_at_wanted}
use Rattle.rw_handles.proofs.Tallies.{alive-set, alive-push}
use Rattle.rw_broadcast.specs.declared.calls.BCall.{BCall}
use Rattle.rw_broadcast.specs.declared.calls.BCall.TheVariants.{Send, Subscribe, CloneSender, Resubscribe, TryRecv, Recv, DropHandle}
use Rattle.rw_broadcast.specs.declared.calls.BCall.TheVariants.{SenderLen, ReceiverCount, ReceiverLen, Downgrade, Upgrade, CloneWeak}
use Rattle.rw_broadcast.specs.declared.calls.BReply.{BReply}
use Rattle.rw_broadcast.specs.declared.calls.BReply.TheVariants.{Lagged, Empty, Closed, Waits, Count, TooManyHandles}
use Rattle.rw_broadcast.specs.Arithmetic.{lag}
use Rattle.rw_broadcast.specs.Channel.{Channel, Change, Keep, Append, Make, Move, Leave, handle_of, wanted_kind, makes}
use Rattle.rw_broadcast.specs.Channel.{fault_reply, is_closed, oldest, receivers, read, receive, effect_with, effect_found, effect}
use Rattle.rw_broadcast.specs.Shown.{Shown, channel_of, with_change, patch_for, patch_of_send, next, IsPlaced, IsAllowed}
use Rattle.rw_ring.specs.Windows.{eviction}
use Rattle.rw_broadcast.specs.Soundness.{broadcast_laws}
use Rattle.rw_waiting.specs.declared.notices.WaitFor.{WaitFor}
use Rattle.rw_waiting.specs.declared.notices.WaitFor.TheVariants as wait
use Rattle.rw_waiting.specs.Broadcasts.{told, told_by, told_after, Drops, renumbered, of_broadcast, IsToldByPatch, RenumbersSo}
use Rattle.rw_waiting.specs.Broadcasts.{Waits as WaitsFor}
use Rattle.rw_waiting.specs.Waitable.{WaitLaws}
use Rattle.rw_waiting.specs.Renumbered.{number_among}
use Rattle.rw_waiting.proofs.Renumbering.{found_live, has_numbers, alive_live, all_live}
use Rattle.rw_waiting.proofs.Counting.{some_of, not_none, still_alive, if_is, if_so, if_else, one_less}

abbrev WaitsForValue : {V : Type 0} → Shown V → ℕ → Type 0
WaitsForValue x h = WaitsFor x wait.Value h

abbrev WaitsForNoReceiver : {V : Type 0} → Shown V → ℕ → Type 0
WaitsForNoReceiver x h = WaitsFor x wait.NoReceiver h

-- whether a change tells those who wait for a value, and those who wait for no receiver
abbrev tells_value : {V : Type 0} → Channel V → Change V → Bool
tells_value c (Append v) = true
tells_value c (Leave h Sender position) = alive Sender c.slots == 1
tells_value c _ = false

abbrev tells_no_receiver : {V : Type 0} → Channel V → Change V → Bool
tells_no_receiver c (Leave h Receiver position) = alive Receiver c.slots == 1
tells_no_receiver c _ = false

module _ {V : Type 0} (c : Channel V) where
  value_quiet : (ch : Change V) → (told c ch ≡ Some wait.Value → ⊥) → tells_value c ch ≡ false
  value_quiet (Append v) untold = absurd (untold refl)
  value_quiet (Leave h Sender p) untold = if_is (alive Sender c.slots == 1) wait.Value untold
  value_quiet (Leave h Receiver p) untold = refl
  value_quiet (Leave h Weak p) untold = refl
  value_quiet _ untold = refl

  value_told : (ch : Change V) → told c ch ≡ Some wait.Value → tells_value c ch ≡ true
  value_told (Append v) is = refl
  value_told (Leave h Sender p) is = if_so (alive Sender c.slots == 1) wait.Value is
  value_told (Leave h Receiver p) is = absurd (if_else (alive Receiver c.slots == 1) wait.NoReceiver wait.Value (λ e. cc) is)
  value_told (Leave h Weak p) is = absurd cc
  value_told Keep is = absurd cc
  value_told (Make kind p) is = absurd cc
  value_told (Move g from to) is = absurd cc

  none_quiet : (ch : Change V) → (told c ch ≡ Some wait.NoReceiver → ⊥) → tells_no_receiver c ch ≡ false
  none_quiet (Leave h Receiver p) untold = if_is (alive Receiver c.slots == 1) wait.NoReceiver untold
  none_quiet (Leave h Sender p) untold = refl
  none_quiet (Leave h Weak p) untold = refl
  none_quiet _ untold = refl

  none_told : (ch : Change V) → told c ch ≡ Some wait.NoReceiver → tells_no_receiver c ch ≡ true
  none_told (Append v) is = absurd cc
  none_told (Leave h Receiver p) is = if_so (alive Receiver c.slots == 1) wait.NoReceiver is
  none_told (Leave h Sender p) is = absurd (if_else (alive Sender c.slots == 1) wait.Value wait.NoReceiver (λ e. cc) is)
  none_told (Leave h Weak p) is = absurd cc
  none_told Keep is = absurd cc
  none_told (Make kind p) is = absurd cc
  none_told (Move g from to) is = absurd cc

-- receiver h has received all that was sent, and a sender is alive
record IsAtEnd {V : Type 0} (x : Shown V) (h : ℕ) : Type 0 where
  pub here : slice_get x.slots h ≡ Some (Live Receiver x.sent)
  pub «open» : is_closed (channel_of x) ≡ false

-- what the reply to a receive tells
read_waits : {V : Type 0} (c : Channel V) (h p : ℕ) (o : Option V) → (read c h p o Waits).1 ≡ Waits → (o ≡ None) × (is_closed c ≡ false)
read_waits c h p (Some v) is = absurd cc
read_waits c h p None is = (refl, by_closed (is_closed c) is) where
  by_closed : {V : Type 0} (b : Bool) → ◌≡◌ {A = BReply V} (cond b Closed Waits) Waits → b ≡ false
  by_closed true is = absurd cc
  by_closed false is = refl

receive_waits : {V : Type 0} (c : Channel V) (h p : ℕ) → (receive c h p Waits).1 ≡ Waits
    → (lag (oldest c) p ≡ 0) × (c.value p ≡ None) × (is_closed c ≡ false)
receive_waits {V} c h p is = by_lag (nat_lt 0 (lag (oldest c) p)) (ltb-false 0 (lag (oldest c) p)) is where
  by_lag : (b : Bool) → (b ≡ false → lag (oldest c) p ≤ 0)
      → (cond b (Move h p (oldest c), Lagged (lag (oldest c) p)) (read c h p (c.value p) Waits)).1 ≡ Waits
      → (lag (oldest c) p ≡ 0) × (c.value p ≡ None) × (is_closed c ≡ false)
  by_lag true none is = absurd cc
  by_lag false none is = let r = read_waits c h p (c.value p) is in (omega (arith, none refl), r.0, r.1)

found_waits : {V : Type 0} (c : Channel V) (h : ℕ) (o : Option (Slot ℕ))
    → (effect_found c (Recv h) (lookup_at (Some Receiver) o)).1 ≡ Waits
    → (p : ℕ) × (o ≡ Some (Live Receiver p)) × (lag (oldest c) p ≡ 0) × (c.value p ≡ None) × (is_closed c ≡ false)
found_waits c h None is = absurd cc
found_waits c h (Some Spent) is = absurd cc
found_waits c h (Some (Live Sender p)) is = absurd cc
found_waits c h (Some (Live Weak p)) is = absurd cc
found_waits c h (Some (Live Receiver p)) is = let r = receive_waits c h p is in (p, refl, r.0, r.1, r.2)

past_all : {A : Type 0} (xs : List A) (i : ℕ) → slice_get xs i ≡ None → length xs ≤ i
past_all [] i is = omega arith
past_all (x ∷ xs) zero is = absurd cc
past_all (x ∷ xs) (suc i) is = omega (arith, past_all xs i is)

at_end : {V : Type 0} (x : Shown V) (h : ℕ) → IsAllowed x → WaitsForValue x h → IsAtEnd x h
at_end x h ok is =
    let r = found_waits (channel_of x) h (slice_get x.slots h) is in
    let past = past_all x.window (r.0 - oldest (channel_of x)) r.3 in
    let placed : r.0 ≤ x.sent = All-slice_get (IsPlaced x.sent) x.slots h (Live Receiver r.0) r.1 ok.placed in
    let last : r.0 ≡ x.sent = omega (arith, past, r.2, ok.retained, placed) in
    record { here = r.1 ∙ ap (λ p. Some (Live Receiver p)) last; «open» = r.4 }

read_at_end : {V : Type 0} (c : Channel V) (h p : ℕ) → is_closed c ≡ false → (o : Option V) → o ≡ None → (read c h p o Waits).1 ≡ Waits
read_at_end c h p «open» (Some v) none = absurd cc
read_at_end c h p «open» None none = ap (λ b. cond b Closed Waits) «open»

receive_at_end : {V : Type 0} (c : Channel V) (h p : ℕ) → is_closed c ≡ false → lag (oldest c) p ≡ 0 → c.value p ≡ None
    → (receive c h p Waits).1 ≡ Waits
receive_at_end c h p «open» no_lag none = by_lag (nat_lt 0 (lag (oldest c) p)) (ltb-true 0 (lag (oldest c) p)) where
  by_lag : (b : Bool) → (b ≡ true → 0 < lag (oldest c) p)
      → (cond b (Move h p (oldest c), Lagged (lag (oldest c) p)) (read c h p (c.value p) Waits)).1 ≡ Waits
  by_lag true some = absurd (omega (arith, some refl, no_lag))
  by_lag false some = read_at_end c h p «open» (c.value p) none

waits_at_end : {V : Type 0} (x : Shown V) (h : ℕ) → IsAllowed x → IsAtEnd x h → WaitsForValue x h
waits_at_end x h ok e =
    let none : slice_get x.window (x.sent - oldest (channel_of x)) ≡ None =
    slice_get_past x.window (x.sent - oldest (channel_of x)) (omega (arith, ok.retained)) in
    let found : lookup (Some Receiver) x.slots h ≡ Handle Receiver x.sent = ap (lookup_at (Some Receiver)) e.here in
    ap (λ f. (effect_found (channel_of x) (Recv h) f).1) found
    ∙ receive_at_end (channel_of x) h x.sent e.«open» (omega arith) none

-- ---- the change that a call makes

-- it moves or drops only the handle that the call is made with, which is there; and only DropHandle drops it
IsMadeBy : {V : Type 0} → Shown V → BCall V → Change V → Type 0
IsMadeBy x call Keep = ⊤
IsMadeBy x call (Append v) = ⊤
IsMadeBy x call (Make kind p) = ⊤
IsMadeBy x call (Move g from to) = (g ≡ handle_of call) × (slice_get x.slots g ≡ Some (Live Receiver from))
IsMadeBy x call (Leave g kind p) = (g ≡ handle_of call) × (slice_get x.slots g ≡ Some (Live kind p)) × Drops call g

module _ {V : Type 0} (x : Shown V) (call : BCall V) where
  abbrev Made : Change V × BReply V → Type 0
  Made e = IsMadeBy x call e.0

  by_if : (b : Bool) (one two : Change V × BReply V) → Made one → Made two → Made (cond b one two)
  by_if true one two first second = first
  by_if false one two first second = second

  by_read : (p : ℕ) (o : Option V) (nothing : BReply V) → slice_get x.slots (handle_of call) ≡ Some (Live Receiver p)
      → Made (read (channel_of x) (handle_of call) p o nothing)
  unfolding IsMadeBy
  by_read p (Some v) nothing there = (refl, there)
  by_read p None nothing there = tt

  by_receive : (p : ℕ) (nothing : BReply V) → slice_get x.slots (handle_of call) ≡ Some (Live Receiver p)
      → Made (receive (channel_of x) (handle_of call) p nothing)
  unfolding IsMadeBy
  by_receive p nothing there =
      by_if (nat_lt 0 (lag (oldest (channel_of x)) p)) _ _ (refl, there) (by_read p _ nothing there)

by_call : {V : Type 0} (x : Shown V) (call : BCall V) (kind : Kind) (p : ℕ) → lookup (wanted_kind call) x.slots (handle_of call) ≡ Handle kind p
    → IsMadeBy x call (effect_with (channel_of x) call kind p).0
unfolding IsMadeBy
by_call x (Send g v) kind p is = by_if x (Send g v) (receivers (channel_of x) == 0) _ _ tt tt
by_call x (Subscribe g) kind p is = tt
by_call x (CloneSender g) kind p is = tt
by_call x (Resubscribe g) kind p is = tt
by_call x (TryRecv g) kind p is = by_receive x (TryRecv g) p Empty (found_at_wanted Receiver _ kind p is)
by_call x (Recv g) kind p is = by_receive x (Recv g) p Waits (found_at_wanted Receiver _ kind p is)
by_call x (DropHandle g) kind p is = (refl, found_at_is None _ kind p is, refl)
by_call x (SenderLen g) kind p is = tt
by_call x (ReceiverCount g) kind p is = tt
by_call x (ReceiverLen g) kind p is = tt
by_call x (Downgrade g) kind p is = tt
by_call x (Upgrade g) kind p is = by_if x (Upgrade g) (is_closed (channel_of x)) _ _ tt tt
by_call x (CloneWeak g) kind p is = tt

is_made_by : {V : Type 0} (x : Shown V) (call : BCall V) → IsMadeBy x call (effect (channel_of x) call).0
unfolding IsMadeBy
is_made_by x call =
    of_checked (λ e. IsMadeBy x call e.0) (λ fault. (Keep, fault_reply fault)) (Keep, TooManyHandles) (makes call) (length x.slots)
    (effect_with (channel_of x) call)
    (lookup (wanted_kind call) x.slots (handle_of call))
    (λ fault. tt)
    tt
    (λ kind p is few. by_call x call kind p is)

-- a receiver moves only if it has something to receive
abbrev IsBehind : {V : Type 0} → Shown V → Change V → Type 0
IsBehind x (Move g from to) = from ≡ x.sent → ⊥
IsBehind x _ = Unit {0}

module _ {V : Type 0} (x : Shown V) (ok : IsAllowed x) where
  behind_if : (b : Bool) (one two : Change V × BReply V) → IsBehind x one.0 → IsBehind x two.0 → IsBehind x (cond b one two).0
  behind_if true one two first second = first
  behind_if false one two first second = second

  behind_read : (h p : ℕ) (o : Option V) (nothing : BReply V) → (channel_of x).value p ≡ o → IsBehind x (read (channel_of x) h p o nothing).0
  behind_read h p (Some v) nothing is = λ same.
      let none : (channel_of x).value p ≡ None = slice_get_past x.window (p - oldest (channel_of x)) (omega (arith, ok.retained, same)) in
      let clash : ◌≡◌ {A = Option V} None (Some v) = sym none ∙ is in
      absurd cc
  behind_read h p None nothing is = tt

  behind_receive : (h p : ℕ) (nothing : BReply V) → IsBehind x (receive (channel_of x) h p nothing).0
  behind_receive h p nothing =
      by_lag (nat_lt 0 (lag (oldest (channel_of x)) p)) (ltb-true 0 (lag (oldest (channel_of x)) p))
      (behind_read h p ((channel_of x).value p) nothing refl) where
        by_lag : (b : Bool) → (b ≡ true → 0 < lag (oldest (channel_of x)) p)
            → IsBehind x (read (channel_of x) h p ((channel_of x).value p) nothing).0
            → IsBehind x (cond b (Move h p (oldest (channel_of x)), Lagged (lag (oldest (channel_of x)) p))
            (read (channel_of x) h p ((channel_of x).value p) nothing)).0
        by_lag true some rest = λ same. omega (arith, some refl, same)
        by_lag false some rest = rest

  behind_call : (call : BCall V) (kind : Kind) (p : ℕ) → IsBehind x (effect_with (channel_of x) call kind p).0
  behind_call (Send g v) kind p = behind_if (receivers (channel_of x) == 0) _ _ tt tt
  behind_call (Subscribe g) kind p = tt
  behind_call (CloneSender g) kind p = tt
  behind_call (Resubscribe g) kind p = tt
  behind_call (TryRecv g) kind p = behind_receive g p Empty
  behind_call (Recv g) kind p = behind_receive g p Waits
  behind_call (DropHandle g) kind p = tt
  behind_call (SenderLen g) kind p = tt
  behind_call (ReceiverCount g) kind p = tt
  behind_call (ReceiverLen g) kind p = tt
  behind_call (Downgrade g) kind p = tt
  behind_call (Upgrade g) kind p = behind_if (is_closed (channel_of x)) _ _ tt tt
  behind_call (CloneWeak g) kind p = tt

  is_behind : (call : BCall V) → IsBehind x (effect (channel_of x) call).0
  is_behind call =
      of_checked (λ e. IsBehind x e.0) (λ fault. (Keep, fault_reply fault)) (Keep, TooManyHandles) (makes call) (length x.slots)
      (effect_with (channel_of x) call)
      (lookup (wanted_kind call) x.slots (handle_of call))
      (λ fault. tt)
      tt
      (λ kind p is few. behind_call call kind p)

-- ---- who waits for a value

-- a handle of this kind stays alive, unless its last one is dropped
still_some : {V : Type 0} (k : Kind) (x : Shown V) (call : BCall V) (c : Change V) → ((g : ℕ) (p : ℕ) → c ≡ Leave g k p → (alive k x.slots == 1) ≡ false)
    → 0 < alive k x.slots → IsMadeBy x call c → 0 < alive k (with_change x c).slots
unfolding IsMadeBy
still_some k x call Keep more some made = some
still_some k x call (Append v) more some made = some
still_some k x call (Make kind p) more some made = omega (arith, alive-push k x.slots (Live kind p), some)
still_some k x call (Move g from to) more some made = omega (arith, alive-set k x.slots g (Live Receiver from) (Live Receiver to) made.1, some)
still_some k x call (Leave g kind p) more some made =
    still_alive k kind x.slots g p made.1 (λ same. more g p (ap (λ one. Leave g one p) same)) some

still_open : {V : Type 0} (x : Shown V) (call : BCall V) (c : Change V) → 0 < alive Sender x.slots → IsMadeBy x call c
    → tells_value (channel_of x) c ≡ false → 0 < alive Sender (with_change x c).slots
still_open x call c some made quiet = still_some Sender x call c (λ g p is. sym (ap (tells_value (channel_of x)) is) ∙ quiet) some made

-- a receiver at the end stays there, unless the call drops it
stays : {V : Type 0} (x : Shown V) (call : BCall V) (c : Change V) (h : ℕ) → (Drops call h → ⊥) → IsMadeBy x call c → IsBehind x c
    → slice_get x.slots h ≡ Some (Live Receiver x.sent) → slice_get (with_change x c).slots h ≡ Some (Live Receiver x.sent)
unfolding IsMadeBy
stays x call Keep h kept made behind here = here
stays x call (Append v) h kept made behind here = here
stays x call (Make kind p) h kept made behind here =
    get_push_first x.slots (Live kind p) h (slice_get_within x.slots h (Live Receiver x.sent) here) ∙ here
stays x call (Move g from to) h kept made behind here =
    get_set_other x.slots g h (Live Receiver to)
    (λ one.
    let same : ◌≡◌ {A = Option (Slot ℕ)} (Some (Live Receiver x.sent)) (Some (Live Receiver from)) =
    sym here ∙ ap (slice_get x.slots) one ∙ made.1 in
    let at_end : from ≡ x.sent = cc in
    behind at_end)
    ∙ here
stays x call (Leave g kind p) h kept made behind here =
    get_set_other x.slots g h Spent (λ one. kept (subst (Drops call) (sym one) made.2)) ∙ here

-- what doesn't tell sends nothing
sends_nothing : {V : Type 0} (x : Shown V) (c : Change V) → tells_value (channel_of x) c ≡ false → (with_change x c).sent ≡ x.sent
sends_nothing x Keep quiet = refl
sends_nothing x (Append v) quiet = absurd cc
sends_nothing x (Make kind p) quiet = refl
sends_nothing x (Move g from to) quiet = refl
sends_nothing x (Leave g kind p) quiet = refl

waits_on : {V : Type 0} (x : Shown V) (h : ℕ) (call : BCall V) → IsAllowed x → WaitsForValue x h → (Drops call h → ⊥)
    → tells_value (channel_of x) (effect (channel_of x) call).0 ≡ false → WaitsForValue (next x call) h
waits_on x h call ok waits kept quiet =
    let c = (effect (channel_of x) call).0 in
    let e = at_end x h ok waits in
    let made = is_made_by x call in
    waits_at_end (next x call) h (broadcast_laws.next_allowed x call ok) (record {
      here = stays x call c h kept made (is_behind x ok call) e.here ∙ ap (λ p. Some (Live Receiver p)) (sym (sends_nothing x c quiet));
      «open» = not_none _ (still_open x call c (some_of _ e.«open») made quiet);
    })

-- a change that tells leaves no receiver at the end
ends : {V : Type 0} (x : Shown V) (call : BCall V) (c : Change V) (h : ℕ) → IsMadeBy x call c → IsAtEnd x h
    → tells_value (channel_of x) c ≡ true → IsAtEnd (with_change x c) h → ⊥
unfolding IsMadeBy
ends x call Keep h made e is still = absurd cc
ends x call (Append v) h made e is still =
    let same : Some (Live Receiver x.sent) ≡ Some (Live Receiver (x.sent + 1)) = sym e.here ∙ still.here in
    let one : x.sent ≡ x.sent + 1 = cc in
    omega (arith, one)
ends x call (Make kind p) h made e is still = absurd cc
ends x call (Move g from to) h made e is still = absurd cc
ends x call (Leave g Sender p) h made e is still =
    omega (arith, alive-set Sender x.slots g (Live Sender p) Spent made.1, eqb-true (alive Sender x.slots) 1 is, some_of _ still.«open»)
ends x call (Leave g Receiver p) h made e is still = absurd cc
ends x call (Leave g Weak p) h made e is still = absurd cc

waits_no_longer : {V : Type 0} (x : Shown V) (h : ℕ) (call : BCall V) → IsAllowed x → WaitsForValue x h
    → tells_value (channel_of x) (effect (channel_of x) call).0 ≡ true → WaitsForValue (next x call) h → ⊥
waits_no_longer x h call ok waits is still =
    ends x call (effect (channel_of x) call).0 h (is_made_by x call) (at_end x h ok waits) is
    (at_end (next x call) h (broadcast_laws.next_allowed x call ok) still)

-- ---- who waits for no receiver

-- sender h is alive, and so is a receiver
record HasReceiver {V : Type 0} (x : Shown V) (h : ℕ) : Type 0 where
  pub position : ℕ
  pub here : slice_get x.slots h ≡ Some (Live Sender position)
  pub some : 0 < receivers (channel_of x)

counts : {V : Type 0} (c : Channel V) (h : ℕ) (o : Option (Slot ℕ)) (n : ℕ)
    → (effect_found c (ReceiverCount h) (lookup_at (Some Sender) o)).1 ≡ Count n
    → (p : ℕ) × (o ≡ Some (Live Sender p)) × (receivers c ≡ n)
counts c h None n is = absurd cc
counts c h (Some Spent) n is = absurd cc
counts c h (Some (Live Receiver p)) n is = absurd cc
counts c h (Some (Live Weak p)) n is = absurd cc
counts c h (Some (Live Sender p)) n is = (p, refl, cc)

has_receiver : {V : Type 0} (x : Shown V) (h : ℕ) → WaitsForNoReceiver x h → HasReceiver x h
has_receiver x h w =
    let r = counts (channel_of x) h (slice_get x.slots h) w.0 w.1 in
    record { position = r.0; here = r.1; some = omega (arith, r.2, w.2) }

waits_for_none : {V : Type 0} (x : Shown V) (h : ℕ) → HasReceiver x h → WaitsForNoReceiver x h
waits_for_none x h e =
    let found : lookup (Some Sender) x.slots h ≡ Handle Sender e.position = ap (lookup_at (Some Sender)) e.here in
    (receivers (channel_of x), ap (λ f. (effect_found (channel_of x) (ReceiverCount h) f).1) found, e.some)

-- the handle stays as it is, unless the call drops it; so a call with the handle itself is another's, too
stays_sender : {V : Type 0} (x : Shown V) (call : BCall V) (c : Change V) (h p : ℕ) → (Drops call h → ⊥) → IsMadeBy x call c
    → slice_get x.slots h ≡ Some (Live Sender p) → slice_get (with_change x c).slots h ≡ Some (Live Sender p)
unfolding IsMadeBy
stays_sender x call Keep h p kept made here = here
stays_sender x call (Append v) h p kept made here = here
stays_sender x call (Make kind q) h p kept made here =
    get_push_first x.slots (Live kind q) h (slice_get_within x.slots h (Live Sender p) here) ∙ here
stays_sender x call (Move g from to) h p kept made here =
    get_set_other x.slots g h (Live Receiver to)
    (λ one. let same : Some (Live Sender p) ≡ Some (Live Receiver from) = sym here ∙ ap (slice_get x.slots) one ∙ made.1 in absurd cc)
    ∙ here
stays_sender x call (Leave g kind q) h p kept made here = get_set_other x.slots g h Spent (λ one. kept (subst (Drops call) (sym one) made.2)) ∙ here

still_received : {V : Type 0} (x : Shown V) (call : BCall V) (c : Change V) → 0 < alive Receiver x.slots → IsMadeBy x call c
    → tells_no_receiver (channel_of x) c ≡ false → 0 < alive Receiver (with_change x c).slots
still_received x call c some made quiet = still_some Receiver x call c (λ g p is. sym (ap (tells_no_receiver (channel_of x)) is) ∙ quiet) some made

waits_on_for_none : {V : Type 0} (x : Shown V) (h : ℕ) (call : BCall V) → WaitsForNoReceiver x h → (Drops call h → ⊥)
    → tells_no_receiver (channel_of x) (effect (channel_of x) call).0 ≡ false → WaitsForNoReceiver (next x call) h
waits_on_for_none x h call waits kept quiet =
    let c = (effect (channel_of x) call).0 in
    let e = has_receiver x h waits in
    let made = is_made_by x call in
    waits_for_none (next x call) h (record {
      position = e.position;
      here = stays_sender x call c h e.position kept made e.here;
      some = still_received x call c e.some made quiet;
    })

ends_for_none : {V : Type 0} (x : Shown V) (call : BCall V) (c : Change V) → IsMadeBy x call c
    → tells_no_receiver (channel_of x) c ≡ true → 0 < alive Receiver (with_change x c).slots → ⊥
unfolding IsMadeBy
ends_for_none x call Keep made is still = absurd cc
ends_for_none x call (Append v) made is still = absurd cc
ends_for_none x call (Make kind p) made is still = absurd cc
ends_for_none x call (Move g from to) made is still = absurd cc
ends_for_none x call (Leave g Receiver p) made is still =
    omega (arith, alive-set Receiver x.slots g (Live Receiver p) Spent made.1, eqb-true (alive Receiver x.slots) 1 is, still)
ends_for_none x call (Leave g Sender p) made is still = absurd cc
ends_for_none x call (Leave g Weak p) made is still = absurd cc

waits_no_longer_for_none : {V : Type 0} (x : Shown V) (h : ℕ) (call : BCall V)
    → tells_no_receiver (channel_of x) (effect (channel_of x) call).0 ≡ true → WaitsForNoReceiver (next x call) h → ⊥
waits_no_longer_for_none x h call is still =
    ends_for_none x call (effect (channel_of x) call).0 (is_made_by x call) is (has_receiver (next x call) h still).some

-- ---- the laws

module _ {V : Type 0} (x : Shown V) (call : BCall V) where
  abbrev change : Change V
  change = (effect (channel_of x) call).0

  all_wait_on : (what : WaitFor) (h : ℕ) → IsAllowed x → WaitsFor x what h → (of_broadcast V).spares call what h
      → (told_by x call ≡ Some what → ⊥) → WaitsFor (next x call) what h
  all_wait_on wait.Value h ok waits spared untold = waits_on x h call ok waits spared (value_quiet (channel_of x) change untold)
  all_wait_on wait.NoReceiver h ok waits spared untold = waits_on_for_none x h call waits spared (none_quiet (channel_of x) change untold)

  none_waits_on : (what : WaitFor) (h : ℕ) → IsAllowed x → WaitsFor x what h
      → told_by x call ≡ Some what → WaitsFor (next x call) what h → ⊥
  none_waits_on wait.Value h ok waits is still = waits_no_longer x h call ok waits (value_told (channel_of x) change is) still
  none_waits_on wait.NoReceiver h ok waits is still = waits_no_longer_for_none x h call (none_told (channel_of x) change is) still

-- ---- the numbers of dropped handles are taken out

module _ {V : Type 0} (x : Shown V) where
  still_allowed : IsAllowed x → IsAllowed (renumbered x)
  still_allowed ok = record {
    some_capacity = ok.some_capacity;
    small_capacity = ok.small_capacity;
    retained = ok.retained;
    few_slots = omega (arith, live_fewer x.slots, ok.few_slots);
    placed = all_live (IsPlaced x.sent) x.slots ok.placed;
  }

  waits_renumbered : (what : WaitFor) (h : ℕ) → IsAllowed x → WaitsFor x what h → WaitsFor (renumbered x) what (number_among x.slots h)
  waits_renumbered wait.Value h ok waits =
      let e = at_end x h ok waits in
      waits_at_end (renumbered x) (number_among x.slots h) (still_allowed ok) (record {
        here = found_live x.slots h Receiver x.sent e.here;
        «open» = ap (λ n. n == 0) (alive_live Sender x.slots) ∙ e.«open»;
      })
  waits_renumbered wait.NoReceiver h ok waits =
      let e = has_receiver x h waits in
      waits_for_none (renumbered x) (number_among x.slots h) (record {
        position = e.position;
        here = found_live x.slots h Sender e.position e.here;
        some = omega (arith, alive_live Receiver x.slots, e.some);
      })

pub renumbers_so : (V : Type 0) → RenumbersSo V
renumbers_so V before x y is = (is.left, has_numbers before x.slots is.numbers)

pub broadcast_waits : (V : Type 0) → WaitLaws (of_broadcast V)
broadcast_waits V = record {
  next_allowed = broadcast_laws.next_allowed;
  waits_on = λ x c what h ok waits spared untold. all_wait_on x c what h ok waits spared untold;
  waits_no_longer = λ x c what h ok waits spared is still. none_waits_on x c what h ok waits is still;
  renumbered_allowed = λ x ok. still_allowed x ok;
  waits_renumbered = λ x what h ok waits. waits_renumbered x what h ok waits;
}

-- ---- what was told, by the patch

told_of_send : {V : Type 0} (y : Shown V) (o : Option V) → told_after y (patch_of_send o) ≡ Some wait.Value
told_of_send y None = refl
told_of_send y (Some old) = refl

told_of_change : {V : Type 0} (x : Shown V) (call : BCall V) (c : Change V) → IsMadeBy x call c
    → told_after (with_change x c) (patch_for x c) ≡ told (channel_of x) c
unfolding IsMadeBy
told_of_change x call Keep made = refl
told_of_change x call (Append v) made = told_of_send (with_change x (Append v)) (eviction x.capacity x.window)
told_of_change x call (Make kind p) made = refl
told_of_change x call (Move g from to) made = refl
told_of_change x call (Leave g Sender p) made =
    ap (λ b. cond b (Some wait.Value) None)
    (one_less (alive Sender x.slots) (alive Sender (set x.slots g Spent)) (omega (arith, alive-set Sender x.slots g (Live Sender p) Spent made.1)))
told_of_change x call (Leave g Receiver p) made =
    ap (λ b. cond b (Some wait.NoReceiver) None)
    (one_less (alive Receiver x.slots) (alive Receiver (set x.slots g Spent)) (omega (arith, alive-set Receiver x.slots g (Live Receiver p) Spent made.1)))
told_of_change x call (Leave g Weak p) made = refl

pub told_by_patch : (V : Type 0) → IsToldByPatch V
told_by_patch V x call = told_of_change x call (effect (channel_of x) call).0 (is_made_by x call)
