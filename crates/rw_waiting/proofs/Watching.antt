-- Who waits for a watch, before and after a step.
use Rattle.std.proofs.Common.{set, ◌≡◌, ℕ, ◌+◌, ◌<◌, Bool, true, false, cond, not, length}
use Rattle.std.proofs.Common.{refl, ap, sym, ◌∙◌, subst, arith, inl, inr}
use Rattle.std.specs.Prelude.{Option, Some, None, slice_get, ◌==◌, ◌⊎◌, ⊤}
use Rattle.std.proofs.lemmas.Bool.{eqb-true, eqb-false, eq-eqb}
use Rattle.std.proofs.lemmas.Option.{slice_get_within}
use Rattle.rw_handles.specs.declared.kinds.Kind.{Kind}
use Rattle.rw_handles.specs.declared.kinds.Kind.TheVariants.{Sender, Receiver, Weak}
use Rattle.rw_handles.specs.declared.kinds.Slot.{Slot}
use Rattle.rw_handles.specs.declared.kinds.Slot.TheVariants.{Live, Spent}
use Rattle.rw_handles.specs.declared.kinds.Found.TheVariants.{Handle}
use Rattle.rw_handles.specs.Slots.{lookup, lookup_at, alive}
use Rattle.rw_handles.proofs.Checks.{of_checked}
use Rattle.rw_handles.proofs.Renaming.{get_push_first, get_set_other, live_fewer}
use Rattle.rw_handles.proofs.SlotLaws.{found_at_is, found_at_wanted, slice_get-set}
use Rattle.rw_handles.proofs.Tallies.{alive-set, alive-push}
use Rattle.rw_watch.specs.declared.calls.WCall.{WCall}
use Rattle.rw_watch.specs.declared.calls.WCall.TheVariants.{Send, SendReplace, Modify, Subscribe, CloneSender, CloneReceiver, Borrow, Update, HasChanged}
use Rattle.rw_watch.specs.declared.calls.WCall.TheVariants.{Changed, MarkChanged, MarkUnchanged, DropHandle, ReceiverCount, IsClosed, AwaitClosed}
use Rattle.rw_watch.specs.declared.calls.WReply.{WReply}
use Rattle.rw_watch.specs.declared.calls.WReply.TheVariants.{Closed, Waits, Done, TooManyHandles}
use Rattle.rw_watch.specs.Channel.{Channel, Change, Keep, Write, Make, Mark, Leave, handle_of, wanted_kind, makes, is_unseen, wait_effect}
use Rattle.rw_watch.specs.Channel.{fault_reply, is_closed, has_no_receiver, effect_with, effect_found, effect}
use Rattle.rw_watch.specs.Shown.{Shown, with_change, patch_for, patch_of_mark, patch_of_drop, next, IsMarked, IsAllowed}
use Rattle.rw_watch.specs.Soundness.{watch_laws}
use Rattle.rw_waiting.specs.declared.notices.WaitFor.{WaitFor}
use Rattle.rw_waiting.specs.declared.notices.WaitFor.TheVariants as wait
use Rattle.rw_waiting.specs.Told.{told_by_drop}
use Rattle.rw_waiting.specs.Watches.{told, told_by, told_after, Drops, Unsees, renumbered, of_watch, IsToldByPatch, RenumbersSo}
use Rattle.rw_waiting.specs.Watches.{Waits as WaitsFor}
use Rattle.rw_waiting.specs.Waitable.{WaitLaws}
use Rattle.rw_waiting.specs.Renumbered.{number_among}
use Rattle.rw_waiting.proofs.Renumbering.{found_live, has_numbers, alive_live, all_live}
use Rattle.rw_waiting.proofs.Counting.{some_of, not_none, still_alive, if_is, if_so, if_else, one_less}

-- whether a change tells those who wait for a change, and those who wait for no receiver
abbrev tells_value : {V : Type 0} → Channel V → Change V → Bool
tells_value c (Write v notified) = notified
tells_value c (Leave h Sender mark) = alive Sender c.slots == 1
tells_value c _ = false

abbrev tells_no_receiver : {V : Type 0} → Channel V → Change V → Bool
tells_no_receiver c (Leave h Receiver mark) = alive Receiver c.slots == 1
tells_no_receiver c _ = false

module _ {V : Type 0} (c : Channel V) where
  value_quiet : (ch : Change V) → (told c ch ≡ Some wait.Value → ⊥) → tells_value c ch ≡ false
  value_quiet (Write v notified) untold = if_is notified wait.Value untold
  value_quiet (Leave h Sender m) untold = if_is (alive Sender c.slots == 1) wait.Value untold
  value_quiet (Leave h Receiver m) untold = refl
  value_quiet (Leave h Weak m) untold = refl
  value_quiet _ untold = refl

  value_told : (ch : Change V) → told c ch ≡ Some wait.Value → tells_value c ch ≡ true
  value_told (Write v notified) is = if_so notified wait.Value is
  value_told (Leave h Sender m) is = if_so (alive Sender c.slots == 1) wait.Value is
  value_told (Leave h Receiver m) is = absurd (if_else (alive Receiver c.slots == 1) wait.NoReceiver wait.Value (λ e. cc) is)
  value_told (Leave h Weak m) is = absurd cc
  value_told Keep is = absurd cc
  value_told (Make kind m) is = absurd cc
  value_told (Mark g from to) is = absurd cc

  none_quiet : (ch : Change V) → (told c ch ≡ Some wait.NoReceiver → ⊥) → tells_no_receiver c ch ≡ false
  none_quiet (Leave h Receiver m) untold = if_is (alive Receiver c.slots == 1) wait.NoReceiver untold
  none_quiet (Leave h Sender m) untold = refl
  none_quiet (Leave h Weak m) untold = refl
  none_quiet _ untold = refl

  none_told : (ch : Change V) → told c ch ≡ Some wait.NoReceiver → tells_no_receiver c ch ≡ true
  none_told (Write v notified) is = absurd (if_else notified wait.Value wait.NoReceiver (λ e. cc) is)
  none_told (Leave h Receiver m) is = if_so (alive Receiver c.slots == 1) wait.NoReceiver is
  none_told (Leave h Sender m) is = absurd (if_else (alive Sender c.slots == 1) wait.Value wait.NoReceiver (λ e. cc) is)
  none_told (Leave h Weak m) is = absurd cc
  none_told Keep is = absurd cc
  none_told (Make kind m) is = absurd cc
  none_told (Mark g from to) is = absurd cc

-- receiver h has seen the value, and a sender is alive
record HasSeen {V : Type 0} (x : Shown V) (h : ℕ) : Type 0 where
  pub here : slice_get x.slots h ≡ Some (Live Receiver (Some x.version))
  pub «open» : is_closed x ≡ false

seen_waits : {V : Type 0} (c : Channel V) (h : ℕ) (m : Option ℕ) → (wait_effect c h m).1 ≡ Waits → (m ≡ Some c.version) × (is_closed c ≡ false)
seen_waits c h None is = absurd cc
seen_waits {V} c h (Some mark) is = by_seen (mark == c.version) (eqb-true mark c.version) is where
  by_closed : (b : Bool) → ◌≡◌ {A = WReply V} (cond b Closed Waits) Waits → b ≡ false
  by_closed true is = absurd cc
  by_closed false is = refl

  by_seen : (b : Bool) → (b ≡ true → mark ≡ c.version)
      → (cond {A = Change V × WReply V} (not b) (Mark h (Some mark) (Some c.version), Done) (Keep, cond (is_closed c) Closed Waits)).1 ≡ Waits
      → (Some mark ≡ Some c.version) × (is_closed c ≡ false)
  by_seen true same is = (ap (λ n. Some n) (same refl), by_closed (is_closed c) is)
  by_seen false same is = absurd cc

found_waits : {V : Type 0} (c : Channel V) (h : ℕ) (o : Option (Slot (Option ℕ)))
    → (effect_found c (Changed h) (lookup_at (Some Receiver) o)).1 ≡ Waits
    → (o ≡ Some (Live Receiver (Some c.version))) × (is_closed c ≡ false)
found_waits c h None is = absurd cc
found_waits c h (Some Spent) is = absurd cc
found_waits c h (Some (Live Sender m)) is = absurd cc
found_waits c h (Some (Live Weak m)) is = absurd cc
found_waits c h (Some (Live Receiver m)) is = let r = seen_waits c h m is in (ap (λ k. Some (Live Receiver k)) r.0, r.1)

has_seen : {V : Type 0} (x : Shown V) (h : ℕ) → WaitsFor x wait.Value h → HasSeen x h
has_seen x h is = let r = found_waits x h (slice_get x.slots h) is in record { here = r.0; «open» = r.1 }

same_number : (n : ℕ) → (n == n) ≡ true
same_number n = eq-eqb n n refl

waits_seen : {V : Type 0} (x : Shown V) (h : ℕ) → HasSeen x h → WaitsFor x wait.Value h
waits_seen {V} x h e =
    let found : lookup (Some Receiver) x.slots h ≡ Handle Receiver (Some x.version) = ap (lookup_at (Some Receiver)) e.here in
    ap (λ f. (effect_found x (Changed h) f).1) found
    ∙ ap (λ b. (cond {A = Change V × WReply V} (not b) (Mark h (Some x.version) (Some x.version), Done) (Keep, cond (is_closed x) Closed Waits)).1)
    (same_number x.version)
    ∙ ap (λ b. cond b Closed Waits) e.«open»

-- ---- the change that a call makes

-- it marks or drops only the handle that the call is made with, which is there; and only DropHandle drops it
IsMadeBy : {V : Type 0} → Shown V → WCall V → Change V → Type 0
IsMadeBy x call Keep = ⊤
IsMadeBy x call (Write v notified) = ⊤
IsMadeBy x call (Make kind m) = ⊤
IsMadeBy x call (Mark g from to) = (g ≡ handle_of call) × (slice_get x.slots g ≡ Some (Live Receiver from))
IsMadeBy x call (Leave g kind m) = (g ≡ handle_of call) × (slice_get x.slots g ≡ Some (Live kind m)) × Drops call g

by_if : {V : Type 0} (x : Shown V) (call : WCall V) (b : Bool) (one two : Change V × WReply V) → IsMadeBy x call one.0 → IsMadeBy x call two.0
    → IsMadeBy x call (cond b one two).0
by_if x call true one two first second = first
by_if x call false one two first second = second

by_call : {V : Type 0} (x : Shown V) (call : WCall V) (kind : Kind) (m : Option ℕ) → lookup (wanted_kind call) x.slots (handle_of call) ≡ Handle kind m
    → IsMadeBy x call (effect_with x call kind m).0
unfolding IsMadeBy
by_call x (Send g v) kind m is = by_if x (Send g v) (has_no_receiver x) _ _ tt tt
by_call x (SendReplace g v) kind m is = tt
by_call x (Modify notified g v) kind m is = tt
by_call x (Subscribe g) kind m is = tt
by_call x (CloneSender g) kind m is = tt
by_call x (CloneReceiver g) kind m is = tt
by_call x (Borrow g) kind m is = tt
by_call x (Update g) kind m is = (refl, found_at_wanted Receiver _ kind m is)
by_call x (HasChanged g) kind m is = tt
by_call x (Changed g) kind m is =
    by_if x (Changed g) (is_unseen x.version m) _ _ (refl, found_at_wanted Receiver _ kind m is) tt
by_call x (MarkChanged g) kind m is = (refl, found_at_wanted Receiver _ kind m is)
by_call x (MarkUnchanged g) kind m is = (refl, found_at_wanted Receiver _ kind m is)
by_call x (DropHandle g) kind m is = (refl, found_at_is None _ kind m is, refl)
by_call x (ReceiverCount g) kind m is = tt
by_call x (IsClosed g) kind m is = tt
by_call x (AwaitClosed g) kind m is = tt

is_made_by : {V : Type 0} (x : Shown V) (call : WCall V) → IsMadeBy x call (effect x call).0
unfolding IsMadeBy
is_made_by x call =
    of_checked (λ e. IsMadeBy x call e.0) (λ fault. (Keep, fault_reply fault)) (Keep, TooManyHandles) (makes call) (length x.slots)
    (effect_with x call)
    (lookup (wanted_kind call) x.slots (handle_of call))
    (λ fault. tt)
    tt
    (λ kind m is few. by_call x call kind m is)

-- a receiver's new mark is the version, unless the call marks it as not seen
abbrev Sees : {V : Type 0} → Shown V → WCall V → Change V → Type 0
Sees x call (Mark g from to) = Unsees call g ⊎ (to ≡ Some x.version)
Sees x call _ = Unit {0}

module _ {V : Type 0} (x : Shown V) where
  sees_if : (call : WCall V) (b : Bool) (one two : Change V × WReply V) → Sees x call one.0 → Sees x call two.0 → Sees x call (cond b one two).0
  sees_if call true one two first second = first
  sees_if call false one two first second = second

  sees_call : (call : WCall V) (kind : Kind) (m : Option ℕ) → Sees x call (effect_with x call kind m).0
  sees_call (Send g v) kind m = sees_if (Send g v) (has_no_receiver x) _ _ tt tt
  sees_call (SendReplace g v) kind m = tt
  sees_call (Modify notified g v) kind m = tt
  sees_call (Subscribe g) kind m = tt
  sees_call (CloneSender g) kind m = tt
  sees_call (CloneReceiver g) kind m = tt
  sees_call (Borrow g) kind m = tt
  sees_call (Update g) kind m = inr refl
  sees_call (HasChanged g) kind m = tt
  sees_call (Changed g) kind m = sees_if (Changed g) (is_unseen x.version m) _ _ (inr refl) tt
  sees_call (MarkChanged g) kind m = inl refl
  sees_call (MarkUnchanged g) kind m = inr refl
  sees_call (DropHandle g) kind m = tt
  sees_call (ReceiverCount g) kind m = tt
  sees_call (IsClosed g) kind m = tt
  sees_call (AwaitClosed g) kind m = tt

  sees : (call : WCall V) → Sees x call (effect x call).0
  sees call =
      of_checked (λ e. Sees x call e.0) (λ fault. (Keep, fault_reply fault)) (Keep, TooManyHandles) (makes call) (length x.slots)
      (effect_with x call)
      (lookup (wanted_kind call) x.slots (handle_of call))
      (λ fault. tt)
      tt
      (λ kind m is few. sees_call call kind m)

-- ---- who waits for a change

-- a handle of this kind stays alive, unless its last one is dropped
still_some : {V : Type 0} (k : Kind) (x : Shown V) (call : WCall V) (c : Change V) → ((g : ℕ) (m : Option ℕ) → c ≡ Leave g k m → (alive k x.slots == 1) ≡ false)
    → 0 < alive k x.slots → IsMadeBy x call c → 0 < alive k (with_change x c).slots
unfolding IsMadeBy
still_some k x call Keep more some made = some
still_some k x call (Write v notified) more some made = some
still_some k x call (Make kind m) more some made = omega (arith, alive-push k x.slots (Live kind m), some)
still_some k x call (Mark g from to) more some made = omega (arith, alive-set k x.slots g (Live Receiver from) (Live Receiver to) made.1, some)
still_some k x call (Leave g kind m) more some made =
    still_alive k kind x.slots g m made.1 (λ same. more g m (ap (λ one. Leave g one m) same)) some

still_open : {V : Type 0} (x : Shown V) (call : WCall V) (c : Change V) → 0 < alive Sender x.slots → IsMadeBy x call c
    → tells_value x c ≡ false → 0 < alive Sender (with_change x c).slots
still_open x call c some made quiet = still_some Sender x call c (λ g m is. sym (ap (tells_value x) is) ∙ quiet) some made

-- a receiver that has seen the value still has, unless the call drops it or marks the value as not seen
stays : {V : Type 0} (x : Shown V) (call : WCall V) (c : Change V) (h : ℕ) → (Drops call h → ⊥) → (Unsees call h → ⊥) → IsMadeBy x call c
    → Sees x call c → slice_get x.slots h ≡ Some (Live Receiver (Some x.version))
    → slice_get (with_change x c).slots h ≡ Some (Live Receiver (Some x.version))
unfolding IsMadeBy
stays x call Keep h kept seen made sees here = here
stays x call (Write v notified) h kept seen made sees here = here
stays x call (Make kind m) h kept seen made sees here =
    get_push_first x.slots (Live kind m) h (slice_get_within x.slots h (Live Receiver (Some x.version)) here) ∙ here
stays {V} x call (Mark g from to) h kept seen made sees here = by_handle (h == g) (eqb-true h g) (eqb-false h g) sees where
  marked : (to : Option ℕ) → h ≡ g → to ≡ Some x.version
      → slice_get (set x.slots g (Live Receiver to)) h ≡ Some (Live Receiver (Some x.version))
  marked to same is =
      ap (λ i. slice_get (set x.slots i (Live Receiver to)) h) (sym same)
      ∙ slice_get-set x.slots h (Live Receiver to) (Live Receiver (Some x.version)) here
      ∙ ap (λ m. Some (Live Receiver m)) is

  by_handle : (b : Bool) → (b ≡ true → h ≡ g) → (b ≡ false → h ≡ g → ⊥) → Unsees call g ⊎ (to ≡ Some x.version)
      → slice_get (set x.slots g (Live Receiver to)) h ≡ Some (Live Receiver (Some x.version))
  by_handle false same apart one = get_set_other x.slots g h (Live Receiver to) (apart refl) ∙ here
  by_handle true same apart (inl unsees) = absurd (seen (subst (Unsees call) (sym (same refl)) unsees))
  by_handle true same apart (inr is) = marked to (same refl) is
stays x call (Leave g kind m) h kept seen made sees here =
    get_set_other x.slots g h Spent (λ one. kept (subst (Drops call) (sym one) made.2)) ∙ here

same_version : {V : Type 0} (x : Shown V) (c : Change V) → tells_value x c ≡ false → (with_change x c).version ≡ x.version
same_version x Keep quiet = refl
same_version x (Write v true) quiet = absurd cc
same_version x (Write v false) quiet = refl
same_version x (Make kind m) quiet = refl
same_version x (Mark g from to) quiet = refl
same_version x (Leave g kind m) quiet = refl

waits_on : {V : Type 0} (x : Shown V) (h : ℕ) (call : WCall V) → WaitsFor x wait.Value h → (Drops call h → ⊥) → (Unsees call h → ⊥)
    → tells_value x (effect x call).0 ≡ false → WaitsFor (next x call) wait.Value h
waits_on x h call waits kept seen quiet =
    let c = (effect x call).0 in
    let e = has_seen x h waits in
    let made = is_made_by x call in
    waits_seen (next x call) h (record {
      here = stays x call c h kept seen made (sees x call) e.here ∙ ap (λ n. Some (Live Receiver (Some n))) (sym (same_version x c quiet));
      «open» = not_none _ (still_open x call c (some_of _ e.«open») made quiet);
    })

ends : {V : Type 0} (x : Shown V) (call : WCall V) (c : Change V) (h : ℕ) → IsMadeBy x call c → HasSeen x h
    → tells_value x c ≡ true → HasSeen (with_change x c) h → ⊥
unfolding IsMadeBy
ends x call Keep h made e is still = absurd cc
ends x call (Write v true) h made e is still =
    let same : ◌≡◌ {A = Option (Slot (Option ℕ))} (Some (Live Receiver (Some x.version))) (Some (Live Receiver (Some (x.version + 1)))) =
    sym e.here ∙ still.here in
    let one : x.version ≡ x.version + 1 = cc in
    omega (arith, one)
ends x call (Write v false) h made e is still = absurd cc
ends x call (Make kind m) h made e is still = absurd cc
ends x call (Mark g from to) h made e is still = absurd cc
ends x call (Leave g Sender m) h made e is still =
    omega (arith, alive-set Sender x.slots g (Live Sender m) Spent made.1, eqb-true (alive Sender x.slots) 1 is, some_of _ still.«open»)
ends x call (Leave g Receiver m) h made e is still = absurd cc
ends x call (Leave g Weak m) h made e is still = absurd cc

-- ---- who waits for no receiver

record HasReceiver {V : Type 0} (x : Shown V) (h : ℕ) : Type 0 where
  pub mark : Option ℕ
  pub here : slice_get x.slots h ≡ Some (Live Sender mark)
  pub some : has_no_receiver x ≡ false

found_closed : {V : Type 0} (c : Channel V) (h : ℕ) (o : Option (Slot (Option ℕ)))
    → (effect_found c (AwaitClosed h) (lookup_at (Some Sender) o)).1 ≡ Waits
    → (m : Option ℕ) × (o ≡ Some (Live Sender m)) × (has_no_receiver c ≡ false)
found_closed c h None is = absurd cc
found_closed c h (Some Spent) is = absurd cc
found_closed c h (Some (Live Receiver m)) is = absurd cc
found_closed c h (Some (Live Weak m)) is = absurd cc
found_closed {V} c h (Some (Live Sender m)) is = (m, refl, by_none (has_no_receiver c) is) where
  by_none : (b : Bool) → ◌≡◌ {A = WReply V} (cond b Done Waits) Waits → b ≡ false
  by_none true is = absurd cc
  by_none false is = refl

has_receiver : {V : Type 0} (x : Shown V) (h : ℕ) → WaitsFor x wait.NoReceiver h → HasReceiver x h
has_receiver x h is = let r = found_closed x h (slice_get x.slots h) is in record { mark = r.0; here = r.1; some = r.2 }

waits_for_none : {V : Type 0} (x : Shown V) (h : ℕ) → HasReceiver x h → WaitsFor x wait.NoReceiver h
waits_for_none x h e =
    let found : lookup (Some Sender) x.slots h ≡ Handle Sender e.mark = ap (lookup_at (Some Sender)) e.here in
    ap (λ f. (effect_found x (AwaitClosed h) f).1) found ∙ ap (λ b. cond b Done Waits) e.some

stays_sender : {V : Type 0} (x : Shown V) (call : WCall V) (c : Change V) (h : ℕ) (p : Option ℕ) → (Drops call h → ⊥) → IsMadeBy x call c
    → slice_get x.slots h ≡ Some (Live Sender p) → slice_get (with_change x c).slots h ≡ Some (Live Sender p)
unfolding IsMadeBy
stays_sender x call Keep h p kept made here = here
stays_sender x call (Write v notified) h p kept made here = here
stays_sender x call (Make kind q) h p kept made here =
    get_push_first x.slots (Live kind q) h (slice_get_within x.slots h (Live Sender p) here) ∙ here
stays_sender x call (Mark g from to) h p kept made here =
    get_set_other x.slots g h (Live Receiver to)
    (λ one. let same : Some (Live Sender p) ≡ Some (Live Receiver from) = sym here ∙ ap (slice_get x.slots) one ∙ made.1 in absurd cc)
    ∙ here
stays_sender x call (Leave g kind q) h p kept made here = get_set_other x.slots g h Spent (λ one. kept (subst (Drops call) (sym one) made.2)) ∙ here

still_received : {V : Type 0} (x : Shown V) (call : WCall V) (c : Change V) → 0 < alive Receiver x.slots → IsMadeBy x call c
    → tells_no_receiver x c ≡ false → 0 < alive Receiver (with_change x c).slots
still_received x call c some made quiet = still_some Receiver x call c (λ g m is. sym (ap (tells_no_receiver x) is) ∙ quiet) some made

waits_on_for_none : {V : Type 0} (x : Shown V) (h : ℕ) (call : WCall V) → WaitsFor x wait.NoReceiver h → (Drops call h → ⊥)
    → tells_no_receiver x (effect x call).0 ≡ false → WaitsFor (next x call) wait.NoReceiver h
waits_on_for_none x h call waits kept quiet =
    let c = (effect x call).0 in
    let e = has_receiver x h waits in
    let made = is_made_by x call in
    waits_for_none (next x call) h (record {
      mark = e.mark;
      here = stays_sender x call c h e.mark kept made e.here;
      some = not_none _ (still_received x call c (some_of _ e.some) made quiet);
    })

ends_for_none : {V : Type 0} (x : Shown V) (call : WCall V) (c : Change V) → IsMadeBy x call c
    → tells_no_receiver x c ≡ true → 0 < alive Receiver (with_change x c).slots → ⊥
unfolding IsMadeBy
ends_for_none x call Keep made is still = absurd cc
ends_for_none x call (Write v notified) made is still = absurd cc
ends_for_none x call (Make kind m) made is still = absurd cc
ends_for_none x call (Mark g from to) made is still = absurd cc
ends_for_none x call (Leave g Receiver m) made is still =
    omega (arith, alive-set Receiver x.slots g (Live Receiver m) Spent made.1, eqb-true (alive Receiver x.slots) 1 is, still)
ends_for_none x call (Leave g Sender m) made is still = absurd cc
ends_for_none x call (Leave g Weak m) made is still = absurd cc

-- ---- the laws

module _ {V : Type 0} (x : Shown V) (call : WCall V) where
  abbrev change : Change V
  change = (effect x call).0

  all_wait_on : (what : WaitFor) (h : ℕ) → WaitsFor x what h → (of_watch V).spares call what h
      → (told_by x call ≡ Some what → ⊥) → WaitsFor (next x call) what h
  all_wait_on wait.Value h waits spared untold = waits_on x h call waits spared.0 spared.1 (value_quiet x change untold)
  all_wait_on wait.NoReceiver h waits spared untold = waits_on_for_none x h call waits spared (none_quiet x change untold)

  none_waits_on : (what : WaitFor) (h : ℕ) → WaitsFor x what h → told_by x call ≡ Some what → WaitsFor (next x call) what h → ⊥
  none_waits_on wait.Value h waits is still =
      ends x call change h (is_made_by x call) (has_seen x h waits) (value_told x change is) (has_seen (next x call) h still)
  none_waits_on wait.NoReceiver h waits is still =
      ends_for_none x call change (is_made_by x call) (none_told x change is) (some_of _ (has_receiver (next x call) h still).some)

-- ---- the numbers of dropped handles are taken out

module _ {V : Type 0} (x : Shown V) where
  still_allowed : IsAllowed x → IsAllowed (renumbered x)
  still_allowed ok = record {
    few_slots = omega (arith, live_fewer x.slots, ok.few_slots);
    marked = all_live (IsMarked x.version) x.slots ok.marked;
  }

  waits_renumbered : (what : WaitFor) (h : ℕ) → WaitsFor x what h → WaitsFor (renumbered x) what (number_among x.slots h)
  waits_renumbered wait.Value h waits =
      let e = has_seen x h waits in
      waits_seen (renumbered x) (number_among x.slots h) (record {
        here = found_live x.slots h Receiver (Some x.version) e.here;
        «open» = ap (λ n. n == 0) (alive_live Sender x.slots) ∙ e.«open»;
      })
  waits_renumbered wait.NoReceiver h waits =
      let e = has_receiver x h waits in
      waits_for_none (renumbered x) (number_among x.slots h) (record {
        mark = e.mark;
        here = found_live x.slots h Sender e.mark e.here;
        some = ap (λ n. n == 0) (alive_live Receiver x.slots) ∙ e.some;
      })

pub renumbers_so : (V : Type 0) → RenumbersSo V
renumbers_so V before x y is = (is.left, has_numbers before x.slots is.numbers)

pub watch_waits : (V : Type 0) → WaitLaws (of_watch V)
watch_waits V = record {
  next_allowed = watch_laws.next_allowed;
  waits_on = λ x c what h ok waits spared untold. all_wait_on x c what h waits spared untold;
  waits_no_longer = λ x c what h ok waits spared is still. none_waits_on x c what h waits is still;
  renumbered_allowed = λ x ok. still_allowed x ok;
  waits_renumbered = λ x what h ok waits. waits_renumbered x what h waits;
}

-- ---- what was told, by the patch

told_of_mark : {V : Type 0} (y : Shown V) (m : Option ℕ) → told_after y (patch_of_mark m) ≡ None
told_of_mark y None = refl
told_of_mark y (Some mark) = refl

told_of_drop : {V : Type 0} (y : Shown V) (kind : Kind) (m : Option ℕ) → told_after y (patch_of_drop kind m) ≡ told_by_drop kind (alive kind y.slots)
told_of_drop y kind None = refl
told_of_drop y kind (Some mark) = refl

told_of_change : {V : Type 0} (x : Shown V) (call : WCall V) (c : Change V) → IsMadeBy x call c
    → told_after (with_change x c) (patch_for x c) ≡ told x c
unfolding IsMadeBy
told_of_change x call Keep made = refl
told_of_change x call (Write v notified) made = refl
told_of_change x call (Make kind m) made = refl
told_of_change x call (Mark g from to) made = told_of_mark (with_change x (Mark g from to)) from
told_of_change x call (Leave g Sender m) made =
    told_of_drop (with_change x (Leave g Sender m)) Sender m
    ∙ ap (λ b. cond b (Some wait.Value) None)
    (one_less (alive Sender x.slots) (alive Sender (set x.slots g Spent)) (omega (arith, alive-set Sender x.slots g (Live Sender m) Spent made.1)))
told_of_change x call (Leave g Receiver m) made =
    told_of_drop (with_change x (Leave g Receiver m)) Receiver m
    ∙ ap (λ b. cond b (Some wait.NoReceiver) None)
    (one_less (alive Receiver x.slots) (alive Receiver (set x.slots g Spent)) (omega (arith, alive-set Receiver x.slots g (Live Receiver m) Spent made.1)))
told_of_change x call (Leave g Weak m) made = told_of_drop (with_change x (Leave g Weak m)) Weak m

pub told_by_patch : (V : Type 0) → IsToldByPatch V
told_by_patch V x call = told_of_change x call (effect x call).0 (is_made_by x call)
