-- Nobody waits in vain: what holds over any steps of a channel and of those who wait for it.
use Rattle.std.specs.Prelude.{◌≡◌, ℕ, ◌+◌, ◌<◌, ◌≤◌, ◌==◌, List, [], ◌∷◌, ◌++◌, count_by, Option, Some, ⊤}
use Rattle.rw_waiting.specs.declared.notices.WaitFor.{WaitFor}
use Rattle.rw_waiting.specs.declared.notices.WaitFor.TheVariants.{Value, NoReceiver}
use Rattle.rw_waiting.specs.declared.queue.Entry.{Entry}
use Rattle.rw_waiting.specs.Queue.{with_other}
use Rattle.rw_waiting.specs.Listed.{Listed, nobody, waiting_for, with_queue, with_waiter, without_ticket, after_told}
use Rattle.rw_waiting.specs.Waitable.{Waitable}

-- a call is made; a call begins to wait; the call with this ticket, which waits, is polled again, and woken by something else from then on;
-- the call with this ticket gives up; or the numbers of dropped handles are taken out
pub data Step (C W : Type 0) : Type 0 where
  Make : C → Step C W
  Begin : WaitFor → W → Step C W
  Renew : WaitFor → (ticket : ℕ) → W → Step C W
  GiveUp : WaitFor → (ticket : ℕ) → Step C W
  Renumber : Step C W

-- how often the ticket is among these
abbrev pub many : {W : Type 0} → ℕ → List (Entry W) → ℕ
many ticket ks = count_by (λ k. k.number == ticket) ks

-- the call with this ticket is listed
abbrev pub IsListed : {W : Type 0} → Listed W → WaitFor → ℕ → Type 0
IsListed l what ticket = 0 < many ticket (waiting_for l what).items

-- who of those that wait for this is woken, if that is told
abbrev pub woken_of : {W : Type 0} → Listed W → Option WaitFor → WaitFor → List (Entry W)
woken_of l (Some Value) Value = l.for_value.items
woken_of l (Some NoReceiver) NoReceiver = l.for_no_receiver.items
woken_of l _ _ = []

-- no step among these lets the call give up
abbrev pub Stays : {C W : Type 0} → List (Step C W) → WaitFor → ℕ → Type 0
Stays [] what ticket = ⊤
Stays (GiveUp other t ∷ steps) what ticket = (other ≡ what → t ≡ ticket → ⊥) × Stays steps what ticket
Stays (s ∷ steps) what ticket = Stays steps what ticket

module _ {V C : Type 0} (w : Waitable V C) {W : Type 0} where
  abbrev pub view_after : V → Step C W → V
  view_after x (Make c) = w.next x c
  view_after x Renumber = w.renumbered x
  view_after x _ = x

  abbrev pub listed_after : V → Listed W → Step C W → Listed W
  listed_after x l (Make c) = after_told l (w.told x c)
  listed_after x l (Begin what waker) = with_waiter l what waker
  listed_after x l (Renew what ticket waker) = with_queue l what (with_other (waiting_for l what) ticket waker)
  listed_after x l (GiveUp what ticket) = without_ticket l what ticket
  listed_after x l Renumber = l

  -- who of those that wait for this is woken by a step
  abbrev pub woken_by : V → Listed W → Step C W → WaitFor → List (Entry W)
  woken_by x l (Make c) what = woken_of l (w.told x c) what
  woken_by x l _ what = []

  abbrev pub view_after_all : V → List (Step C W) → V
  view_after_all x [] = x
  view_after_all x (s ∷ steps) = view_after_all (view_after x s) steps

  abbrev pub listed_after_all : V → Listed W → List (Step C W) → Listed W
  listed_after_all x l [] = l
  listed_after_all x l (s ∷ steps) = listed_after_all (view_after x s) (listed_after x l s) steps

  abbrev pub woken_by_all : V → Listed W → List (Step C W) → WaitFor → List (Entry W)
  woken_by_all x l [] what = []
  woken_by_all x l (s ∷ steps) what = woken_by x l s what ++ woken_by_all (view_after x s) (listed_after x l s) steps what

  -- the number of handle h after a step
  abbrev pub number_after : V → Step C W → ℕ → ℕ
  number_after x Renumber h = w.number_after x h
  number_after x _ h = h

  abbrev pub number_after_all : V → List (Step C W) → ℕ → ℕ
  number_after_all x [] h = h
  number_after_all x (s ∷ steps) h = number_after_all (view_after x s) steps (number_after x s h)

  -- the step spares the handle of the call that waits for this with it
  abbrev pub Spares : Step C W → WaitFor → ℕ → Type 0
  Spares (Make c) what h = w.spares c what h
  Spares _ what h = ⊤

  -- each of these steps does
  abbrev pub Spare : V → List (Step C W) → WaitFor → ℕ → Type 0
  Spare x [] what h = ⊤
  Spare x (s ∷ steps) what h = Spares s what h × Spare (view_after x s) steps what (number_after x s h)

-- A call that would wait begins to, with handle h. Then other steps are made, and as long as it is listed, it would wait in the channel as
-- it is. A `wait_for` begins so at each value that its condition refuses: it waits as a `changed` does.
abbrev pub NobodyWaitsInVain : {V C : Type 0} → Waitable V C → Type 0 → Type 0
NobodyWaitsInVain w W = (x : _) (l : Listed W) (what : WaitFor) (h : ℕ) (waker : W) (steps : List (Step _ W))
    → w.allowed x → w.waits x what h → Spare w x steps what h
    → IsListed (listed_after_all w x (with_waiter l what waker) steps) what (waiting_for l what).next
    → w.waits (view_after_all w x steps) what (number_after_all w x steps h)

-- The call that wakes it leaves it nothing to wait for.
abbrev pub WakesOnlyTheReady : {V C : Type 0} → Waitable V C → Type 0 → Type 0
WakesOnlyTheReady w W = (x : _) (l : Listed W) (what : WaitFor) (h : ℕ) (waker : W) (steps : List (Step _ W)) (c : _)
    → w.allowed x → w.waits x what h → Spare w x steps what h → w.spares c what (number_after_all w x steps h)
    → IsListed (listed_after_all w x (with_waiter l what waker) steps) what (waiting_for l what).next
    → w.told (view_after_all w x steps) c ≡ Some what
    → w.waits (w.next (view_after_all w x steps) c) what (number_after_all w x steps h) → ⊥

-- A call that is listed, and doesn't give up, is woken or still listed, and not both: its ticket is there as often as before.
abbrev pub IsWokenOrListed : {V C : Type 0} → Waitable V C → Type 0 → Type 0
IsWokenOrListed w W = (x : _) (l : Listed W) (what : WaitFor) (ticket : ℕ) (steps : List (Step _ W))
    → ticket < (waiting_for l what).next → Stays steps what ticket
    → many ticket (woken_by_all w x l steps what) + many ticket (waiting_for (listed_after_all w x l steps) what).items
    ≡ many ticket (waiting_for l what).items

-- No ticket is woken twice.
abbrev pub WakesOnce : {V C : Type 0} → Waitable V C → Type 0 → Type 0
WakesOnce w W = (x : _) (steps : List (Step _ W)) (what : WaitFor) (ticket : ℕ)
    → many ticket (woken_by_all w x nobody steps what) ≤ 1
