-- The calls that wait for a channel, as lists.
use Rattle.std.specs.Prelude.{ℕ, List, [], Option, Some, None}
use Rattle.rw_waiting.specs.declared.notices.WaitFor.{WaitFor}
use Rattle.rw_waiting.specs.declared.notices.WaitFor.TheVariants.{Value, NoReceiver}
use Rattle.rw_waiting.specs.declared.queue.Entry.{Entry}
use Rattle.rw_waiting.specs.Queue.{Queued, empty, with_item, with_items, without}

-- who waits for a value and who waits for no receiver: a ticket with what wakes its call, a W, in the order in which they began
pub record Listed (W : Type 0) : Type 0 where
  pub for_value : Queued W
  pub for_no_receiver : Queued W

abbrev pub nobody : {W : Type 0} → Listed W
nobody = record { for_value = empty; for_no_receiver = empty }

-- who waits for this
abbrev pub waiting_for : {W : Type 0} → Listed W → WaitFor → Queued W
waiting_for l Value = l.for_value
waiting_for l NoReceiver = l.for_no_receiver

-- these wait for this instead
abbrev pub with_queue : {W : Type 0} → Listed W → WaitFor → Queued W → Listed W
with_queue l Value q = record l { for_value = q }
with_queue l NoReceiver q = record l { for_no_receiver = q }

-- one more waits, behind the others, with the next ticket
abbrev pub with_waiter : {W : Type 0} → Listed W → WaitFor → W → Listed W
with_waiter l what waker = with_queue l what (with_item (waiting_for l what) waker)

-- the call with this ticket no longer waits
abbrev pub without_ticket : {W : Type 0} → Listed W → WaitFor → ℕ → Listed W
without_ticket l what ticket = with_queue l what (without (waiting_for l what) ticket)

-- who is woken when this is told: all who wait for it, in the order in which they began
abbrev pub woken : {W : Type 0} → Listed W → Option WaitFor → List (Entry W)
woken l None = []
woken l (Some what) = (waiting_for l what).items

-- who still waits then
abbrev pub after_told : {W : Type 0} → Listed W → Option WaitFor → Listed W
after_told l None = l
after_told l (Some what) = with_queue l what (with_items (waiting_for l what) [])
