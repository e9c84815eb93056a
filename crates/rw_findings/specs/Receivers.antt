-- Receivers at places of a run: what each will receive next, and what it received last.
use Rattle.std.specs.Prelude.{◌≡◌, ℕ, ◌-◌, ◌<◌, ◌≤◌, ◌⊎◌, Bool, true, false, nat_eq, List, length, Option, None, Some, option_and_then, slice_get}
use Rattle.rw_broadcast.specs.Machine.{position_at}
use Rattle.rw_broadcast.specs.declared.calls.BReply.TheVariants as broadcast
use Rattle.rw_watch.specs.declared.calls.WReply.TheVariants as watch
use Rattle.rw_journal.specs.Run.{Run}
use Rattle.rw_navigator.specs.Conditions.{broadcast_at, has}
use Rattle.rw_navigator.specs.Places.{last_place, shown_at}
use Rattle.rw_world.specs.Machines.{ChanShown}
use Rattle.rw_world.specs.declared.channels.ChanCall.{ChanCall}
use Rattle.rw_world.specs.declared.channels.ChanCall.TheVariants as call
use Rattle.rw_world.specs.declared.channels.ChanReply.{ChanReply}
use Rattle.rw_world.specs.declared.channels.ChanReply.TheVariants as reply
use Rattle.rw_findings.specs.Peaks.{peak_in}
use Rattle.rw_findings.specs.Totals.{looker_in, passes_at, receiver_in}
use Rattle.rw_findings.specs.declared.losses.loss.Loss.{Loss}
use Rattle.rw_findings.specs.declared.starts.start.LossStart.{LossStart}
use Rattle.rw_findings.specs.declared.totals.total.Totals.{Totals}

module _ {V : Type 0} where
  -- the position of a live receiver of a broadcast: the number of the value that it receives next
  abbrev pub position_in : List (ChanShown V) → (channel receiver : ℕ) → Option ℕ
  position_in xs channel receiver = option_and_then (λ x. position_at (slice_get x.slots receiver)) (broadcast_at xs channel)

  -- the same at a place of a run
  abbrev pub position_then : Run V → (channel receiver place : ℕ) → Option ℕ
  position_then run channel receiver place = position_in (shown_at run place) channel receiver

  -- the handle that a call gave a value: it received one of a broadcast, or looked at that of a watch
  abbrev pub given_by : ChanCall V → ChanReply V → Option ℕ
  given_by (call.B c) (reply.B (broadcast.Value v)) = receiver_in c
  given_by (call.W c) (reply.W (watch.Value v)) = looker_in c
  given_by _ _ = None

  abbrev pub gives : (h : ℕ) → ChanCall V → ChanReply V → Bool
  gives h c r = has (λ g. nat_eq g h) (given_by c r)

  -- the last place up to `to` to which a call led that gave the handle a value, or 0 where none did
  pub record IsLastGiven (run : Run V) (channel handle to place : ℕ) : Type 0 where
    pub within : place ≤ to
    pub given : (place ≡ 0) ⊎ ((0 < place) × (passes_at channel (gives handle) run.entries (place - 1) ≡ true))
    pub none_later : (p : ℕ) → place ≤ p → p < to → passes_at channel (gives handle) run.entries p ≡ false

  -- where a loss began: the receiver's position, which is the number of the first value lost, and its last receive before
  pub record IsStart (run : Run V) (loss : Loss) (start : LossStart) : Type 0 where
    pub first : position_then run loss.channel loss.receiver loss.from ≡ Some start.first
    pub received : IsLastGiven run loss.channel loss.receiver loss.from start.received

  -- one of each loss, in their order
  pub record AreStarts (run : Run V) (losses : List Loss) (starts : List LossStart) : Type 0 where
    pub many : length starts ≡ length losses
    pub each : (i : ℕ) (loss : Loss) (start : LossStart) → slice_get losses i ≡ Some loss → slice_get starts i ≡ Some start → IsStart run loss start

  -- where each receiver was last given a value, in the order of totals
  pub record AreLastReceipts (run : Run V) (totals : List Totals) (places : List ℕ) : Type 0 where
    pub many : length places ≡ length totals
    pub each : (i place : ℕ) (t : Totals) → slice_get totals i ≡ Some t → slice_get places i ≡ Some place
        → IsLastGiven run t.channel t.receiver (last_place run) place

  -- ---- inside

  -- rows of places by channel and handle, up to a place: a last place is the greatest
  abbrev pub AreLastGiven : Run V → (to : ℕ) → List (List ℕ) → Type 0
  AreLastGiven run to rows = (channel handle : ℕ) → IsLastGiven run channel handle to (peak_in rows channel handle)
