-- What the search for losses keeps of a broadcast while it passes over its entries.
use Rattle.std.specs.Prelude.{◌≡◌, ◌≤◌, ℕ, zero, suc, ◌+◌, ◌-◌, nat_eq, nat_lt, if◌then◌else◌, List, [], ◌∷◌, ◌++◌, length}
use Rattle.std.specs.Prelude.{map, Option, Some, None, option_map, option_and_then, slice_get, slice_set, slice_index_or}
use Rattle.rw_broadcast.specs.Arithmetic.{retained_capacity}
use Rattle.rw_broadcast.specs.declared.calls.BCall.{BCall}
use Rattle.rw_broadcast.specs.declared.calls.BCall.TheVariants.{Subscribe, Resubscribe, TryRecv, Recv, DropHandle}
use Rattle.rw_broadcast.specs.declared.calls.BReply.{BReply}
use Rattle.rw_broadcast.specs.declared.calls.BReply.TheVariants.{Sent, Value, Lagged, New}
use Rattle.rw_broadcast.specs.declared.calls.BReply.TheVariants as reply
use Rattle.rw_handles.specs.declared.table.TheConstants.{MOST_HANDLES}
use Rattle.rw_world.specs.declared.channels.ChanCall.{ChanCall}
use Rattle.rw_world.specs.declared.channels.ChanCall.TheVariants as call_of
use Rattle.rw_world.specs.declared.channels.ChanReply.{ChanReply}
use Rattle.rw_world.specs.declared.channels.ChanReply.TheVariants as reply_of
use Rattle.rw_world.specs.declared.opening.Spec.{Spec}
use Rattle.rw_world.specs.declared.opening.Spec.TheVariants.{Broadcast, Watch}
use Rattle.rw_world.specs.Lists.{map_at}
use Rattle.rw_world.specs.Specified.{WorldEntry}
use Rattle.rw_findings.specs.declared.losses.loss.Loss.{Loss}
use Rattle.rw_findings.specs.declared.losses.loss.LossEnd.{LossEnd}
use Rattle.rw_findings.specs.declared.losses.loss.LossEnd.TheVariants.{Told, Dropped, Open}

-- the capacity of a broadcast, the places of its sends, and the position of each receiver under its handle's number
pub record Track : Type 0 where
  pub capacity : ℕ
  pub sends : List ℕ
  pub positions : List (Option ℕ)

-- a broadcast of this requested capacity at its opening, with sender 0 and receiver 1
abbrev pub opened_track : ℕ → Track
opened_track capacity = record { capacity = retained_capacity capacity; sends = []; positions = None ∷ Some 0 ∷ [] }

abbrev pub oldest_in : Track → ℕ
oldest_in t = length t.sends - t.capacity

abbrev pub lag_in : Track → ℕ → ℕ
lag_in t position = oldest_in t - position

abbrev pub position_in : Track → ℕ → Option ℕ
position_in t h = slice_index_or t.positions h None

-- the loss of a receiver at this position, if it lags: it began as many sends ago as it has lost values
abbrev pub loss_from : Track → (channel receiver : ℕ) → LossEnd → ℕ → Option Loss
loss_from t channel receiver end position =
    let lost = lag_in t position in
    if nat_eq lost 0 then None
    else Some (record { channel = channel; receiver = receiver; from = slice_index_or t.sends (length t.sends - lost) 0; lost = lost; end = end })

abbrev pub loss_in : Track → (channel receiver : ℕ) → LossEnd → Option Loss
loss_in t channel receiver end = option_and_then (loss_from t channel receiver end) (position_in t receiver)

-- where a receiver is after it has received its next value
abbrev pub next_position : Track → ℕ → Option ℕ
next_position t h = option_map (λ position. if nat_lt position (length t.sends) then position + 1 else position) (position_in t h)

-- with a handle at this position, if there is one
abbrev pub with_position : Track → Option ℕ → Option ℕ → Track
with_position t None position = t
with_position t (Some h) position = record t { positions = slice_set t.positions h position }

module _ {V : Type 0} where
  -- the handle that a call receives with or drops
  abbrev pub subject : BCall V → Option ℕ
  subject (TryRecv h) = Some h
  subject (Recv h) = Some h
  subject (DropHandle h) = Some h
  subject _ = None

  -- the loss that ends by a call with this reply
  abbrev pub loss_by : Track → (channel : ℕ) → BCall V → BReply V → (place : ℕ) → Option Loss
  loss_by t channel call (Lagged n) place = option_and_then (λ h. loss_in t channel h (Told place)) (subject call)
  loss_by t channel call reply.Dropped place = option_and_then (λ h. loss_in t channel h (Dropped place)) (subject call)
  loss_by t channel call _ place = None

  -- where a new handle starts, if it is a receiver
  abbrev pub first_position : Track → BCall V → Option ℕ
  first_position t (Subscribe h) = Some (length t.sends)
  first_position t (Resubscribe h) = Some (length t.sends)
  first_position t _ = None

  -- with a call that got this reply and leads to this place
  abbrev pub with_call : Track → BCall V → BReply V → (place : ℕ) → Track
  with_call t call (Sent n) place = record t { sends = t.sends ++ place ∷ [] }
  with_call t call (New h) place = record t { positions = t.positions ++ first_position t call ∷ [] }
  with_call t call (Value v) place = with_position t (subject call) (option_and_then (next_position t) (subject call))
  with_call t call (Lagged n) place = with_position t (subject call) (Some (oldest_in t))
  with_call t call reply.Dropped place = with_position t (subject call) None
  with_call t call _ place = t

  -- ---- of all channels, where a watch has no track

  -- a channel at its opening
  abbrev pub track_of : Spec V → Option Track
  track_of (Broadcast capacity) = Some (opened_track capacity)
  track_of (Watch init) = None

  abbrev pub opened_tracks : List (Spec V) → List (Option Track)
  opened_tracks specs = map track_of specs

  -- the tracks after a call on this channel
  abbrev pub with_call_on : List (Option Track) → ℕ → ChanCall V → ChanReply V → (place : ℕ) → List (Option Track)
  with_call_on ts channel (call_of.B call) (reply_of.B reply) place = map_at (option_map (λ t. with_call t call reply place)) ts channel
  with_call_on ts channel _ _ place = ts

  abbrev pub with_entry : List (Option Track) → WorldEntry V → (place : ℕ) → List (Option Track)
  with_entry ts e place = with_call_on ts e.call.channel e.call.call e.reply place

  -- the loss that ends by a call on this channel
  abbrev pub loss_on : List (Option Track) → ℕ → ChanCall V → ChanReply V → (place : ℕ) → Option Loss
  loss_on ts channel (call_of.B call) (reply_of.B reply) place = option_and_then
      (λ o. option_and_then (λ t. loss_by t channel call reply place) o)
      (slice_get ts channel)
  loss_on ts channel _ _ place = None

  abbrev pub loss_of_entry : List (Option Track) → WorldEntry V → (place : ℕ) → Option Loss
  loss_of_entry ts e place = loss_on ts e.call.channel e.call.call e.reply place

-- each channel has at most as many handles as it can make
abbrev pub HasFewHandles : List (Option Track) → Type 0
HasFewHandles ts = (channel : ℕ) (t : Track) → slice_get ts channel ≡ Some (Some t) → length t.positions ≤ MOST_HANDLES

-- ---- losses

-- with one more loss, if there is one
abbrev pub with_loss : List Loss → Option Loss → List Loss
with_loss losses None = losses
with_loss losses (Some loss) = losses ++ loss ∷ []

-- with the losses of the first receivers of a channel that lag, which have no end
abbrev pub with_open_of : List Loss → Track → (channel : ℕ) → (receivers : ℕ) → List Loss
with_open_of losses t channel zero = losses
with_open_of losses t channel (suc receiver) = with_loss (with_open_of losses t channel receiver) (loss_in t channel receiver Open)

abbrev pub with_open_at : List Loss → Option (Option Track) → (channel : ℕ) → List Loss
with_open_at losses (Some (Some t)) channel = with_open_of losses t channel (length t.positions)
with_open_at losses _ channel = losses

-- with those of the first channels
abbrev pub with_open : List Loss → List (Option Track) → (channels : ℕ) → List Loss
with_open losses ts zero = losses
with_open losses ts (suc channel) = with_open_at (with_open losses ts channel) (slice_get ts channel) channel
