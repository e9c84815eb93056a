-- What the search for totals keeps of a broadcast while it passes over its entries.
use Rattle.std.specs.Prelude.{◌≡◌, ◌<◌, ◌^◌, ℕ, ◌+◌, ◌-◌, nat_lt, if◌then◌else◌, List, [], ◌∷◌, ◌++◌}
use Rattle.std.specs.Prelude.{Option, Some, None, option_map, option_and_then, slice_set, slice_index_or}
use Rattle.rw_broadcast.specs.Arithmetic.{retained_capacity}
use Rattle.rw_broadcast.specs.declared.calls.BCall.{BCall}
use Rattle.rw_broadcast.specs.declared.calls.BCall.TheVariants.{Subscribe, Resubscribe}
use Rattle.rw_broadcast.specs.declared.calls.BReply.{BReply}
use Rattle.rw_broadcast.specs.declared.calls.BReply.TheVariants.{Sent, Value, Lagged, New}
use Rattle.rw_broadcast.specs.declared.calls.BReply.TheVariants as reply
use Rattle.rw_findings.specs.LossTracks.{subject}
use Rattle.rw_findings.specs.declared.totals.total.BroadcastCounts.{BroadcastCounts}
use Rattle.rw_findings.specs.declared.totals.broadcast.Reader.{Reader}

-- the capacity of a broadcast, how many values were sent, the place of the last send, and each receiver under its handle's number
pub record BroadcastTally : Type 0 where
  pub capacity : ℕ
  pub sent : ℕ
  pub last_send : ℕ
  pub readers : List (Option Reader)

-- a receiver that starts at this position
abbrev pub new_reader : ℕ → Reader
new_reader position = record { position = Some position; received = 0; told = 0; lost = 0; worst = 0; worst_place = 0 }

-- a broadcast of this requested capacity at its opening, with sender 0 and receiver 1
abbrev pub opened_broadcast : ℕ → BroadcastTally
opened_broadcast capacity = record { capacity = retained_capacity capacity; sent = 0; last_send = 0; readers = None ∷ Some (new_reader 0) ∷ [] }

abbrev pub oldest_of : BroadcastTally → ℕ
oldest_of t = t.sent - t.capacity

-- how much a receiver at this position lags, and 0 where it isn't there any more
abbrev pub lag_from : BroadcastTally → Option ℕ → ℕ
lag_from t None = 0
lag_from t (Some position) = oldest_of t - position

abbrev pub lag_of_reader : BroadcastTally → Reader → ℕ
lag_of_reader t r = lag_from t r.position

-- how many values it has yet to receive
abbrev pub unread_of_reader : BroadcastTally → Reader → Option ℕ
unread_of_reader t r = option_map (λ position. t.sent - position) r.position

-- with what it lags now among its losses. The last send made it lag so much
abbrev pub settled : BroadcastTally → Reader → Reader
settled t r =
    if nat_lt r.worst (lag_of_reader t r)
    then record r { lost = r.lost + lag_of_reader t r; worst = lag_of_reader t r; worst_place = t.last_send }
    else record r { lost = r.lost + lag_of_reader t r }

-- after it has received a value, was told that it lags, or was dropped
abbrev pub after_value : BroadcastTally → Reader → Reader
after_value t r = record r {
  position = option_map (λ position. if nat_lt position t.sent then position + 1 else position) r.position;
  received = r.received + 1;
}

abbrev pub after_lag : BroadcastTally → Reader → Reader
after_lag t r = record (settled t r) { position = Some (oldest_of t); told = r.told + 1 }

abbrev pub after_drop : BroadcastTally → Reader → Reader
after_drop t r = record (settled t r) { position = None }

abbrev pub reader_in : BroadcastTally → ℕ → Option Reader
reader_in t h = slice_index_or t.readers h None

-- with another reader under a handle's number, if there is one
abbrev pub with_reader : BroadcastTally → Option ℕ → Option Reader → BroadcastTally
with_reader t None r = t
with_reader t (Some h) r = record t { readers = slice_set t.readers h r }

module _ {V : Type 0} where
  -- the receiver that a call receives with or drops
  abbrev pub reader_of : BroadcastTally → BCall V → Option Reader
  reader_of t call = option_and_then (λ h. reader_in t h) (subject call)

  -- the receiver that a call makes, if it makes one
  abbrev pub made_reader : BroadcastTally → BCall V → Option Reader
  made_reader t (Subscribe h) = Some (new_reader t.sent)
  made_reader t (Resubscribe h) = Some (new_reader t.sent)
  made_reader t _ = None

  -- with a call that got this reply and leads to this place
  abbrev pub with_call : BroadcastTally → BCall V → BReply V → (place : ℕ) → BroadcastTally
  with_call t call (Sent n) place = record t { sent = t.sent + 1; last_send = place }
  with_call t call (New h) place = record t { readers = t.readers ++ made_reader t call ∷ [] }
  with_call t call (Value v) place = with_reader t (subject call) (option_map (after_value t) (reader_of t call))
  with_call t call (Lagged n) place = with_reader t (subject call) (option_map (after_lag t) (reader_of t call))
  with_call t call reply.Dropped place = with_reader t (subject call) (option_map (after_drop t) (reader_of t call))
  with_call t call _ place = t

-- what a receiver has received and lost
abbrev pub counts_from : BroadcastTally → Reader → BroadcastCounts
counts_from t r =
    let s = settled t r in
    record { received = s.received; told = s.told; lost = s.lost; worst = s.worst; worst_place = s.worst_place; unread = unread_of_reader t r }

-- ---- room

-- the counts of a receiver can grow by one
pub record HasRoomFor (t : BroadcastTally) (r : Reader) : Type 0 where
  pub received : r.received < 2 ^ 63
  pub told : r.told < 2 ^ 63
  pub lost : r.lost + lag_of_reader t r < 2 ^ 63

pub record HasRoom (t : BroadcastTally) : Type 0 where
  pub sent : t.sent < 2 ^ 63
  pub readers : (h : ℕ) (r : Reader) → reader_in t h ≡ Some r → HasRoomFor t r
