-- The losses of a run: the longest stretches of places at which a receiver of a broadcast lags.
use Rattle.std.specs.Prelude.{◌≡◌, ℕ, ◌+◌, ◌-◌, ◌*◌, ◌<◌, ◌≤◌, ◌⊎◌, List, length, Option, Some, None, unwrap_or, slice_index_or}
use Rattle.std.specs.List.{All, Contains}
use Rattle.rw_journal.specs.Run.{Run}
use Rattle.rw_navigator.specs.Conditions.{lag_at}
use Rattle.rw_navigator.specs.Places.{last_place, shown_at}
use Rattle.rw_findings.specs.declared.losses.loss.Loss.{Loss}
use Rattle.rw_findings.specs.declared.losses.loss.LossEnd.{LossEnd}
use Rattle.rw_findings.specs.declared.losses.loss.LossEnd.TheVariants.{Told, Dropped, Open}

-- the place where a loss ended; without an end, the one after the last
abbrev pub stop_of : (last : ℕ) → LossEnd → ℕ
stop_of last (Told place) = place
stop_of last (Dropped place) = place
stop_of last Open = last + 1

-- where this is the lag of each live receiver at each place, and None where there is no such receiver
module _ (lag : (channel receiver place : ℕ) → Option ℕ) where
  -- how many values were overwritten before the receiver had received them
  abbrev pub lag_of : (channel receiver place : ℕ) → ℕ
  lag_of channel receiver place = unwrap_or (lag channel receiver place) 0

  -- at the end the receiver is there and doesn't lag, or it isn't there any more
  abbrev pub EndsAs : (last channel receiver : ℕ) → LossEnd → Type 0
  EndsAs last channel receiver (Told place) = (place ≤ last) × (lag channel receiver place ≡ Some 0)
  EndsAs last channel receiver (Dropped place) = (place ≤ last) × (lag channel receiver place ≡ None)
  EndsAs last channel receiver Open = Unit {0}

  -- a longest stretch of places, up to the last, at which the receiver lags: not at the place before, at each from the first on,
  -- and no more at the end. What is lost is the lag at the last of them
  pub record IsStretch (last : ℕ) (loss : Loss) : Type 0 where
    pub before : lag_of loss.channel loss.receiver (loss.from - 1) ≡ 0
    pub some : loss.from < stop_of last loss.end
    pub lags : (place : ℕ) → loss.from ≤ place → place < stop_of last loss.end → 0 < lag_of loss.channel loss.receiver place
    pub ends : EndsAs last loss.channel loss.receiver loss.end
    pub lost : lag_of loss.channel loss.receiver (stop_of last loss.end - 1) ≡ loss.lost

-- a loss of a run, by what is documented at its places
abbrev pub IsLoss : {V : Type 0} → Run V → Loss → Type 0
IsLoss run loss = IsStretch (λ channel receiver place. lag_at (shown_at run place) channel receiver) (last_place run) loss

-- a loss comes before another: by the place where it began, then by channel, then by receiver
abbrev pub ComesBefore : Loss → Loss → Type 0
ComesBefore a b = (a.from < b.from)
    ⊎ ((a.from ≡ b.from) × ((a.channel < b.channel) ⊎ ((a.channel ≡ b.channel) × (a.receiver < b.receiver))))

-- the list has exactly the losses of the run, in order
pub record AreLosses {V : Type 0} (run : Run V) (losses : List Loss) : Type 0 where
  pub each : All (λ loss. IsLoss run loss) losses
  pub all : (loss : Loss) → IsLoss run loss → Contains losses loss
  pub ordered : (i j : ℕ) (d : Loss) → i < j → j < length losses → ComesBefore (slice_index_or losses i d) (slice_index_or losses j d)

-- ---- inside

-- the number by which losses are sorted
abbrev pub order_of : Loss → ℕ
order_of loss = (loss.from * 4294967296 + loss.channel) * 4294967296 + loss.receiver
