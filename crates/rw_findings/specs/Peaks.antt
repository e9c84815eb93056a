-- The peaks of a run: how much the receivers of a channel lagged, and the like, at most in stretches of places.
use Rattle.std.specs.Prelude.{◌≡◌, ℕ, ◌+◌, ◌*◌, ◌<◌, ◌≤◌, ◌⊎◌, max, not, ◌&&◌, nat_eq, if◌then◌else◌, List, [], ◌∷◌, unwrap_or, slice_index_or}
use Rattle.rw_journal.specs.Run.{Run}
use Rattle.rw_navigator.specs.Conditions.{has, lag_at, seen_at, unread_at}
use Rattle.rw_navigator.specs.Places.{last_place, shown_at}
use Rattle.rw_world.specs.Channel.{handle_of}
use Rattle.rw_findings.specs.declared.peaks.measure.Measure.{Measure}
use Rattle.rw_findings.specs.declared.peaks.measure.Measure.TheVariants.{Lag, Unread, Unseen}
use Rattle.rw_findings.specs.declared.peaks.measure.Stretches.{Stretches}
use Rattle.rw_world.specs.declared.channels.ChanCall.{ChanCall}
use Rattle.rw_world.specs.declared.rows.RowCall.{RowCall}
use Rattle.rw_world.specs.Machines.{ChanShown}

-- what is measured of a live receiver: its lag, how many values it has yet to receive, or 1 for a watch whose value it has not
-- seen. It is 0 where there is no such receiver
abbrev pub measured : {V : Type 0} → Measure → List (ChanShown V) → (channel receiver : ℕ) → ℕ
measured Lag xs channel receiver = unwrap_or (lag_at xs channel receiver) 0
measured Unread xs channel receiver = unwrap_or (unread_at xs channel receiver) 0
measured Unseen xs channel receiver = if has not (seen_at xs channel receiver) then 1 else 0

-- the same by what is documented at a place of a run
abbrev pub measured_at : {V : Type 0} → Measure → Run V → (channel receiver place : ℕ) → ℕ
measured_at measure run channel receiver place = measured measure (shown_at run place) channel receiver

-- this is the greatest of these numbers at the places of a run from one up to another, or 0 where the run has none there
pub record IsGreatest (at : ℕ → ℕ) (last from to greatest : ℕ) : Type 0 where
  pub most : (place : ℕ) → place ≤ last → from ≤ place → place < to → at place ≤ greatest
  pub reached : (greatest ≡ 0) ⊎ ((place : ℕ) × (place ≤ last) × (from ≤ place) × (place < to) × (at place ≡ greatest))

-- where a stretch begins: each has as many places, and follows the one before it
abbrev pub start_of : Stretches → ℕ → ℕ
start_of stretches stretch = stretches.from + stretch * stretches.each

-- a receiver's peak in a stretch, by rows of peaks: what isn't in a row is 0
abbrev pub peak_in : List (List ℕ) → (receiver stretch : ℕ) → ℕ
peak_in rows receiver stretch = slice_index_or (slice_index_or rows receiver []) stretch 0

-- each receiver's peak in a stretch is the greatest of what is measured at its places
abbrev pub ArePeaks : {V : Type 0} → Run V → (channel : ℕ) → Measure → Stretches → List (List ℕ) → Type 0
ArePeaks run channel measure stretches rows = (receiver stretch : ℕ) → stretch < stretches.count
    → IsGreatest (measured_at measure run channel receiver) (last_place run)
    (start_of stretches stretch) (start_of stretches (stretch + 1)) (peak_in rows receiver stretch)

-- ---- inside

-- what is measured of a receiver of this channel
abbrev pub measured_of : {V : Type 0} → Measure → ChanShown V → (receiver : ℕ) → ℕ
measured_of measure x receiver = measured measure (x ∷ []) 0 receiver

-- from rows to rows, the peaks in one stretch are raised to what each receiver's level is there
abbrev pub raised_to : (stretch other : ℕ) → (before level : ℕ) → ℕ
raised_to stretch other before level = if nat_eq other stretch then max before level else before

abbrev pub Raised : (old new : List (List ℕ)) → (stretch : ℕ) → (level : ℕ → ℕ) → Type 0
Raised old new stretch level = (receiver other : ℕ) → peak_in new receiver other ≡ raised_to stretch other (peak_in old receiver other) (level receiver)

-- the level of one receiver alone, and the levels of the first receivers
abbrev pub alone : (receiver level : ℕ) → ℕ → ℕ
alone receiver level other = if nat_eq other receiver then level else 0

-- what is measured of the receiver that a call names, if it is on this channel
abbrev pub named_level : {V : Type 0} → Measure → (channel : ℕ) → ChanShown V → RowCall (ChanCall V) → ℕ → ℕ
named_level measure channel x call receiver = if nat_eq call.channel channel && nat_eq receiver (handle_of call.call) then measured_of measure x receiver else 0

-- from a place up to another, this is the greatest so far but for the last of these places
pub record IsSoFar (at : ℕ → ℕ) (from place greatest : ℕ) : Type 0 where
  pub most : (other : ℕ) → from ≤ other → other ≤ place → at other ≤ max greatest (at place)
  pub reached : (greatest ≡ 0) ⊎ ((other : ℕ) × (from ≤ other) × (other ≤ place) × (at other ≡ greatest))
