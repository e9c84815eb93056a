-- Laws of findings: a run has them in one way alone, and those of different kinds agree.
use Rattle.std.specs.Prelude.{◌≡◌, ℕ, ◌+◌, ◌-◌, ◌<◌, ◌≤◌, ◌&&◌, nat_eq, if◌then◌else◌, List, Some, length, slice_get, slice_index_or}
use Rattle.std.specs.List.{Contains, sum_by}
use Rattle.rw_broadcast.specs.declared.calls.BReply.TheVariants.{Lagged}
use Rattle.rw_journal.specs.Run.{IsRun, Run}
use Rattle.rw_world.specs.declared.channels.ChanCall.{ChanCall}
use Rattle.rw_world.specs.declared.channels.ChanCall.TheVariants as call
use Rattle.rw_world.specs.declared.channels.ChanReply.{ChanReply}
use Rattle.rw_world.specs.declared.channels.ChanReply.TheVariants as reply
use Rattle.rw_world.specs.Specified.{WorldEntry}
use Rattle.rw_navigator.specs.Places.{entry_to, last_place}
use Rattle.rw_findings.specs.Closings.{AreClosings}
use Rattle.rw_findings.specs.Lives.{AreLives, Life}
use Rattle.rw_findings.specs.Losses.{AreLosses, IsLoss, stop_of}
use Rattle.rw_findings.specs.Peaks.{ArePeaks, peak_in}
use Rattle.rw_findings.specs.Receivers.{position_then}
use Rattle.rw_findings.specs.Totals.{AreTotals, receiver_in}
use Rattle.rw_findings.specs.Values.{AreValues, oldest_at}
use Rattle.rw_findings.specs.declared.closings.closing.Closing.{Closing}
use Rattle.rw_findings.specs.declared.closings.closing.LateReader.{LateReader}
use Rattle.rw_findings.specs.declared.losses.loss.Loss.{Loss}
use Rattle.rw_findings.specs.declared.losses.loss.LossEnd.TheVariants.{Told}
use Rattle.rw_findings.specs.declared.peaks.measure.Measure.{Measure}
use Rattle.rw_findings.specs.declared.peaks.measure.Stretches.{Stretches}
use Rattle.rw_findings.specs.declared.totals.total.BroadcastCounts.{BroadcastCounts}
use Rattle.rw_findings.specs.declared.totals.total.Counts.TheVariants.{Broadcast}
use Rattle.rw_findings.specs.declared.totals.total.Totals.{Totals}
use Rattle.rw_findings.specs.declared.values.value.ChannelValue.{ChannelValue}

-- a run has one list of losses
abbrev pub LossesAreUnique : Type 0 → Type 0
LossesAreUnique V = (run : Run V) (these those : List Loss) → AreLosses run these → AreLosses run those → these ≡ those

-- one list of totals
abbrev pub TotalsAreUnique : Type 0 → Type 0
TotalsAreUnique V = (run : Run V) (these those : List Totals) → AreTotals run these → AreTotals run those → these ≡ those

-- one list of closings, and one of late readers
abbrev pub ClosingsAreUnique : Type 0 → Type 0
ClosingsAreUnique V = (run : Run V) (these those : List Closing) (readers others : List LateReader)
    → AreClosings run these readers → AreClosings run those others → (these ≡ those) × (readers ≡ others)

-- and one peak of each receiver in each stretch
abbrev pub PeaksAreUnique : Type 0 → Type 0
PeaksAreUnique V = (run : Run V) (channel : ℕ) (measure : Measure) (stretches : Stretches) (these those : List (List ℕ))
    → ArePeaks run channel measure stretches these → ArePeaks run channel measure stretches those
    → (receiver stretch : ℕ) → stretch < stretches.count → peak_in these receiver stretch ≡ peak_in those receiver stretch

-- the same life: each actor made as many calls
pub record IsSameLife (a b : Life) : Type 0 where
  pub kind : a.kind ≡ b.kind
  pub made : a.made ≡ b.made
  pub maker : a.maker ≡ b.maker
  pub dropped : a.dropped ≡ b.dropped
  pub calls : (actor : ℕ) → slice_index_or a.calls actor 0 ≡ slice_index_or b.calls actor 0

-- one life of each handle
abbrev pub LivesAreUnique : Type 0 → Type 0
LivesAreUnique V = (run : Run V) (channel : ℕ) (these those : List Life) → AreLives run channel these → AreLives run channel those
    → (length these ≡ length those)
    × ((handle : ℕ) (a b : Life) → slice_get these handle ≡ Some a → slice_get those handle ≡ Some b → IsSameLife a b)

-- and one list of a channel's values
abbrev pub ValuesAreUnique : Type 0 → Type 0
ValuesAreUnique V = (run : Run V) (channel : ℕ) (these those : List (ChannelValue V)) → AreValues run channel these → AreValues run channel those
    → these ≡ those

-- the call tells this receiver of a broadcast that it lags by this number
abbrev pub TellsLag : {V : Type 0} → (receiver lag : ℕ) → ChanCall V → ChanReply V → Type 0
TellsLag h n (call.B c) (reply.B (Lagged m)) = (receiver_in c ≡ Some h) × (m ≡ n)
TellsLag h n _ _ = ⊥

-- a loss that ends by being told ends at a receive that replies how many values were lost
abbrev pub ToldLossesAreReplies : Type 0 → Type 0
ToldLossesAreReplies V = (run : Run V) (loss : Loss) (place : ℕ) → IsRun run.specs run.entries → IsLoss run loss → loss.end ≡ Told place
    → (e : WorldEntry V) × (entry_to run place ≡ Some e) × (e.call.channel ≡ loss.channel) × TellsLag loss.receiver loss.lost e.call.call e.reply

-- A receiver stays at one position throughout a loss. The values lost are those from there on that are overwritten at its last place.
abbrev pub LostValuesFollow : Type 0 → Type 0
LostValuesFollow V = (run : Run V) (loss : Loss) → IsLoss run loss
    → (first : ℕ)
    × ((place : ℕ) → loss.from ≤ place → place < stop_of (last_place run) loss.end → position_then run loss.channel loss.receiver place ≡ Some first)
    × (first + loss.lost ≡ oldest_at run loss.channel (stop_of (last_place run) loss.end - 1))

-- what was lost by a loss, if it is this receiver's
abbrev pub lost_by : (channel receiver : ℕ) → Loss → ℕ
lost_by channel receiver loss = if nat_eq loss.channel channel && nat_eq loss.receiver receiver then loss.lost else 0

-- what a receiver lost in all is the sum of its losses
abbrev pub TotalsAddUp : Type 0 → Type 0
TotalsAddUp V = (run : Run V) (losses : List Loss) (totals : List Totals) → AreLosses run losses → AreTotals run totals
    → (t : Totals) (counts : BroadcastCounts) → Contains totals t → t.counts ≡ Broadcast counts → counts.lost ≡ sum_by (lost_by t.channel t.receiver) losses
