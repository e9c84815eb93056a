-- Calls and reads by one `HandSeat`, on the book of its channel.
use Rattle.std.specs.Prelude.{◌≡◌, ℕ, ◌<◌, List, IfSome}
use Rattle.rw_world.specs.declared.channels.Chan.{Chan}
use Rattle.rw_world.specs.declared.channels.ChanCall.{ChanCall}
use Rattle.rw_world.specs.Machines.{ChanShown, of_chan}
use Rattle.rw_world.specs.Specified.{ChanEntry}
use Rattle.rw_desk.specs.declared.faults.DeskFault.{DeskFault}
use Rattle.rw_desk.specs.Passes.{Pass, with_receipt}
use Rattle.rw_seat.specs.declared.answered.Answered.{Answered}
use Rattle.rw_seat.specs.HandOffs.{Home}
use Rattle.rw_seat.specs.Fronts.{EndsWithCall, HasGoneOn, IsFaultAfter}

module _ {V : Type 0} where
  -- P holds of what the channel showed before its first entry
  abbrev pub OfOpening : Home (Chan V) → (ChanShown V → Type 0) → Type 0
  OfOpening home P = IfSome home.start (λ channel. P ((of_chan {V = V}).shown channel))

  -- the call was made: the front ends with it, and the pass has its receipt
  pub record IsMade (old new : Pass V) (seen now : List (ChanEntry V)) (channel : ℕ) (call : ChanCall V) (answer : Answered V) : Type 0 where
    pub front : EndsWithCall old.actor call answer seen now
    pub above : old.clock < answer.stamp
    pub pass : new ≡ with_receipt old channel answer.stamp call answer.reply

  -- it wasn't: the front may have grown, and the call has this fault after it
  pub record IsNotMade (home : Home (Chan V)) (old new : Pass V) (seen now : List (ChanEntry V)) (call : ChanCall V) (fault : DeskFault) : Type 0 where
    pub pass : new ≡ old
    pub front : HasGoneOn old.actor seen now
    pub reason : OfOpening home (λ x. IsFaultAfter x now old.clock call fault)
