-- A wait for a value for which a closure returns true.
use Rattle.std.specs.Prelude.{◌≡◌, ◌⊎◌, ℕ, zero, suc, Bool, true, false, Option, Result, MatchResult}
use Rattle.rw_handles.specs.declared.kinds.HandleFault.{HandleFault}
use Rattle.rw_watch.specs.Channel.{fault_reply}
use Rattle.rw_watch.specs.declared.calls.WCall.TheVariants.{Update, Changed}
use Rattle.rw_watch.specs.declared.calls.WReply.{WReply}
use Rattle.rw_watch.specs.declared.calls.WReply.TheVariants.{Value, Done, Closed}
use Rattle.rw_world.specs.declared.channels.ChanCall.TheVariants as call
use Rattle.rw_world.specs.declared.channels.ChanReply.TheVariants as reply
use Rattle.rw_world.specs.declared.opening.Spec.{Spec}
use Rattle.rw_desk.specs.declared.faults.DeskFault.{DeskFault}
use Rattle.rw_desk.specs.Passes.{HasReceipt, Pass}

-- the reply is the refusal of a handle that can't be used
abbrev pub IsHandleRefusal : {V : Type 0} → WReply V → Type 0
IsHandleRefusal r = (fault : HandleFault) × (r ≡ fault_reply fault)

module _ {V : Type 0} (spec : Option (Spec V)) (channel receiver : ℕ) where
  -- the pass has one more receipt, of a read that marks the value as seen
  abbrev pub HasLooked : Pass V → Pass V → WReply V → Type 0
  HasLooked old new r = HasReceipt spec old new channel (call.W (Update receiver)) (reply.W r)

  -- the same, of a wait for a change
  abbrev pub HasChanged : Pass V → Pass V → WReply V → Type 0
  HasChanged old new r = HasReceipt spec old new channel (call.W (Changed receiver)) (reply.W r)

module _ {V : Type 0} (tells : V → Bool → Type 0) (spec : Option (Spec V)) (channel receiver : ℕ) where
  -- the value was read, the closure returned false for it, and the wait for a change that followed got this reply
  pub record HasTried (old new : Pass V) (r : WReply V) : Type 0 where
    pub value : V
    pub between : Pass V
    pub looked : HasLooked spec channel receiver old between (Value value)
    pub untrue : tells value false
    pub changed : HasChanged spec channel receiver between new r

  -- this happened n times in a row, with a change each time
  abbrev pub HasTriedTimes : ℕ → Pass V → Pass V → Type 0
  HasTriedTimes zero old new = new ≡ old
  HasTriedTimes (suc n) old new = (between : Pass V) × HasTriedTimes n old between × HasTried between new Done

  -- the last turn, by its reply: the closure returned true for the value; or the read was refused; or the wait for a change was refused, or
  -- found the channel closed
  abbrev pub HasEnded : Pass V → Pass V → WReply V → Type 0
  HasEnded old new r =
      ((v : V) × (r ≡ Value v) × tells v true × HasLooked spec channel receiver old new r)
      ⊎ (IsHandleRefusal r × HasLooked spec channel receiver old new r)
      ⊎ (((r ≡ Closed) ⊎ IsHandleRefusal r) × HasTried old new r)

  -- the last turn, if it ended in a fault: nothing was done, or the value was read and the closure returned false for it
  abbrev pub HasBroken : Pass V → Pass V → Type 0
  HasBroken old new = (new ≡ old) ⊎ ((v : V) × tells v false × HasLooked spec channel receiver old new (Value v))

  -- the whole wait
  pub record HasWaited (old new : Pass V) (answer : Result (WReply V) DeskFault) : Type 0 where
    pub times : ℕ
    pub last : Pass V
    pub tried : HasTriedTimes times old last
    pub end : MatchResult answer (HasEnded last new) (λ fault. HasBroken last new)
