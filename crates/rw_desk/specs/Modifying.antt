-- A modification by a closure.
use Rattle.std.specs.Prelude.{◌≡◌, ◌≢◌, ◌⊎◌, ℕ, Bool, false, Option, Some, slice_get}
use Rattle.rw_handles.specs.declared.kinds.Kind.TheVariants.{Sender}
use Rattle.rw_handles.specs.Slots.{kind_at}
use Rattle.rw_watch.specs.declared.calls.WCall.{WCall}
use Rattle.rw_watch.specs.declared.calls.WCall.TheVariants.{Modify}
use Rattle.rw_watch.specs.declared.calls.WReply.{WReply}
use Rattle.rw_watch.specs.declared.calls.WReply.TheVariants.{Told}
use Rattle.rw_world.specs.declared.channels.ChanCall.TheVariants as call
use Rattle.rw_world.specs.declared.channels.ChanReply.{ChanReply}
use Rattle.rw_world.specs.declared.channels.ChanReply.TheVariants as reply
use Rattle.rw_world.specs.declared.opening.Spec.{Spec}
use Rattle.rw_world.specs.Kinds.{broadcast_shown, watch_shown}
use Rattle.rw_world.specs.Machines.{ChanShown}
use Rattle.rw_desk.specs.Passes.{HasReceipt, Pass}
use Rattle.rw_desk.specs.Waiting.{IsHandleRefusal}

-- v is the value of a watch
abbrev pub IsValueOf : {V : Type 0} → ChanShown V → V → Type 0
IsValueOf (broadcast_shown x) v = ⊥
IsValueOf (watch_shown y) v = y.value ≡ v

module _ {V : Type 0} (makes : V → Bool → V → Type 0) where
  -- the call stores what the closure makes of the value; if the handle isn't a live sender, it has the value unchanged and `told` false
  abbrev pub IsModification : ChanShown V → ℕ → WCall V → Type 0
  IsModification (broadcast_shown x) sender c = ⊥
  IsModification (watch_shown y) sender c =
      ((kind_at (slice_get y.slots sender) ≡ Some Sender) × (told : Bool) × (made : V) × makes y.value told made × (c ≡ Modify told sender made))
      ⊎ ((kind_at (slice_get y.slots sender) ≢ Some Sender) × (c ≡ Modify false sender y.value))

  module _ (is_now : V → Type 0) (spec : Option (Spec V)) (old new : Pass V) (channel sender : ℕ) where
    -- what the closure made of the value was stored
    pub record WasStored (r : WReply V) : Type 0 where
      pub value : V
      pub told : Bool
      pub made : V
      pub now : is_now value
      pub makes_it : makes value told made
      pub answer : r ≡ Told told
      pub receipt : HasReceipt spec old new channel (call.W (Modify told sender made)) (reply.W r)

    -- the handle was refused, and the receipt has the value unchanged
    pub record WasRefused (r : WReply V) : Type 0 where
      pub value : V
      pub now : is_now value
      pub refused : IsHandleRefusal r
      pub receipt : HasReceipt spec old new channel (call.W (Modify false sender value)) (reply.W r)

    abbrev pub HasModified : WReply V → Type 0
    HasModified r = WasStored r ⊎ WasRefused r

    -- the same for a reply of either kind of channel
    abbrev pub HasModifiedChannel : ChanReply V → Type 0
    HasModifiedChannel (reply.W r) = HasModified r
    HasModifiedChannel r = ⊥
