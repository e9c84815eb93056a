-- Calls by sender 0 that lead a new channel to given values and handles.
use Rattle.std.specs.Prelude.{◌≡◌, ℕ, ◌+◌, ◌<◌, List, [], ◌∷◌, ◌++◌, length}
use Rattle.rw_handles.specs.declared.kinds.Kind.TheVariants.{Sender, Receiver, Weak}
use Rattle.rw_handles.specs.declared.kinds.Slot.{Slot}
use Rattle.rw_handles.specs.declared.kinds.Slot.TheVariants.{Live}
use Rattle.rw_handles.specs.declared.table.TheConstants.{MOST_HANDLES}
use Rattle.rw_broadcast.specs.declared.calls.BCall.{BCall}
use Rattle.rw_broadcast.specs.declared.calls.BCall.TheVariants as call
use Rattle.rw_broadcast.specs.Record.{Record, after}

-- what sender 0 does: it sends a value, or makes a handle
pub data Act (V : Type 0) : Type 0 where
  Sends : V → Act V
  MakesReceiver : Act V
  MakesSender : Act V
  MakesWeak : Act V

module _ {V : Type 0} where
  -- the call that does it
  abbrev pub call_of : Act V → BCall V
  call_of (Sends v) = call.Send 0 v
  call_of MakesReceiver = call.Subscribe 0
  call_of MakesSender = call.CloneSender 0
  call_of MakesWeak = call.Downgrade 0

  abbrev pub calls_of : List (Act V) → List (BCall V)
  calls_of [] = []
  calls_of (act ∷ acts) = call_of act ∷ calls_of acts

  -- the values that are sent
  abbrev pub sent_by : List (Act V) → List V
  sent_by [] = []
  sent_by (Sends v ∷ acts) = v ∷ sent_by acts
  sent_by (_ ∷ acts) = sent_by acts

  -- the handles that are made, where this many values were sent before. A receiver begins where the values end
  abbrev pub made_by : ℕ → List (Act V) → List (Slot ℕ)
  made_by sent [] = []
  made_by sent (Sends v ∷ acts) = made_by (sent + 1) acts
  made_by sent (MakesReceiver ∷ acts) = Live Receiver sent ∷ made_by sent acts
  made_by sent (MakesSender ∷ acts) = Live Sender 0 ∷ made_by sent acts
  made_by sent (MakesWeak ∷ acts) = Live Weak 0 ∷ made_by sent acts

  -- a channel to which these values were sent, with its first two handles and those made since
  abbrev pub grown : (capacity : ℕ) → (sent : List V) → (made : List (Slot ℕ)) → Record V
  grown capacity sent made = record { capacity = capacity; sent = sent; slots = Live Sender 0 ∷ Live Receiver 0 ∷ made }

-- a law: acts lead to the values that they send and the handles that they make, where these aren't too many
abbrev pub LeadsTo : Type 0 → Type 0
LeadsTo V = (capacity : ℕ) (sent : List V) (made : List (Slot ℕ)) (acts : List (Act V))
    → length made + length acts + 2 < MOST_HANDLES
    → after (grown capacity sent made) (calls_of acts) ≡ grown capacity (sent ++ sent_by acts) (made ++ made_by (length sent) acts)
