-- Worked examples of the documented step, computed.
use Rattle.std.proofs.Common.{◌≡◌, ℕ, true, false, [], ◌∷◌, refl}
use Rattle.std.specs.Prelude.{Some, None}
use Rattle.rw_handles.specs.declared.kinds.Kind.TheVariants.{Sender, Receiver}
use Rattle.rw_handles.specs.declared.kinds.Slot.TheVariants.{Live}
use Rattle.rw_watch.specs.declared.calls.WCall.TheVariants.{Send, SendReplace, Modify, Subscribe, CloneReceiver, Borrow, HasChanged, Changed}
use Rattle.rw_watch.specs.declared.calls.WCall.TheVariants.{MarkChanged, MarkUnchanged, DropHandle, ReceiverCount, IsClosed, AwaitClosed}
use Rattle.rw_watch.specs.declared.calls.WReply.TheVariants.{Stored, NoReceivers, Old, Told, New, Value, Flag, Closed, Done, Count, Dropped}
use Rattle.rw_watch.specs.Record.{opening_record, replies, after}
use Rattle.rw_watch.specs.Shown.{shown}

-- sending the same value again is a change
same_value-replies : replies {V = ℕ} (opening_record 7) (HasChanged 1 ∷ Send 0 7 ∷ HasChanged 1 ∷ Changed 1 ∷ HasChanged 1 ∷ [])
    ≡ Flag false ∷ Stored ∷ Flag true ∷ Done ∷ Flag false ∷ []
same_value-replies = refl

same_value-shown : shown {V = ℕ} (after (opening_record 7) (HasChanged 1 ∷ Send 0 7 ∷ HasChanged 1 ∷ Changed 1 ∷ HasChanged 1 ∷ []))
    ≡ record { version = 1; value = 7; slots = Live Sender None ∷ Live Receiver (Some 1) ∷ [] }
same_value-shown = refl

same_value-shown_at_3 : shown {V = ℕ} (after (opening_record 7) (HasChanged 1 ∷ Send 0 7 ∷ HasChanged 1 ∷ []))
    ≡ record { version = 1; value = 7; slots = Live Sender None ∷ Live Receiver (Some 0) ∷ [] }
same_value-shown_at_3 = refl

-- the last change of a closed watch is still received, once
last_change-replies : replies {V = ℕ} (opening_record 7) (Send 0 8 ∷ DropHandle 0 ∷ HasChanged 1 ∷ Changed 1 ∷ Changed 1 ∷ Borrow 1 ∷ [])
    ≡ Stored ∷ Dropped ∷ Closed ∷ Done ∷ Closed ∷ Value 8 ∷ []
last_change-replies = refl

-- on a watch without receivers, Send stores nothing
without_receivers-replies : replies {V = ℕ} (opening_record 1)
    (DropHandle 1 ∷ IsClosed 0 ∷ AwaitClosed 0 ∷ ReceiverCount 0 ∷ Send 0 2 ∷ Borrow 0 ∷ SendReplace 0 3 ∷ Subscribe 0 ∷ HasChanged 2 ∷ Borrow 2 ∷ [])
    ≡ Dropped ∷ Flag true ∷ Done ∷ Count 0 ∷ NoReceivers 2 ∷ Value 1 ∷ Old 1 ∷ New 2 ∷ Flag false ∷ Value 3 ∷ []
without_receivers-replies = refl

-- a silent modification is seen and not notified
silent-replies : replies {V = ℕ} (opening_record 1) (Modify false 0 5 ∷ Borrow 1 ∷ HasChanged 1 ∷ []) ≡ Told false ∷ Value 5 ∷ Flag false ∷ []
silent-replies = refl

silent-shown : shown {V = ℕ} (after (opening_record 1) (Modify false 0 5 ∷ Borrow 1 ∷ HasChanged 1 ∷ []))
    ≡ record { version = 0; value = 5; slots = Live Sender None ∷ Live Receiver (Some 0) ∷ [] }
silent-shown = refl

-- a cloned receiver has the mark of its source
cloned-replies : replies {V = ℕ} (opening_record 4)
    (MarkChanged 1 ∷ MarkChanged 1 ∷ CloneReceiver 1 ∷ MarkUnchanged 1 ∷ HasChanged 1 ∷ HasChanged 2 ∷ Changed 2 ∷ [])
    ≡ Done ∷ Done ∷ New 2 ∷ Done ∷ Flag false ∷ Flag true ∷ Done ∷ []
cloned-replies = refl

cloned-shown_at_4 : shown {V = ℕ} (after (opening_record 4) (MarkChanged 1 ∷ MarkChanged 1 ∷ CloneReceiver 1 ∷ MarkUnchanged 1 ∷ []))
    ≡ record { version = 0; value = 4; slots = Live Sender None ∷ Live Receiver (Some 0) ∷ Live Receiver None ∷ [] }
cloned-shown_at_4 = refl

cloned-shown : shown {V = ℕ} (after (opening_record 4)
    (MarkChanged 1 ∷ MarkChanged 1 ∷ CloneReceiver 1 ∷ MarkUnchanged 1 ∷ HasChanged 1 ∷ HasChanged 2 ∷ Changed 2 ∷ []))
    ≡ record { version = 0; value = 4; slots = Live Sender None ∷ Live Receiver (Some 0) ∷ Live Receiver (Some 0) ∷ [] }
cloned-shown = refl
