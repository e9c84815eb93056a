-- A broadcast channel that replies as another does, but for the numbers of handles: it retains the same values, and each handle
-- has as many of them to receive. No reply tells more, as how many values were ever sent.
use Rattle.std.specs.Prelude.{◌≡◌, ℕ, ◌+◌, ◌<◌, ◌≤◌, true, List, [], ◌∷◌, length, map}
use Rattle.rw_handles.specs.declared.kinds.Kind.TheVariants.{Receiver}
use Rattle.rw_handles.specs.declared.kinds.Slot.{Slot}
use Rattle.rw_handles.specs.declared.kinds.Slot.TheVariants.{Live, Spent}
use Rattle.rw_handles.specs.declared.table.TheConstants.{MOST_HANDLES}
use Rattle.rw_handles.specs.Renaming.{IsRenaming}
use Rattle.rw_broadcast.specs.declared.calls.BCall.{BCall}
use Rattle.rw_broadcast.specs.declared.calls.BReply.{BReply}
use Rattle.rw_broadcast.specs.Arithmetic.{unread}
use Rattle.rw_broadcast.specs.Channel.{makes}
use Rattle.rw_broadcast.specs.Laws.{shown_after}
use Rattle.rw_broadcast.specs.Renaming.{IsRenamed, renamed_call, renamed_reply}
use Rattle.rw_broadcast.specs.Shown.{Shown, next, reply_of, IsAllowed}

-- the slot, with how many values a receiver has yet to receive in place of its position
abbrev pub unread_slot : (sent : ℕ) → Slot ℕ → Slot ℕ
unread_slot sent (Live Receiver position) = Live Receiver (unread sent position)
unread_slot sent (Live kind position) = Live kind position
unread_slot sent Spent = Spent

abbrev pub unread_slots : {V : Type 0} → Shown V → List (Slot ℕ)
unread_slots x = map (unread_slot x.sent) x.slots

-- y retains the same values as x, and the handle of number h in x has the number `to h` in y: it is of the same kind there, and a
-- receiver has as many values to receive
pub record IsAlike {V : Type 0} (to : ℕ → ℕ) (x y : Shown V) : Type 0 where
  pub capacity : y.capacity ≡ x.capacity
  pub window : y.window ≡ x.window
  pub renaming : IsRenaming to (unread_slots x) (unread_slots y)

-- a law: a call has the same reply in a channel that is alike, but for the numbers of handles, and the channels stay alike. Where
-- the call makes a handle, neither channel may have made all that it may make.
abbrev pub RepliesAlike : Type 0 → Type 0
RepliesAlike V = (to : ℕ → ℕ) (x y : Shown V) (call : BCall V) → IsAllowed x → IsAllowed y → IsAlike to x y
    → (makes call ≡ true → (length x.slots < MOST_HANDLES) × (length y.slots < MOST_HANDLES))
    → (reply_of y (renamed_call to call) ≡ renamed_reply to (reply_of x call)) × IsAlike to (next x call) (next y (renamed_call to call))

-- the replies to calls, one after the other
abbrev pub replies_of : {V : Type 0} → Shown V → List (BCall V) → List (BReply V)
replies_of x [] = []
replies_of x (call ∷ calls) = reply_of x call ∷ replies_of (next x call) calls

-- a law: so it is with all later calls, as long as neither channel has made all that it may make
abbrev pub RepliesAlikeThroughout : Type 0 → Type 0
RepliesAlikeThroughout V = (to : ℕ → ℕ) (x y : Shown V) (calls : List (BCall V)) → IsAllowed x → IsAllowed y → IsAlike to x y
    → length x.slots + length calls ≤ MOST_HANDLES → length y.slots + length calls ≤ MOST_HANDLES
    → (replies_of y (map (renamed_call to) calls) ≡ map (renamed_reply to) (replies_of x calls))
    × IsAlike to (shown_after x calls) (shown_after y (map (renamed_call to) calls))

-- a law: channels that differ in the numbers of handles alone are alike
abbrev pub RenamedAreAlike : Type 0 → Type 0
RenamedAreAlike V = (to : ℕ → ℕ) (x y : Shown V) → IsRenamed to x y → IsAlike to x y

-- a law: what is like a channel that is like a third is like the third
abbrev pub AlikeTwice : Type 0 → Type 0
AlikeTwice V = (to onto : ℕ → ℕ) (x y z : Shown V) → IsAlike to x y → IsAlike onto y z → IsAlike (λ h. onto (to h)) x z
