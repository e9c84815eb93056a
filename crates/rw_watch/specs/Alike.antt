-- A watch channel that replies as another does, but for the numbers of handles: it has the same value, and the same receivers have
-- seen it. No reply tells more, as how many versions there were.
use Rattle.std.specs.Prelude.{◌≡◌, ℕ, ◌+◌, ◌<◌, ◌≤◌, true, List, [], ◌∷◌, Option, length, map, if◌then◌else◌}
use Rattle.rw_handles.specs.declared.kinds.Slot.{Slot}
use Rattle.rw_handles.specs.declared.kinds.Slot.TheVariants.{Live, Spent}
use Rattle.rw_handles.specs.declared.table.TheConstants.{MOST_HANDLES}
use Rattle.rw_watch.specs.declared.calls.WCall.{WCall}
use Rattle.rw_watch.specs.declared.calls.WReply.{WReply}
use Rattle.rw_watch.specs.Channel.{is_unseen, makes}
use Rattle.rw_watch.specs.Laws.{shown_after}
use Rattle.rw_watch.specs.Recent.{recent}
use Rattle.rw_watch.specs.Renaming.{IsRenamed, renamed_call, renamed_reply}
use Rattle.rw_watch.specs.Shown.{Shown, next, reply_of, IsAllowed}

-- the slot, with 1 in place of the mark of a receiver that has seen the value of this version, or else with 0
abbrev pub seen_slot : (version : ℕ) → Slot (Option ℕ) → Slot ℕ
seen_slot version (Live kind mark) = Live kind (if is_unseen version mark then 0 else 1)
seen_slot version Spent = Spent

-- y has the same value as x, and the handle of number h in x has the number `to h` in y: it is of the same kind there, and a
-- receiver has seen the value in both or in neither
abbrev pub IsAlike : {V : Type 0} → (to : ℕ → ℕ) → (x y : Shown V) → Type 0
IsAlike to x y = IsRenamed to (recent x) (recent y)

-- a law: a call has the same reply in a channel that is alike, but for the numbers of handles, and the channels stay alike. Where
-- the call makes a handle, neither channel may have made all that it may make.
abbrev pub RepliesAlike : Type 0 → Type 0
RepliesAlike V = (to : ℕ → ℕ) (x y : Shown V) (call : WCall V) → IsAllowed x → IsAllowed y → IsAlike to x y
    → (makes call ≡ true → (length x.slots < MOST_HANDLES) × (length y.slots < MOST_HANDLES))
    → (reply_of y (renamed_call to call) ≡ renamed_reply to (reply_of x call)) × IsAlike to (next x call) (next y (renamed_call to call))

-- the replies to calls, one after the other
abbrev pub replies_of : {V : Type 0} → Shown V → List (WCall V) → List (WReply V)
replies_of x [] = []
replies_of x (call ∷ calls) = reply_of x call ∷ replies_of (next x call) calls

-- a law: so it is with all later calls, as long as neither channel has made all that it may make
abbrev pub RepliesAlikeThroughout : Type 0 → Type 0
RepliesAlikeThroughout V = (to : ℕ → ℕ) (x y : Shown V) (calls : List (WCall V)) → IsAllowed x → IsAllowed y → IsAlike to x y
    → length x.slots + length calls ≤ MOST_HANDLES → length y.slots + length calls ≤ MOST_HANDLES
    → (replies_of y (map (renamed_call to) calls) ≡ map (renamed_reply to) (replies_of x calls))
    × IsAlike to (shown_after x calls) (shown_after y (map (renamed_call to) calls))

-- a law: channels that differ in the numbers of handles alone are alike
abbrev pub RenamedAreAlike : Type 0 → Type 0
RenamedAreAlike V = (to : ℕ → ℕ) (x y : Shown V) → IsRenamed to x y → IsAlike to x y

-- a law: what is like a channel that is like a third is like the third
abbrev pub AlikeTwice : Type 0 → Type 0
AlikeTwice V = (to onto : ℕ → ℕ) (x y z : Shown V) → IsAlike to x y → IsAlike onto y z → IsAlike (λ h. onto (to h)) x z
