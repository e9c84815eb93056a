-- The laws of a broadcast channel, besides those of any machine whose steps can be undone.
use Rattle.std.specs.Prelude.{◌≡◌, ℕ, ◌<◌, ◌≤◌, List}
use Rattle.std.specs.List.{fold}
use Rattle.std.specs.Int.{IsNextPowerOfTwo}
use Rattle.rw_ring.specs.declared.ring.TheConstants.{MOST_CAPACITY}
use Rattle.rw_broadcast.specs.declared.calls.BCall.{BCall}
use Rattle.rw_broadcast.specs.declared.calls.BReply.{BReply}
use Rattle.rw_broadcast.specs.Arithmetic.{retained_capacity}
use Rattle.rw_broadcast.specs.Record.{Record, step, opening_record, after}
use Rattle.rw_broadcast.specs.Shown.{Shown, shown, next, reply_of, IsAllowed}

-- what a channel that shows x shows after these calls
abbrev pub shown_after : {V : Type 0} → Shown V → List (BCall V) → Shown V
shown_after x calls = fold next x calls

-- a step on what is shown is the documented step of the record: its reply is that of the record, and what is shown after
-- it is what the record after it shows
abbrev pub ShowsItsSteps : Type 0 → Type 0
ShowsItsSteps V = (r : Record V) (call : BCall V) → 0 < r.capacity →
    (reply_of (shown r) call ≡ (step r call).1) × (next (shown r) call ≡ shown (step r call).0)

-- after any calls from its opening, a channel shows what its record shows
abbrev pub ShowsItsRecord : Type 0 → Type 0
ShowsItsRecord V = (asked : ℕ) (calls : List (BCall V)) → shown_after (shown (opening_record asked)) calls ≡ shown (after (opening_record asked) calls)

-- after any calls from its opening, a channel replies to a call as its record does
abbrev pub RepliesByRecord : Type 0 → Type 0
RepliesByRecord V = (asked : ℕ) (calls : List (BCall V)) (call : BCall V)
    → reply_of (shown_after (shown (opening_record asked)) calls) call ≡ (step (after (opening_record asked) calls) call).1

-- what a channel shows after any calls is allowed
abbrev pub ShowsAllowed : Type 0 → Type 0
ShowsAllowed V = (asked : ℕ) (calls : List (BCall V)) → IsAllowed (shown (after (opening_record asked) calls))

-- all that is allowed is shown by some record
abbrev pub IsShownBySome : Type 0 → Type 0
IsShownBySome V = (x : Shown V) → IsAllowed x → (r : Record V) × (0 < r.capacity) × (shown r ≡ x)

-- the retained capacity is the least power of two that is at least the requested one
abbrev pub RetainsNextPower : Type 0
RetainsNextPower = (asked : ℕ) → 0 < asked → asked ≤ MOST_CAPACITY → IsNextPowerOfTwo asked (retained_capacity asked)

-- the call leads from x to y with this reply, as documented: for each record that shows x, the reply is that of its step,
-- and y is what the record shows after its step
abbrev pub IsDocumented : {V : Type 0} → Shown V → BCall V → BReply V → Shown V → Type 0
IsDocumented {V} x call reply y = (r : Record V) → shown r ≡ x → (reply ≡ (step r call).1) × (y ≡ shown (step r call).0)
