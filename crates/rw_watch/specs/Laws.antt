-- The laws of a watch channel, besides those of any machine whose steps can be undone.
use Rattle.std.specs.Prelude.{◌≡◌, List}
use Rattle.std.specs.List.{fold}
use Rattle.rw_watch.specs.declared.calls.WCall.{WCall}
use Rattle.rw_watch.specs.declared.calls.WReply.{WReply}
use Rattle.rw_watch.specs.Record.{Record, step, opening_record, after}
use Rattle.rw_watch.specs.Shown.{Shown, shown, next, reply_of, IsAllowed}

-- what a channel that shows x shows after these calls
abbrev pub shown_after : {V : Type 0} → Shown V → List (WCall V) → Shown V
shown_after x calls = fold next x calls

-- a step on what is shown is the documented step of the record: its reply is that of the record, and what is shown after
-- it is what the record after it shows
abbrev pub ShowsItsSteps : Type 0 → Type 0
ShowsItsSteps V = (r : Record V) (call : WCall V) → (reply_of (shown r) call ≡ (step r call).1) × (next (shown r) call ≡ shown (step r call).0)

-- after any calls from its opening, a channel shows what its record shows
abbrev pub ShowsItsRecord : Type 0 → Type 0
ShowsItsRecord V = (initial : V) (calls : List (WCall V)) → shown_after (shown (opening_record initial)) calls ≡ shown (after (opening_record initial) calls)

-- after any calls from its opening, a channel replies to a call as its record does
abbrev pub RepliesByRecord : Type 0 → Type 0
RepliesByRecord V = (initial : V) (calls : List (WCall V)) (call : WCall V)
    → reply_of (shown_after (shown (opening_record initial)) calls) call ≡ (step (after (opening_record initial) calls) call).1

-- what a channel shows after any calls is allowed
abbrev pub ShowsAllowed : Type 0 → Type 0
ShowsAllowed V = (initial : V) (calls : List (WCall V)) → IsAllowed (shown (after (opening_record initial) calls))

-- all that can be shown is shown by some record
abbrev pub IsShownBySome : Type 0 → Type 0
IsShownBySome V = (x : Shown V) → (r : Record V) × (shown r ≡ x)

-- the call leads from x to y with this reply, as documented: for each record that shows x, the reply is that of its step,
-- and y is what the record shows after its step
abbrev pub IsDocumented : {V : Type 0} → Shown V → WCall V → WReply V → Shown V → Type 0
IsDocumented {V} x call reply y = (r : Record V) → shown r ≡ x → (reply ≡ (step r call).1) × (y ≡ shown (step r call).0)
