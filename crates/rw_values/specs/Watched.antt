-- The value that is stored beside a watch of numbers, and what each call leaves there.
use Rattle.std.specs.Prelude.{◌≡◌, Bool, true, false, if◌then◌else◌, List, [], ◌∷◌}
use Rattle.rw_watch.specs.declared.calls.WCall.{WCall}
use Rattle.rw_watch.specs.declared.calls.WCall.TheVariants.{Send, SendReplace, Modify}
use Rattle.rw_watch.specs.declared.calls.WReply.{WReply}
use Rattle.rw_watch.specs.declared.calls.WReply.TheVariants.{Stored, Old, Told}
use Rattle.rw_watch.specs.Laws.{shown_after}
use Rattle.rw_watch.specs.Shown.{Shown, next, reply_of}

-- what is stored after a send: the value that was sent, if it is to be stored
abbrev pub after_send : {V : Type 0} → (stored sent : V) → (is_stored : Bool) → V
after_send stored sent is_stored = if is_stored then sent else stored

-- and what the sender has then: the value before it, or the one that it sent
abbrev pub returned_by_send : {V : Type 0} → (stored sent : V) → (is_stored : Bool) → V
returned_by_send stored sent is_stored = if is_stored then stored else sent

-- whether a reply says that the value is stored: the value of a send is, that of a replacement and that of a change
abbrev pub says_stored : {N : Type 0} → WReply N → Bool
says_stored Stored = true
says_stored (Old before) = true
says_stored (Told notified) = true
says_stored _ = false

-- the value that a call sends, where `f n` is the value of number n; that which is stored, if it sends none
abbrev pub sent_by : {N V : Type 0} → (f : N → V) → WCall N → (stored : V) → V
sent_by f (Send h n) stored = f n
sent_by f (SendReplace h n) stored = f n
sent_by f (Modify told h n) stored = f n
sent_by f _ stored = stored

-- what is stored after a call with this reply
abbrev pub stored_after : {N V : Type 0} → (f : N → V) → WCall N → WReply N → (stored : V) → V
stored_after f call reply stored = after_send stored (sent_by f call stored) (says_stored reply)

-- the same after several calls, each with its reply
abbrev pub stored_after_all : {N V : Type 0} → (f : N → V) → Shown N → List (WCall N) → (stored : V) → V
stored_after_all f x [] stored = stored
stored_after_all f x (call ∷ calls) stored = stored_after_all f (next x call) calls (stored_after f call (reply_of x call) stored)

-- So what is stored is the value of the number that the watch holds: the most recently sent one.
abbrev pub StoresTheLast : Type 0 → Type 0 → Type 0
StoresTheLast N V = (f : N → V) (x : Shown N) (calls : List (WCall N))
    → stored_after_all f x calls (f x.value) ≡ f (shown_after x calls).value
