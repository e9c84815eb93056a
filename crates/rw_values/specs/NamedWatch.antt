-- A watch whose values are known by names: with the values in place of their names, all calls reply alike.
use Rattle.std.specs.Prelude.{◌≡◌, List, map}
use Rattle.rw_watch.specs.declared.calls.WCall.{WCall}
use Rattle.rw_watch.specs.declared.calls.WCall.TheVariants as call
use Rattle.rw_watch.specs.declared.calls.WReply.{WReply}
use Rattle.rw_watch.specs.declared.calls.WReply.TheVariants as reply
use Rattle.rw_watch.specs.Laws.{shown_after}
use Rattle.rw_watch.specs.Shown.{Shown, next, reply_of}

-- the call, with the value of this name
abbrev pub named_call : {V W : Type 0} → (V → W) → WCall V → WCall W
named_call f (call.Send h v) = call.Send h (f v)
named_call f (call.SendReplace h v) = call.SendReplace h (f v)
named_call f (call.Modify told h v) = call.Modify told h (f v)
named_call f (call.Subscribe h) = call.Subscribe h
named_call f (call.CloneSender h) = call.CloneSender h
named_call f (call.CloneReceiver h) = call.CloneReceiver h
named_call f (call.Borrow h) = call.Borrow h
named_call f (call.Update h) = call.Update h
named_call f (call.HasChanged h) = call.HasChanged h
named_call f (call.Changed h) = call.Changed h
named_call f (call.MarkChanged h) = call.MarkChanged h
named_call f (call.MarkUnchanged h) = call.MarkUnchanged h
named_call f (call.DropHandle h) = call.DropHandle h
named_call f (call.ReceiverCount h) = call.ReceiverCount h
named_call f (call.IsClosed h) = call.IsClosed h
named_call f (call.AwaitClosed h) = call.AwaitClosed h

-- the reply, with the value of this name
abbrev pub named_reply : {V W : Type 0} → (V → W) → WReply V → WReply W
named_reply f reply.Stored = reply.Stored
named_reply f (reply.NoReceivers v) = reply.NoReceivers (f v)
named_reply f (reply.Old v) = reply.Old (f v)
named_reply f (reply.Told told) = reply.Told told
named_reply f (reply.New h) = reply.New h
named_reply f (reply.Value v) = reply.Value (f v)
named_reply f (reply.Flag b) = reply.Flag b
named_reply f reply.Closed = reply.Closed
named_reply f reply.Waits = reply.Waits
named_reply f reply.Done = reply.Done
named_reply f (reply.Count n) = reply.Count n
named_reply f reply.Dropped = reply.Dropped
named_reply f reply.Unknown = reply.Unknown
named_reply f reply.Gone = reply.Gone
named_reply f reply.WrongKind = reply.WrongKind
named_reply f reply.TooManyHandles = reply.TooManyHandles

-- what is shown, with the value of the name
abbrev pub named : {V W : Type 0} → (V → W) → Shown V → Shown W
named f x = record { version = x.version; value = f x.value; slots = x.slots }

-- a call with a name replies with the name of the value with which the call with the value replies
abbrev pub WatchRepliesByName : Type 0 → Type 0 → Type 0
WatchRepliesByName V W = (f : V → W) (x : Shown V) (c : WCall V)
    → (reply_of (named f x) (named_call f c) ≡ named_reply f (reply_of x c)) × (next (named f x) (named_call f c) ≡ named f (next x c))

-- and so after any calls
abbrev pub WatchRepliesByNameThroughout : Type 0 → Type 0 → Type 0
WatchRepliesByNameThroughout V W = (f : V → W) (x : Shown V) (calls : List (WCall V)) (c : WCall V)
    → reply_of (shown_after (named f x) (map (named_call f) calls)) (named_call f c) ≡ named_reply f (reply_of (shown_after x calls) c)
