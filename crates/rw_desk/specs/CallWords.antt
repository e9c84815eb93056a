-- Calls with the words of their values in place of the values.
use Rattle.std.specs.Prelude.{ℕ}
use Rattle.rw_broadcast.specs.declared.calls.BCall.{BCall}
use Rattle.rw_broadcast.specs.declared.calls.BCall.TheVariants as b
use Rattle.rw_watch.specs.declared.calls.WCall.{WCall}
use Rattle.rw_watch.specs.declared.calls.WCall.TheVariants as w

-- a broadcast's call with its value's word in place of the value
abbrev pub of_broadcast : {V : Type 0} → (V → ℕ) → BCall V → BCall ℕ
of_broadcast word_of (b.Send h v) = b.Send h (word_of v)
of_broadcast word_of (b.Subscribe h) = b.Subscribe h
of_broadcast word_of (b.CloneSender h) = b.CloneSender h
of_broadcast word_of (b.Resubscribe h) = b.Resubscribe h
of_broadcast word_of (b.TryRecv h) = b.TryRecv h
of_broadcast word_of (b.Recv h) = b.Recv h
of_broadcast word_of (b.DropHandle h) = b.DropHandle h
of_broadcast word_of (b.SenderLen h) = b.SenderLen h
of_broadcast word_of (b.ReceiverCount h) = b.ReceiverCount h
of_broadcast word_of (b.ReceiverLen h) = b.ReceiverLen h
of_broadcast word_of (b.Downgrade h) = b.Downgrade h
of_broadcast word_of (b.Upgrade h) = b.Upgrade h
of_broadcast word_of (b.CloneWeak h) = b.CloneWeak h

-- P holds of the value of a broadcast's call, if it has one
abbrev pub OfBroadcastValue : {V : Type 0} → (V → Type 0) → BCall V → Type 0
OfBroadcastValue P (b.Send h v) = P v
OfBroadcastValue P call = Unit {0}

-- a watch's call with its value's word in place of the value
abbrev pub of_watch : {V : Type 0} → (V → ℕ) → WCall V → WCall ℕ
of_watch word_of (w.Send h v) = w.Send h (word_of v)
of_watch word_of (w.SendReplace h v) = w.SendReplace h (word_of v)
of_watch word_of (w.Modify told h v) = w.Modify told h (word_of v)
of_watch word_of (w.Subscribe h) = w.Subscribe h
of_watch word_of (w.CloneSender h) = w.CloneSender h
of_watch word_of (w.CloneReceiver h) = w.CloneReceiver h
of_watch word_of (w.Borrow h) = w.Borrow h
of_watch word_of (w.Update h) = w.Update h
of_watch word_of (w.HasChanged h) = w.HasChanged h
of_watch word_of (w.Changed h) = w.Changed h
of_watch word_of (w.MarkChanged h) = w.MarkChanged h
of_watch word_of (w.MarkUnchanged h) = w.MarkUnchanged h
of_watch word_of (w.DropHandle h) = w.DropHandle h
of_watch word_of (w.ReceiverCount h) = w.ReceiverCount h
of_watch word_of (w.IsClosed h) = w.IsClosed h
of_watch word_of (w.AwaitClosed h) = w.AwaitClosed h

-- P holds of the value of a watch's call, if it has one
abbrev pub OfWatchValue : {V : Type 0} → (V → Type 0) → WCall V → Type 0
OfWatchValue P (w.Send h v) = P v
OfWatchValue P (w.SendReplace h v) = P v
OfWatchValue P (w.Modify told h v) = P v
OfWatchValue P call = Unit {0}
