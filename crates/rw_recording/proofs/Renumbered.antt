-- Calls by other numbers of handles, and their replies.
use Rattle.std.proofs.Common.{◌≡◌, ℕ, refl, ap}
use Rattle.rw_broadcast.specs.declared.calls.BCall.TheVariants as b
use Rattle.rw_broadcast.specs.declared.calls.BReply.{BReply}
use Rattle.rw_broadcast.specs.declared.calls.BReply.TheVariants as br
use Rattle.rw_broadcast.specs.Renaming as broadcast_renaming
use Rattle.rw_watch.specs.declared.calls.WCall.TheVariants as w
use Rattle.rw_watch.specs.declared.calls.WReply.{WReply}
use Rattle.rw_watch.specs.declared.calls.WReply.TheVariants as wr
use Rattle.rw_watch.specs.Renaming as watch_renaming
use Rattle.rw_world.specs.declared.channels.ChanCall.{ChanCall}
use Rattle.rw_world.specs.declared.channels.ChanCall.TheVariants as call
use Rattle.rw_world.specs.declared.channels.ChanReply.{ChanReply}
use Rattle.rw_world.specs.declared.channels.ChanReply.TheVariants as reply
use Rattle.rw_world.specs.Channel.{handle_of, makes, with_handle}
use Rattle.rw_world.specs.Renaming.{renamed_reply}

-- ---- a call has one handle, and can have any

pub record HasOneHandle (c : ChanCall ℕ) : Type 0 where
  pub read : (h : ℕ) → handle_of (with_handle c h) ≡ h
  pub again : (g h : ℕ) → with_handle (with_handle c g) h ≡ with_handle c h
  pub own : with_handle c (handle_of c) ≡ c
  pub sort : (h : ℕ) → makes (with_handle c h) ≡ makes c

pub one_handle : (c : ChanCall ℕ) → HasOneHandle c
one_handle (call.B (b.Send h v)) = record { read = λ _. refl; again = λ _ _. refl; own = refl; sort = λ _. refl }
one_handle (call.B (b.Subscribe h)) = record { read = λ _. refl; again = λ _ _. refl; own = refl; sort = λ _. refl }
one_handle (call.B (b.CloneSender h)) = record { read = λ _. refl; again = λ _ _. refl; own = refl; sort = λ _. refl }
one_handle (call.B (b.Resubscribe h)) = record { read = λ _. refl; again = λ _ _. refl; own = refl; sort = λ _. refl }
one_handle (call.B (b.TryRecv h)) = record { read = λ _. refl; again = λ _ _. refl; own = refl; sort = λ _. refl }
one_handle (call.B (b.Recv h)) = record { read = λ _. refl; again = λ _ _. refl; own = refl; sort = λ _. refl }
one_handle (call.B (b.DropHandle h)) = record { read = λ _. refl; again = λ _ _. refl; own = refl; sort = λ _. refl }
one_handle (call.B (b.SenderLen h)) = record { read = λ _. refl; again = λ _ _. refl; own = refl; sort = λ _. refl }
one_handle (call.B (b.ReceiverCount h)) = record { read = λ _. refl; again = λ _ _. refl; own = refl; sort = λ _. refl }
one_handle (call.B (b.ReceiverLen h)) = record { read = λ _. refl; again = λ _ _. refl; own = refl; sort = λ _. refl }
one_handle (call.B (b.Downgrade h)) = record { read = λ _. refl; again = λ _ _. refl; own = refl; sort = λ _. refl }
one_handle (call.B (b.Upgrade h)) = record { read = λ _. refl; again = λ _ _. refl; own = refl; sort = λ _. refl }
one_handle (call.B (b.CloneWeak h)) = record { read = λ _. refl; again = λ _ _. refl; own = refl; sort = λ _. refl }
one_handle (call.W (w.Send h v)) = record { read = λ _. refl; again = λ _ _. refl; own = refl; sort = λ _. refl }
one_handle (call.W (w.SendReplace h v)) = record { read = λ _. refl; again = λ _ _. refl; own = refl; sort = λ _. refl }
one_handle (call.W (w.Modify t h v)) = record { read = λ _. refl; again = λ _ _. refl; own = refl; sort = λ _. refl }
one_handle (call.W (w.Subscribe h)) = record { read = λ _. refl; again = λ _ _. refl; own = refl; sort = λ _. refl }
one_handle (call.W (w.CloneSender h)) = record { read = λ _. refl; again = λ _ _. refl; own = refl; sort = λ _. refl }
one_handle (call.W (w.CloneReceiver h)) = record { read = λ _. refl; again = λ _ _. refl; own = refl; sort = λ _. refl }
one_handle (call.W (w.Borrow h)) = record { read = λ _. refl; again = λ _ _. refl; own = refl; sort = λ _. refl }
one_handle (call.W (w.Update h)) = record { read = λ _. refl; again = λ _ _. refl; own = refl; sort = λ _. refl }
one_handle (call.W (w.HasChanged h)) = record { read = λ _. refl; again = λ _ _. refl; own = refl; sort = λ _. refl }
one_handle (call.W (w.Changed h)) = record { read = λ _. refl; again = λ _ _. refl; own = refl; sort = λ _. refl }
one_handle (call.W (w.MarkChanged h)) = record { read = λ _. refl; again = λ _ _. refl; own = refl; sort = λ _. refl }
one_handle (call.W (w.MarkUnchanged h)) = record { read = λ _. refl; again = λ _ _. refl; own = refl; sort = λ _. refl }
one_handle (call.W (w.DropHandle h)) = record { read = λ _. refl; again = λ _ _. refl; own = refl; sort = λ _. refl }
one_handle (call.W (w.ReceiverCount h)) = record { read = λ _. refl; again = λ _ _. refl; own = refl; sort = λ _. refl }
one_handle (call.W (w.IsClosed h)) = record { read = λ _. refl; again = λ _ _. refl; own = refl; sort = λ _. refl }
one_handle (call.W (w.AwaitClosed h)) = record { read = λ _. refl; again = λ _ _. refl; own = refl; sort = λ _. refl }

-- ---- a reply by a third numbering

module _ (from to number : ℕ → ℕ) (numbered : (h : ℕ) → number (from h) ≡ to h) where
  on_broadcast : (r : BReply ℕ) → broadcast_renaming.renamed_reply number (broadcast_renaming.renamed_reply from r) ≡ broadcast_renaming.renamed_reply to r
  on_broadcast (br.New h) = ap br.New (numbered h)
  on_broadcast (br.Sent n) = refl
  on_broadcast (br.NoReceivers v) = refl
  on_broadcast (br.Value v) = refl
  on_broadcast (br.Lagged n) = refl
  on_broadcast br.Empty = refl
  on_broadcast br.Closed = refl
  on_broadcast br.Waits = refl
  on_broadcast br.Dropped = refl
  on_broadcast (br.Count n) = refl
  on_broadcast br.Unknown = refl
  on_broadcast br.Gone = refl
  on_broadcast br.WrongKind = refl
  on_broadcast br.TooManyHandles = refl
  on_broadcast br.NoSender = refl

  on_watch : (r : WReply ℕ) → watch_renaming.renamed_reply number (watch_renaming.renamed_reply from r) ≡ watch_renaming.renamed_reply to r
  on_watch (wr.New h) = ap wr.New (numbered h)
  on_watch wr.Stored = refl
  on_watch (wr.NoReceivers v) = refl
  on_watch (wr.Old v) = refl
  on_watch (wr.Told t) = refl
  on_watch (wr.Value v) = refl
  on_watch (wr.Flag t) = refl
  on_watch wr.Closed = refl
  on_watch wr.Waits = refl
  on_watch wr.Done = refl
  on_watch (wr.Count n) = refl
  on_watch wr.Dropped = refl
  on_watch wr.Unknown = refl
  on_watch wr.Gone = refl
  on_watch wr.WrongKind = refl
  on_watch wr.TooManyHandles = refl

  pub reply_by_numbers : (r : ChanReply ℕ) → renamed_reply number (renamed_reply from r) ≡ renamed_reply to r
  reply_by_numbers (reply.B r) = ap reply.B (on_broadcast r)
  reply_by_numbers (reply.W r) = ap reply.W (on_watch r)
  reply_by_numbers reply.NoChannel = refl
