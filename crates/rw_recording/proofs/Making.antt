-- How many handles a call makes.
use Rattle.std.proofs.Common.{ℕ, ◌+◌, ◌≤◌, Bool, true, false, cond, length, arith, length-set}
use Rattle.std.specs.Prelude.{Option, Some, None, nat_le, nat_lt, ◌&&◌, ◌==◌}
use Rattle.std.proofs.lemmas.List.{length_push}
use Rattle.rw_handles.specs.declared.kinds.Kind.{Kind}
use Rattle.rw_handles.specs.declared.kinds.Kind.TheVariants.{Receiver, Sender, Weak}
use Rattle.rw_handles.specs.declared.kinds.Slot.TheVariants.{Live, Spent}
use Rattle.rw_handles.specs.declared.kinds.Found.{Found}
use Rattle.rw_handles.specs.declared.kinds.Found.TheVariants.{Fault, Handle}
use Rattle.rw_handles.specs.declared.table.TheConstants.{MOST_HANDLES}
use Rattle.rw_handles.specs.Slots.{lookup}
use Rattle.rw_broadcast.specs.declared.calls.BCall.{BCall}
use Rattle.rw_broadcast.specs.declared.calls.BCall.TheVariants as bc
use Rattle.rw_broadcast.specs.declared.calls.BReply.{BReply}
use Rattle.rw_broadcast.specs.declared.calls.BReply.TheVariants as br
use Rattle.rw_broadcast.specs.Arithmetic as number
use Rattle.rw_broadcast.specs.Channel as b
use Rattle.rw_broadcast.specs.Shown as b_shown
use Rattle.rw_watch.specs.declared.calls.WCall.{WCall}
use Rattle.rw_watch.specs.declared.calls.WCall.TheVariants as wc
use Rattle.rw_watch.specs.declared.calls.WReply.{WReply}
use Rattle.rw_watch.specs.declared.calls.WReply.TheVariants as wr
use Rattle.rw_watch.specs.Channel as w
use Rattle.rw_watch.specs.Shown as w_shown
use Rattle.rw_world.specs.declared.channels.ChanCall.{ChanCall}
use Rattle.rw_world.specs.declared.channels.ChanCall.TheVariants as call
use Rattle.rw_world.specs.Channel.{makes}
use Rattle.rw_world.specs.Kinds.{broadcast_shown, watch_shown}
use Rattle.rw_world.specs.Machines.{ChanShown, handles_made, of_chan}

-- ---- a broadcast

module _ (x : b_shown.Shown ℕ) where
  abbrev c : b.Channel ℕ
  c = b_shown.channel_of x

  -- the change makes n handles at most
  abbrev Adds : ℕ → b.Change ℕ × BReply ℕ → Type 0
  Adds n e = length (b_shown.with_change x e.0).slots ≤ length x.slots + n

  either : (test : Bool) (n : ℕ) (e f : b.Change ℕ × BReply ℕ) → Adds n e → Adds n f → Adds n (cond test e f)
  either true n e f p q = p
  either false n e f p q = q

  keeps : (n : ℕ) (r : BReply ℕ) → Adds n (b.Keep, r)
  keeps n r = omega arith

  sends : (v : ℕ) (r : BReply ℕ) → Adds 0 (b.Append v, r)
  sends v r = omega arith

  creates : (kind : Kind) (p : ℕ) (r : BReply ℕ) → Adds 1 (b.Make kind p, r)
  creates kind p r = omega (arith, length_push x.slots (Live kind p))

  moves : (h from to : ℕ) (r : BReply ℕ) → Adds 0 (b.Move h from to, r)
  moves h from to r = omega (arith, length-set x.slots h (Live Receiver to))

  leaves : (h : ℕ) (kind : Kind) (p : ℕ) (r : BReply ℕ) → Adds 0 (b.Leave h kind p, r)
  leaves h kind p r = omega (arith, length-set x.slots h Spent)

  reads : (h p : ℕ) (o : Option ℕ) (nothing : BReply ℕ) → Adds 0 (b.read c h p o nothing)
  reads h p (Some v) nothing = moves h p (p + 1) (br.Value v)
  reads h p None nothing = keeps 0 (cond (b.is_closed c) br.Closed nothing)

  receives : (h p : ℕ) (nothing : BReply ℕ) → Adds 0 (b.receive c h p nothing)
  receives h p nothing =
      either (nat_lt 0 (number.lag (b.oldest c) p)) 0 (b.Move h p (b.oldest c), br.Lagged (number.lag (b.oldest c) p)) (b.read c h p (c.value p) nothing)
      (moves h p (b.oldest c) (br.Lagged (number.lag (b.oldest c) p))) (reads h p (c.value p) nothing)

  served : (call : BCall ℕ) (kind : Kind) (p : ℕ) → Adds (cond (b.makes call) 1 0) (b.effect_with c call kind p)
  served (bc.Send h v) kind p = either (b.receivers c == 0) 0 (b.Keep, br.NoReceivers v) (b.Append v, br.Sent (b.receivers c)) (keeps 0
      (br.NoReceivers v)) (sends v (br.Sent (b.receivers c)))
  served (bc.Subscribe h) kind p = creates Receiver c.sent (br.New (length c.slots))
  served (bc.CloneSender h) kind p = creates Sender 0 (br.New (length c.slots))
  served (bc.Resubscribe h) kind p = creates Receiver c.sent (br.New (length c.slots))
  served (bc.TryRecv h) kind p = receives h p br.Empty
  served (bc.Recv h) kind p = receives h p br.Waits
  served (bc.DropHandle h) kind p = leaves h kind p br.Dropped
  served (bc.SenderLen h) kind p = keeps 0 (br.Count (b.queued c))
  served (bc.ReceiverCount h) kind p = keeps 0 (br.Count (b.receivers c))
  served (bc.ReceiverLen h) kind p = keeps 0 (br.Count (number.unread c.sent p))
  served (bc.Downgrade h) kind p = creates Weak 0 (br.New (length c.slots))
  served (bc.Upgrade h) kind p = either (b.is_closed c) 1 (b.Keep, br.NoSender) (b.make c Sender 0) (keeps 1 br.NoSender) (creates Sender 0 (br.New
      (length c.slots)))
  served (bc.CloneWeak h) kind p = creates Weak 0 (br.New (length c.slots))

  found : (call : BCall ℕ) (f : Found ℕ) → Adds (cond (b.makes call) 1 0) (b.effect_found c call f)
  found call (Fault fault) = keeps _ (b.fault_reply fault)
  found call (Handle kind p) =
      either (b.makes call && nat_le MOST_HANDLES (length c.slots)) (cond (b.makes call) 1 0) (b.Keep, br.TooManyHandles) (b.effect_with c call kind p)
      (keeps (cond (b.makes call) 1 0) br.TooManyHandles) (served call kind p)

  made_by_broadcast : (call : BCall ℕ) → Adds (cond (b.makes call) 1 0) (b.effect c call)
  made_by_broadcast call = found call (lookup (b.wanted_kind call) c.slots (b.handle_of call))

-- ---- a watch

module _ (y : w_shown.Shown ℕ) where
  abbrev Adds_to : ℕ → w.Change ℕ × WReply ℕ → Type 0
  Adds_to n e = length (w_shown.with_change y e.0).slots ≤ length y.slots + n

  one_of : (test : Bool) (n : ℕ) (e f : w.Change ℕ × WReply ℕ) → Adds_to n e → Adds_to n f → Adds_to n (cond test e f)
  one_of true n e f p q = p
  one_of false n e f p q = q

  stays : (n : ℕ) (r : WReply ℕ) → Adds_to n (w.Keep, r)
  stays n r = omega arith

  writes : (v : ℕ) (told : Bool) (r : WReply ℕ) → Adds_to 0 (w.Write v told, r)
  writes v told r = omega arith

  adds : (kind : Kind) (m : Option ℕ) (r : WReply ℕ) → Adds_to 1 (w.Make kind m, r)
  adds kind m r = omega (arith, length_push y.slots (Live kind m))

  marks : (h : ℕ) (from to : Option ℕ) (r : WReply ℕ) → Adds_to 0 (w.Mark h from to, r)
  marks h from to r = omega (arith, length-set y.slots h (Live Receiver to))

  goes : (h : ℕ) (kind : Kind) (m : Option ℕ) (r : WReply ℕ) → Adds_to 0 (w.Leave h kind m, r)
  goes h kind m r = omega (arith, length-set y.slots h Spent)

  serves : (call : WCall ℕ) (kind : Kind) (m : Option ℕ) → Adds_to (cond (w.makes call) 1 0) (w.effect_with y call kind m)
  serves (wc.Send h v) kind m = one_of (w.has_no_receiver y) 0 (w.Keep, wr.NoReceivers v) (w.Write v true, wr.Stored) (stays 0 (wr.NoReceivers v))
      (writes v true wr.Stored)
  serves (wc.SendReplace h v) kind m = writes v true (wr.Old y.value)
  serves (wc.Modify told h v) kind m = writes v told (wr.Told told)
  serves (wc.Subscribe h) kind m = adds Receiver (Some y.version) (wr.New (length y.slots))
  serves (wc.CloneSender h) kind m = adds Sender None (wr.New (length y.slots))
  serves (wc.CloneReceiver h) kind m = adds Receiver m (wr.New (length y.slots))
  serves (wc.Borrow h) kind m = stays 0 (wr.Value y.value)
  serves (wc.Update h) kind m = marks h m (Some y.version) (wr.Value y.value)
  serves (wc.HasChanged h) kind m = stays 0 (w.has_changed y m)
  serves (wc.Changed h) kind m =
      one_of (w.is_unseen y.version m) 0 (w.see y h m, wr.Done) (w.Keep, cond (w.is_closed y) wr.Closed wr.Waits) (marks h m (Some y.version) wr.Done)
      (stays 0 (cond (w.is_closed y) wr.Closed wr.Waits))
  serves (wc.MarkChanged h) kind m = marks h m None wr.Done
  serves (wc.MarkUnchanged h) kind m = marks h m (Some y.version) wr.Done
  serves (wc.DropHandle h) kind m = goes h kind m wr.Dropped
  serves (wc.ReceiverCount h) kind m = stays 0 (wr.Count (w.receivers y))
  serves (wc.IsClosed h) kind m = stays 0 (wr.Flag (w.has_no_receiver y))
  serves (wc.AwaitClosed h) kind m = stays 0 (w.await_closed y)

  looked_up : (call : WCall ℕ) (f : Found (Option ℕ)) → Adds_to (cond (w.makes call) 1 0) (w.effect_found y call f)
  looked_up call (Fault fault) = stays _ (w.fault_reply fault)
  looked_up call (Handle kind m) =
      one_of (w.makes call && nat_le MOST_HANDLES (length y.slots)) (cond (w.makes call) 1 0) (w.Keep, wr.TooManyHandles) (w.effect_with y call kind m)
      (stays (cond (w.makes call) 1 0) wr.TooManyHandles) (serves call kind m)

  made_by_watch : (call : WCall ℕ) → Adds_to (cond (w.makes call) 1 0) (w.effect y call)
  made_by_watch call = looked_up call (lookup (w.wanted_kind call) y.slots (w.handle_of call))

-- a call that makes a handle makes one at most, and no other makes any
pub made_by : (x : ChanShown ℕ) (c : ChanCall ℕ) → handles_made (of_chan.next x c) ≤ handles_made x + cond (makes c) 1 0
made_by (broadcast_shown x) (call.B c) = made_by_broadcast x c
made_by (broadcast_shown x) (call.W d) = omega arith
made_by (watch_shown y) (call.B c) = omega arith
made_by (watch_shown y) (call.W d) = made_by_watch y d
