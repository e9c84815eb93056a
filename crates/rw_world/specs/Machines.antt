-- The machines of this library, each as one record: what it shows, its steps and how they are undone, as in its `Reversible`.
use Rattle.rw_law.specs.declared.machine.Reversible.{Ghosts}
use Rattle.rw_broadcast.specs.declared.calls.BCall.{BCall}
use Rattle.rw_broadcast.specs.declared.calls.BReply.{BReply}
use Rattle.rw_broadcast.specs.declared.calls.BPatch.{BPatch}
use Rattle.rw_broadcast.specs.Machine.{Machine as BroadcastMachine}
use Rattle.rw_broadcast.specs.Shown as b
use Rattle.rw_watch.specs.declared.calls.WCall.{WCall}
use Rattle.rw_watch.specs.declared.calls.WReply.{WReply}
use Rattle.rw_watch.specs.declared.calls.WPatch.{WPatch}
use Rattle.rw_watch.specs.Machine.{Machine as WatchMachine}
use Rattle.rw_watch.specs.Shown as w
use Rattle.std.specs.Prelude.{ℕ, List, length}
use Rattle.rw_world.specs.declared.channels.Chan.{Chan}
use Rattle.rw_world.specs.declared.channels.ChanCall.{ChanCall}
use Rattle.rw_world.specs.declared.channels.ChanReply.{ChanReply}
use Rattle.rw_world.specs.declared.channels.ChanPatch.{ChanPatch}
use Rattle.rw_world.specs.declared.rows.RowCall.{RowCall}
use Rattle.rw_world.specs.Channel.{no_channel, of_channel}
use Rattle.rw_world.specs.Row.{of_row}
use Rattle.rw_world.specs.Kinds.{Shown, broadcast_shown, watch_shown}

-- what a channel shows
abbrev pub ChanShown : Type 0 → Type 0
ChanShown V = Shown (b.Shown V) (w.Shown V)

-- how many handles a channel has made
abbrev pub handles_made : {V : Type 0} → ChanShown V → ℕ
handles_made (broadcast_shown x) = length x.slots
handles_made (watch_shown y) = length y.slots

module _ {V : Type 0} where
  abbrev pub of_broadcast : Ghosts (BroadcastMachine V) (BCall V) (BReply V) (BPatch V)
  of_broadcast = record {
    View = b.Shown V;
    shown = λ machine. machine.shown;
    reserved = λ machine. machine.limit;
    allowed = λ x. b.IsAllowed x;
    weigh = b.weight;
    next = b.next;
    reply_of = b.reply_of;
    patch_of = b.patch_of;
    back = b.back;
    fits = b.Fits;
    refuses = b.refuses;
    is_waiting = b.waits;
    is_straying = b.strays;
  }

  abbrev pub of_watch : Ghosts (WatchMachine V) (WCall V) (WReply V) (WPatch V)
  of_watch = record {
    View = w.Shown V;
    shown = λ machine. machine.shown;
    reserved = λ machine. machine.limit;
    allowed = λ x. w.IsAllowed x;
    weigh = w.weight;
    next = w.next;
    reply_of = w.reply_of;
    patch_of = w.patch_of;
    back = w.back;
    fits = w.Fits;
    refuses = w.refuses;
    is_waiting = w.waits;
    is_straying = w.strays;
  }

  abbrev pub of_chan : Ghosts (Chan V) (ChanCall V) (ChanReply V) (ChanPatch V)
  of_chan = of_channel of_broadcast of_watch

  abbrev pub of_world : Ghosts (List (Chan V)) (RowCall (ChanCall V)) (ChanReply V) (ChanPatch V)
  of_world = of_row of_chan no_channel
