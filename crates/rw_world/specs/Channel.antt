-- The steps of a channel of either kind: a call of its own kind is made on its machine, one of the other kind strays.
use Rattle.std.specs.Prelude.{ℕ, Bool, true, false, Option, None, Some}
use Rattle.rw_law.specs.declared.machine.Reversible.{Ghosts}
use Rattle.rw_world.specs.declared.kinds.ChannelKind.{ChannelKind}
use Rattle.rw_world.specs.declared.kinds.ChannelKind.TheVariants as kind
use Rattle.rw_world.specs.Kinds.{Shown, broadcast_shown, watch_shown}
use Rattle.rw_world.specs.declared.channels.Chan.{Chan}
use Rattle.rw_world.specs.declared.channels.Chan.TheVariants as machine
use Rattle.rw_world.specs.declared.channels.ChanCall.{ChanCall}
use Rattle.rw_world.specs.declared.channels.ChanCall.TheVariants as call
use Rattle.rw_world.specs.declared.channels.ChanReply.{ChanReply}
use Rattle.rw_world.specs.declared.channels.ChanReply.TheVariants as reply
use Rattle.rw_world.specs.declared.channels.ChanPatch.{ChanPatch}
use Rattle.rw_world.specs.declared.channels.ChanPatch.TheVariants as patch
use Rattle.rw_world.specs.Row.{Missing}
use Rattle.rw_broadcast.specs.declared.calls.BCall.{BCall}
use Rattle.rw_broadcast.specs.declared.calls.BReply.{BReply}
use Rattle.rw_broadcast.specs.declared.calls.BPatch.{BPatch}
use Rattle.rw_broadcast.specs.declared.calls.BReply.TheVariants as breply
use Rattle.rw_broadcast.specs.Channel as broadcast
use Rattle.rw_broadcast.specs.Machine.{Machine as BroadcastMachine}
use Rattle.rw_watch.specs.declared.calls.WCall.{WCall}
use Rattle.rw_watch.specs.declared.calls.WReply.{WReply}
use Rattle.rw_watch.specs.declared.calls.WPatch.{WPatch}
use Rattle.rw_watch.specs.declared.calls.WReply.TheVariants as wreply
use Rattle.rw_watch.specs.Channel as watch
use Rattle.rw_watch.specs.Machine.{Machine as WatchMachine}

-- the machine of a broadcast, and that of a watch
abbrev pub OfBroadcast : Type 0 → Type 1
OfBroadcast V = Ghosts (BroadcastMachine V) (BCall V) (BReply V) (BPatch V)

abbrev pub OfWatch : Type 0 → Type 1
OfWatch V = Ghosts (WatchMachine V) (WCall V) (WReply V) (WPatch V)

-- the reply and the patch of a call whose channel isn't there
abbrev pub no_channel : {V : Type 0} → Missing (ChanReply V) (ChanPatch V)
no_channel = record { reply = reply.NoChannel; patch = patch.NoChannel }

-- whether a call is of the other kind
abbrev pub strays_at : {V : Type 0} → ChannelKind → ChanCall V → Bool
strays_at kind.Broadcast (call.B c) = false
strays_at kind.Broadcast (call.W d) = true
strays_at kind.Watch (call.B c) = true
strays_at kind.Watch (call.W d) = false

-- the number of the handle that a call is made with
abbrev pub handle_of : {V : Type 0} → ChanCall V → ℕ
handle_of (call.B c) = broadcast.handle_of c
handle_of (call.W d) = watch.handle_of d

-- the same call, made with another handle
abbrev pub with_handle : {V : Type 0} → ChanCall V → ℕ → ChanCall V
with_handle (call.B c) h = call.B (broadcast.with_handle c h)
with_handle (call.W d) h = call.W (watch.with_handle d h)

-- whether a call makes a handle, unless it is refused
abbrev pub makes : {V : Type 0} → ChanCall V → Bool
makes (call.B c) = broadcast.makes c
makes (call.W d) = watch.makes d

-- the handle that a call made, by its reply
abbrev pub new_on_broadcast : {V : Type 0} → BReply V → Option ℕ
new_on_broadcast (breply.New h) = Some h
new_on_broadcast _ = None

abbrev pub new_on_watch : {V : Type 0} → WReply V → Option ℕ
new_on_watch (wreply.New h) = Some h
new_on_watch _ = None

abbrev pub new_handle : {V : Type 0} → ChanReply V → Option ℕ
new_handle (reply.B r) = new_on_broadcast r
new_handle (reply.W s) = new_on_watch s
new_handle reply.NoChannel = None

module _ {V : Type 0} (b : OfBroadcast V) (w : OfWatch V) where
  abbrev pub shown : Chan V → Shown b.View w.View
  shown (machine.Broadcast x) = broadcast_shown (b.shown x)
  shown (machine.Watch y) = watch_shown (w.shown y)

  abbrev pub reserved : Chan V → ℕ
  reserved (machine.Broadcast x) = b.reserved x
  reserved (machine.Watch y) = w.reserved y

  abbrev pub IsAllowed : Shown b.View w.View → Type 0
  IsAllowed (broadcast_shown x) = b.allowed x
  IsAllowed (watch_shown y) = w.allowed y

  abbrev pub weigh : Shown b.View w.View → ℕ
  weigh (broadcast_shown x) = b.weigh x
  weigh (watch_shown y) = w.weigh y

  abbrev pub next : Shown b.View w.View → ChanCall V → Shown b.View w.View
  next (broadcast_shown x) (call.B c) = broadcast_shown (b.next x c)
  next (broadcast_shown x) (call.W d) = broadcast_shown x
  next (watch_shown y) (call.B c) = watch_shown y
  next (watch_shown y) (call.W d) = watch_shown (w.next y d)

  abbrev pub reply_of : Shown b.View w.View → ChanCall V → ChanReply V
  reply_of (broadcast_shown x) (call.B c) = reply.B (b.reply_of x c)
  reply_of (broadcast_shown x) (call.W d) = reply.NoChannel
  reply_of (watch_shown y) (call.B c) = reply.NoChannel
  reply_of (watch_shown y) (call.W d) = reply.W (w.reply_of y d)

  abbrev pub patch_of : Shown b.View w.View → ChanCall V → ChanPatch V
  patch_of (broadcast_shown x) (call.B c) = patch.B (b.patch_of x c)
  patch_of (broadcast_shown x) (call.W d) = patch.NoChannel
  patch_of (watch_shown y) (call.B c) = patch.NoChannel
  patch_of (watch_shown y) (call.W d) = patch.W (w.patch_of y d)

  abbrev pub back : Shown b.View w.View → ChanCall V → ChanPatch V → Shown b.View w.View
  back (broadcast_shown x) (call.B c) (patch.B p) = broadcast_shown (b.back x c p)
  back (watch_shown y) (call.W d) (patch.W q) = watch_shown (w.back y d q)
  back x c p = x

  -- a patch fits a call of the channel's kind where it fits its machine; the one patch of a call that strays is NoChannel
  abbrev pub Fits : Shown b.View w.View → ChanCall V → ChanPatch V → Type 0
  Fits (broadcast_shown x) (call.B c) (patch.B p) = b.fits x c p
  Fits (broadcast_shown x) (call.W d) patch.NoChannel = Unit {0}
  Fits (watch_shown y) (call.B c) patch.NoChannel = Unit {0}
  Fits (watch_shown y) (call.W d) (patch.W q) = w.fits y d q
  Fits x c p = ⊥

  abbrev pub refuses : ChanReply V → Bool
  refuses (reply.B r) = b.refuses r
  refuses (reply.W s) = w.refuses s
  refuses reply.NoChannel = true

  abbrev pub waits : ChanReply V → Bool
  waits (reply.B r) = b.is_waiting r
  waits (reply.W s) = w.is_waiting s
  waits reply.NoChannel = false

  abbrev pub strays : ChanReply V → Bool
  strays (reply.B r) = false
  strays (reply.W s) = false
  strays reply.NoChannel = true

  -- the channel of either kind, as one machine
  abbrev pub of_channel : Ghosts (Chan V) (ChanCall V) (ChanReply V) (ChanPatch V)
  of_channel = record {
    View = Shown b.View w.View;
    shown = shown;
    reserved = reserved;
    allowed = IsAllowed;
    weigh = weigh;
    next = next;
    reply_of = reply_of;
    patch_of = patch_of;
    back = back;
    fits = Fits;
    refuses = refuses;
    is_waiting = waits;
    is_straying = strays;
  }
