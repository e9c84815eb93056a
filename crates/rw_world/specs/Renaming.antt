-- A channel of either kind whose handles have other numbers.
use Rattle.std.specs.Prelude.{◌≡◌, ℕ, ◌+◌, ◌<◌, ◌≤◌, true, List, [], ◌∷◌, length, map}
use Rattle.rw_handles.specs.declared.table.TheConstants.{MOST_HANDLES}
use Rattle.rw_broadcast.specs.Renaming as broadcast
use Rattle.rw_watch.specs.Renaming as watch
use Rattle.rw_world.specs.declared.channels.ChanCall.{ChanCall}
use Rattle.rw_world.specs.declared.channels.ChanReply.{ChanReply}
use Rattle.rw_world.specs.declared.channels.ChanReply.TheVariants as reply
use Rattle.rw_world.specs.Channel.{handle_of, makes, with_handle}
use Rattle.rw_world.specs.Kinds.{broadcast_shown, watch_shown}
use Rattle.rw_world.specs.Machines.{ChanShown, handles_made, of_chan}

module _ {V : Type 0} where
  -- the call, made with the other number of its handle
  abbrev pub renamed_call : (ℕ → ℕ) → ChanCall V → ChanCall V
  renamed_call to call = with_handle call (to (handle_of call))

  -- the reply, with the other number of a new handle
  abbrev pub renamed_reply : (ℕ → ℕ) → ChanReply V → ChanReply V
  renamed_reply to (reply.B r) = reply.B (broadcast.renamed_reply to r)
  renamed_reply to (reply.W s) = reply.W (watch.renamed_reply to s)
  renamed_reply to reply.NoChannel = reply.NoChannel

  -- the second shows the same as the first, but the handle of number h in the first has the number `to h` in the second
  abbrev pub IsRenamed : (to : ℕ → ℕ) → ChanShown V → ChanShown V → Type 0
  IsRenamed to (broadcast_shown x) (broadcast_shown y) = broadcast.IsRenamed to x y
  IsRenamed to (watch_shown x) (watch_shown y) = watch.IsRenamed to x y
  IsRenamed to (broadcast_shown x) (watch_shown y) = ⊥
  IsRenamed to (watch_shown x) (broadcast_shown y) = ⊥

  -- only the live handles are left, with these numbers before. All else is the same
  abbrev pub IsRenumbered : (before : List ℕ) → (old new : ChanShown V) → Type 0
  IsRenumbered before (broadcast_shown x) (broadcast_shown y) = broadcast.IsRenumbered before x y
  IsRenumbered before (watch_shown x) (watch_shown y) = watch.IsRenumbered before x y
  IsRenumbered before (broadcast_shown x) (watch_shown y) = ⊥
  IsRenumbered before (watch_shown x) (broadcast_shown y) = ⊥

  -- the replies to calls, one after the other
  abbrev pub replies : ChanShown V → List (ChanCall V) → List (ChanReply V)
  replies x [] = []
  replies x (call ∷ calls) = of_chan.reply_of x call ∷ replies (of_chan.next x call) calls

-- a law: a call with the other number has the same reply, but for the number of a new handle, and what is shown after it is the
-- same again, but for the numbers. Where the call makes a handle, neither channel may have made all that it may make.
abbrev pub RepliesRenamed : Type 0 → Type 0
RepliesRenamed V = (to : ℕ → ℕ) (x y : ChanShown V) (call : ChanCall V) → IsRenamed to x y
    → (makes call ≡ true → (handles_made x < MOST_HANDLES) × (handles_made y < MOST_HANDLES))
    → (of_chan.reply_of y (renamed_call to call) ≡ renamed_reply to (of_chan.reply_of x call))
    × IsRenamed to (of_chan.next x call) (of_chan.next y (renamed_call to call))

-- a law: so it is with all later calls, as long as neither channel has made all that it may make
abbrev pub RepliesRenamedThroughout : Type 0 → Type 0
RepliesRenamedThroughout V = (to : ℕ → ℕ) (x y : ChanShown V) (calls : List (ChanCall V)) → IsRenamed to x y
    → handles_made x + length calls ≤ MOST_HANDLES → handles_made y + length calls ≤ MOST_HANDLES
    → replies y (map (renamed_call to) calls) ≡ map (renamed_reply to) (replies x calls)
