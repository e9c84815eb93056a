-- A broadcast channel whose handles have other numbers. No reply tells which, but the one that gives the number of a new handle.
use Rattle.std.specs.Prelude.{◌≡◌, ℕ, ◌<◌, true, List, length}
use Rattle.rw_handles.specs.declared.table.TheConstants.{MOST_HANDLES}
use Rattle.rw_handles.specs.Renaming.{IsRenaming, live_ones, live_numbers, number_before}
use Rattle.rw_broadcast.specs.declared.calls.BCall.{BCall}
use Rattle.rw_broadcast.specs.declared.calls.BReply.{BReply}
use Rattle.rw_broadcast.specs.declared.calls.BReply.TheVariants.{New}
use Rattle.rw_broadcast.specs.Channel.{handle_of, makes, with_handle}
use Rattle.rw_broadcast.specs.Shown.{Shown, next, reply_of}

-- the call, made with the other number of its handle
abbrev pub renamed_call : {V : Type 0} → (ℕ → ℕ) → BCall V → BCall V
renamed_call to call = with_handle call (to (handle_of call))

-- the reply, with the other number of a new handle
abbrev pub renamed_reply : {V : Type 0} → (ℕ → ℕ) → BReply V → BReply V
renamed_reply to (New h) = New (to h)
renamed_reply to reply = reply

-- y shows the same as x, but the handle of number h in x has the number `to h` in y
pub record IsRenamed {V : Type 0} (to : ℕ → ℕ) (x y : Shown V) : Type 0 where
  pub same : y ≡ record x { slots = y.slots }
  pub renaming : IsRenaming to x.slots y.slots

-- a law: a call with the other number has the same reply, but for the number of a new handle, and what is shown after it is the
-- same again, but for the numbers. Where the call makes a handle, neither channel may have made all that it may make.
abbrev pub RepliesRenamed : Type 0 → Type 0
RepliesRenamed V = (to : ℕ → ℕ) (x y : Shown V) (call : BCall V) → IsRenamed to x y
    → (makes call ≡ true → (length x.slots < MOST_HANDLES) × (length y.slots < MOST_HANDLES))
    → (reply_of y (renamed_call to call) ≡ renamed_reply to (reply_of x call)) × IsRenamed to (next x call) (next y (renamed_call to call))

-- only the live handles are left, with these numbers before. All else is the same
pub record IsRenumbered {V : Type 0} (before : List ℕ) (old new : Shown V) : Type 0 where
  pub left : new ≡ record old { slots = live_ones old.slots }
  pub numbers : before ≡ live_numbers old.slots
  pub renamed : IsRenamed (number_before before (length old.slots)) new old
