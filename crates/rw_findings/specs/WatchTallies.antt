-- What the search for totals keeps of a watch while it passes over its entries.
use Rattle.std.specs.Prelude.{◌≡◌, ◌<◌, ◌≤◌, ◌^◌, ℕ, ◌+◌, ◌-◌, Bool, true, false, nat_lt, if◌then◌else◌, List}
use Rattle.std.specs.Prelude.{[], ◌∷◌, ◌++◌, Option, Some, None, option_map, slice_set, slice_index_or}
use Rattle.rw_watch.specs.declared.calls.WCall.{WCall}
use Rattle.rw_watch.specs.declared.calls.WCall.TheVariants.{Subscribe, CloneReceiver, Borrow, Update, Changed, MarkUnchanged, DropHandle}
use Rattle.rw_watch.specs.declared.calls.WReply.{WReply}
use Rattle.rw_watch.specs.declared.calls.WReply.TheVariants.{Stored, Old, Told, New, Value, Done}
use Rattle.rw_watch.specs.declared.calls.WReply.TheVariants as reply
use Rattle.rw_findings.specs.declared.totals.total.WatchCounts.{WatchCounts}
use Rattle.rw_findings.specs.declared.totals.sight.Sight.{Sight}
use Rattle.rw_findings.specs.declared.totals.watch.Watcher.{Watcher}

-- the version of a watch, and each receiver under its handle's number
pub record WatchTally : Type 0 where
  pub version : ℕ
  pub watchers : List (Option Watcher)

-- ---- one way to see

-- one that begins at this version
abbrev pub new_sight : ℕ → Sight
new_sight version = record { newest = version; unseen = 0 }

-- after the value of this version was seen: those between the one before and this one weren't
abbrev pub after_sight : (version : ℕ) → Sight → Sight
after_sight version s = if nat_lt s.newest version then record { newest = version; unseen = s.unseen + (version - s.newest - 1) } else s

-- what wasn't seen at this version: of a receiver that is alive with all that came after the newest that it has seen
abbrev pub unseen_at : (alive : Bool) → (version : ℕ) → Sight → ℕ
unseen_at alive version s = if alive then s.unseen + (version - s.newest) else s.unseen

-- one that ends at this version
abbrev pub ended_sight : (alive : Bool) → (version : ℕ) → Sight → Sight
ended_sight alive version s = record s { unseen = unseen_at alive version s }

-- ---- a receiver

-- a receiver that is made at this version
abbrev pub new_watcher : ℕ → Watcher
new_watcher version = record { alive = true; changes = 0; marks = new_sight version; looks = new_sight version }

-- a watch at its opening, with sender 0 and receiver 1
abbrev pub opened_watch : WatchTally
opened_watch = record { version = 0; watchers = None ∷ Some (new_watcher 0) ∷ [] }

-- after it has looked at the value of this version
abbrev pub after_look : (version : ℕ) → Watcher → Watcher
after_look version w = record w { looks = after_sight version w.looks }

-- after it has marked it as seen
abbrev pub after_mark : (version : ℕ) → Watcher → Watcher
after_mark version w = record w { marks = after_sight version w.marks }

-- after both
abbrev pub after_update : (version : ℕ) → Watcher → Watcher
after_update version w = record w { marks = after_sight version w.marks; looks = after_sight version w.looks }

-- after it was told of it, which marks it as seen
abbrev pub after_change : (version : ℕ) → Watcher → Watcher
after_change version w = record w { changes = w.changes + 1; marks = after_sight version w.marks }

-- after it was dropped
abbrev pub after_end : (version : ℕ) → Watcher → Watcher
after_end version w = record w { alive = false; marks = ended_sight w.alive version w.marks; looks = ended_sight w.alive version w.looks }

abbrev pub watcher_in : WatchTally → ℕ → Option Watcher
watcher_in t h = slice_index_or t.watchers h None

-- with another receiver under a handle's number
abbrev pub with_watcher : WatchTally → ℕ → Option Watcher → WatchTally
with_watcher t h w = record t { watchers = slice_set t.watchers h w }

module _ {V : Type 0} where
  -- the receiver that a call makes, if it makes one
  abbrev pub made_watcher : WatchTally → WCall V → Option Watcher
  made_watcher t (Subscribe h) = Some (new_watcher t.version)
  made_watcher t (CloneReceiver h) = Some (new_watcher t.version)
  made_watcher t _ = None

  -- with a call that got this reply
  abbrev pub with_call : WatchTally → WCall V → WReply V → WatchTally
  with_call t call Stored = record t { version = t.version + 1 }
  with_call t call (Old v) = record t { version = t.version + 1 }
  with_call t call (Told told) = record t { version = if told then t.version + 1 else t.version }
  with_call t call (New h) = record t { watchers = t.watchers ++ made_watcher t call ∷ [] }
  with_call t (Borrow h) (Value v) = with_watcher t h (option_map (after_look t.version) (watcher_in t h))
  with_call t (Update h) (Value v) = with_watcher t h (option_map (after_update t.version) (watcher_in t h))
  with_call t (Changed h) Done = with_watcher t h (option_map (after_change t.version) (watcher_in t h))
  with_call t (MarkUnchanged h) Done = with_watcher t h (option_map (after_mark t.version) (watcher_in t h))
  with_call t (DropHandle h) reply.Dropped = with_watcher t h (option_map (after_end t.version) (watcher_in t h))
  with_call t call _ = t

-- what a receiver was told of, what it missed, and what it never looked at
abbrev pub counts_from : WatchTally → Watcher → WatchCounts
counts_from t w = record {
  changes = w.changes;
  missed = unseen_at w.alive t.version w.marks;
  unlooked = unseen_at w.alive t.version w.looks;
}

-- ---- room

-- what comes up to this version can be counted
pub record HasRoomUpTo (version : ℕ) (s : Sight) : Type 0 where
  pub newest : s.newest ≤ version
  pub unseen : s.unseen + (version - s.newest) < 2 ^ 63

-- the counts of a receiver can grow by one
pub record HasRoomFor (t : WatchTally) (w : Watcher) : Type 0 where
  pub changes : w.changes < 2 ^ 63
  pub marks : HasRoomUpTo t.version w.marks
  pub looks : HasRoomUpTo t.version w.looks

pub record HasRoom (t : WatchTally) : Type 0 where
  pub version : t.version < 2 ^ 63
  pub watchers : (h : ℕ) (w : Watcher) → watcher_in t h ≡ Some w → HasRoomFor t w
