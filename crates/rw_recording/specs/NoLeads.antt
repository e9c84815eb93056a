-- Why there is no lead to what a channel was like before its last calls.
use Rattle.std.specs.Prelude.{◌≡◌, ◌⊎◌, ℕ, ◌+◌, ◌<◌, ◌≤◌, max, IsTrue, List, get_or, slice_get, Some, ⊤}
use Rattle.rw_handles.specs.declared.kinds.Kind.TheVariants.{Receiver, Sender, Weak}
use Rattle.rw_handles.specs.declared.table.TheConstants.{MOST_HANDLES}
use Rattle.rw_law.specs.declared.limits.TheConstants.{MOST_STAMP}
use Rattle.rw_world.specs.declared.channels.ChanCall.{ChanCall}
use Rattle.rw_world.specs.Channel.{handle_of}
use Rattle.rw_world.specs.Kinds.{broadcast_shown, watch_shown}
use Rattle.rw_world.specs.Machines.{ChanShown, handles_made, of_chan}
use Rattle.rw_world.specs.Specified.{ChanEntry}
use Rattle.rw_journal.specs.declared.book.TheConstants.{MOST_ENTRIES}
use Rattle.rw_journal.specs.StoredCalls.{call_of}
use Rattle.rw_recording.specs.declared.faults.WindowFault.{WindowFault}
use Rattle.rw_recording.specs.declared.faults.WindowFault.TheVariants.{NoMemory, TooLong, OutOfOrder, Dropped, Unlike}
use Rattle.rw_recording.specs.declared.lead.Goal.{Goal}
use Rattle.rw_recording.specs.Kept.{asks, Kept}
use Rattle.rw_recording.specs.Leading.{Leading}
use Rattle.rw_recording.specs.Questions.{alive_in, unread_in}
use Rattle.rw_recording.specs.Recordings.{RecordedCall}
use Rattle.rw_recording.specs.Windows.{makes_in}

-- how many handles are alive
abbrev pub live_in : ChanShown ℕ → ℕ
live_in x = alive_in Sender x + alive_in Weak x + alive_in Receiver x

-- how many numbers of handles a window needs at most: as many as the channel has given, or as the lead gives, which makes the live handles
-- and has the two of an opening; and one for each kept call that creates a handle
abbrev pub numbers_needed : Kept → ℕ
numbers_needed k = max (handles_made k.before) (live_in k.before + 2) + makes_in k.entries

-- how many values a broadcast retains at most; 0 for a watch
abbrev pub retained_in : ChanShown ℕ → ℕ
retained_in (broadcast_shown x) = x.capacity
retained_in (watch_shown y) = 0

-- the call asks a receiver that has this many values to receive
abbrev pub AsksFor : ChanShown ℕ → ℕ → ChanCall ℕ → Type 0
AsksFor x n c = IsTrue (asks c) × (unread_in x (handle_of c) ≡ Some n)

-- a lead may have to send this many values: as many as are retained and one more, or as many as a receiver has to receive that a kept call asks
abbrev pub MaySend : Kept → ℕ → Type 0
MaySend k n = (n ≤ retained_in k.before + 1) ⊎ ((place : ℕ) × (e : ChanEntry ℕ) × (slice_get k.entries place ≡ Some e) × AsksFor k.before n e.call)

-- this many calls by an actor with this clock are more than a journal has, or have too great a stamp
abbrev pub AreTooMany : (clock most : ℕ) → Type 0
AreTooMany clock most = (MOST_ENTRIES < most) ⊎ (MOST_STAMP < clock + most)

-- Why there is no lead. It is too long if it needs too many numbers of handles, or too many calls: one for each value that it sends, one for
-- each live handle, and two. (No clause can define a failed allocation, and none says when the lead is unlike the channel.)
abbrev pub HasNoLead : Kept → (clock : ℕ) → WindowFault → Type 0
HasNoLead k clock TooLong = (MOST_HANDLES < numbers_needed k) ⊎ ((n : ℕ) × MaySend k n × AreTooMany clock (n + live_in k.before + 2))
HasNoLead k clock OutOfOrder = ⊥
HasNoLead k clock Dropped = ⊥
HasNoLead k clock NoMemory = ⊤
HasNoLead k clock Unlike = ⊤

-- why calls of a lead aren't made
abbrev pub IsUnled : Leading → WindowFault → Type 0
IsUnled l TooLong = AreTooMany l.clock l.most
IsUnled l OutOfOrder = ⊥
IsUnled l Dropped = ⊥
IsUnled l NoMemory = ⊤
IsUnled l Unlike = ⊤

-- the most numbers of handles that the channel has given, or what a lead leads to, or the lead
abbrev pub most_given : Goal → ChanShown ℕ → ℕ
most_given g seen = max (max (handles_made (of_chan.shown g.channel)) g.made) (handles_made seen)

-- why what calls led to isn't a lead
abbrev pub IsUnjoined : Kept → WindowFault → Type 0
IsUnjoined k TooLong = MOST_HANDLES < numbers_needed k
IsUnjoined k OutOfOrder = ⊥
IsUnjoined k Dropped = ⊥
IsUnjoined k NoMemory = ⊤
IsUnjoined k Unlike = ⊤

-- this number of values is the most that one of the first i of these calls asks for, or as many as are retained, and one more
abbrev pub IsMostOf : ChanShown ℕ → List RecordedCall → (i n : ℕ) → Type 0
IsMostOf x ns i n = (n ≤ retained_in x + 1) ⊎ ((k : ℕ) × (k < i) × ((d : RecordedCall) → AsksFor x n (call_of (get_or ns k d).call)))
