-- What conditions mean, on the entries of a world's journal and on what a world shows.
use Rattle.std.specs.Prelude.{ℕ, Bool, true, false, not, nat_eq, nat_lt, nat_le, List, Option, None, Some, slice_get, option_map, option_and_then}
use Rattle.std.specs.Option.{option_map_or}
use Rattle.std.specs.Str.{bytes_eq}
use Rattle.rw_broadcast.specs.Arithmetic.{lag, unread}
use Rattle.rw_broadcast.specs.Channel as broadcast
use Rattle.rw_broadcast.specs.Machine.{position_at}
use Rattle.rw_broadcast.specs.Shown.{Shown as Broadcast, channel_of}
use Rattle.rw_watch.specs.Channel as watch
use Rattle.rw_watch.specs.Machine.{is_seen_at}
use Rattle.rw_watch.specs.Shown.{Shown as Watch}
use Rattle.rw_world.specs.Kinds.{broadcast_shown, watch_shown}
use Rattle.rw_world.specs.Machines.{ChanShown}
use Rattle.rw_world.specs.Specified.{WorldEntry}
use Rattle.rw_words.specs.declared.reply_word.ReplyWord.{ReplyWord}
use Rattle.rw_words.specs.ReplyWords.{reply_word_of, reply_word_text}
use Rattle.rw_navigator.specs.declared.worlds.condition.Cond.{Cond}
use Rattle.rw_navigator.specs.declared.worlds.condition.Cond.TheVariants.{Actor, Channel, ReplyKind, UnreadAtLeast, Lagging}
use Rattle.rw_navigator.specs.declared.worlds.condition.Cond.TheVariants.{Unseen, VersionAtLeast, Closed, QueueAtLeast}

-- there is a value, and it passes the test
abbrev pub has : {A : Type 0} → (A → Bool) → Option A → Bool
has test o = option_map_or test o false

-- ---- entries

-- it is a condition on entries
abbrev pub asks_step : Cond → Bool
asks_step (Actor a) = true
asks_step (Channel c) = true
asks_step (ReplyKind w) = true
asks_step (UnreadAtLeast c h n) = false
asks_step (Lagging c h) = false
asks_step (Unseen c h) = false
asks_step (VersionAtLeast c n) = false
asks_step (Closed c) = false
asks_step (QueueAtLeast c n) = false

abbrev pub same_word : ReplyWord → ReplyWord → Bool
same_word w v = bytes_eq (reply_word_text w) (reply_word_text v)

-- the entry is that actor's, on that channel, or its reply begins with that word
abbrev pub holds_of_step : {V : Type 0} → Cond → WorldEntry V → Bool
holds_of_step (Actor a) e = nat_eq e.actor a
holds_of_step (Channel c) e = nat_eq e.call.channel c
holds_of_step (ReplyKind w) e = has (same_word w) (reply_word_of e.reply)
holds_of_step (UnreadAtLeast c h n) e = false
holds_of_step (Lagging c h) e = false
holds_of_step (Unseen c h) e = false
holds_of_step (VersionAtLeast c n) e = false
holds_of_step (Closed c) e = false
holds_of_step (QueueAtLeast c n) e = false

-- ---- states

abbrev pub as_broadcast : {V : Type 0} → ChanShown V → Option (Broadcast V)
as_broadcast (broadcast_shown x) = Some x
as_broadcast (watch_shown y) = None

abbrev pub as_watch : {V : Type 0} → ChanShown V → Option (Watch V)
as_watch (broadcast_shown x) = None
as_watch (watch_shown y) = Some y

-- the broadcast of this number, if there is one
abbrev pub broadcast_at : {V : Type 0} → List (ChanShown V) → ℕ → Option (Broadcast V)
broadcast_at xs c = option_and_then as_broadcast (slice_get xs c)

-- the watch of this number, if there is one
abbrev pub watch_at : {V : Type 0} → List (ChanShown V) → ℕ → Option (Watch V)
watch_at xs c = option_and_then as_watch (slice_get xs c)

-- how many values a live receiver of a broadcast has yet to receive
abbrev pub unread_at : {V : Type 0} → List (ChanShown V) → (c h : ℕ) → Option ℕ
unread_at xs c h = option_and_then (λ x. option_map (unread x.sent) (position_at (slice_get x.slots h))) (broadcast_at xs c)

-- how many of them are no longer retained
abbrev pub lag_at : {V : Type 0} → List (ChanShown V) → (c h : ℕ) → Option ℕ
lag_at xs c h = option_and_then (λ x. option_map (lag (broadcast.oldest (channel_of x))) (position_at (slice_get x.slots h))) (broadcast_at xs c)

-- how many values are queued in a broadcast
abbrev pub queued_at : {V : Type 0} → List (ChanShown V) → ℕ → Option ℕ
queued_at xs c = option_map (λ x. broadcast.queued (channel_of x)) (broadcast_at xs c)

-- whether a live receiver of a watch has seen its value
abbrev pub seen_at : {V : Type 0} → List (ChanShown V) → (c h : ℕ) → Option Bool
seen_at xs c h = option_and_then (λ y. is_seen_at y.version (slice_get y.slots h)) (watch_at xs c)

-- the version of a watch
abbrev pub version_at : {V : Type 0} → List (ChanShown V) → ℕ → Option ℕ
version_at xs c = option_map (λ y. y.version) (watch_at xs c)

-- no sender is alive
abbrev pub is_closed : {V : Type 0} → ChanShown V → Bool
is_closed (broadcast_shown x) = broadcast.is_closed (channel_of x)
is_closed (watch_shown y) = watch.is_closed y

-- whether no sender of a channel is alive
abbrev pub closed_at : {V : Type 0} → List (ChanShown V) → ℕ → Option Bool
closed_at xs c = option_map is_closed (slice_get xs c)

-- the test of what a world shows. A condition is false if it names a channel that isn't there or is of the other kind, or a
-- receiver that isn't alive.
abbrev pub holds_of_shown : {V : Type 0} → Cond → List (ChanShown V) → Bool
holds_of_shown (Actor a) xs = false
holds_of_shown (Channel c) xs = false
holds_of_shown (ReplyKind w) xs = false
holds_of_shown (UnreadAtLeast c h n) xs = has (λ unread. nat_le n unread) (unread_at xs c h)
holds_of_shown (Lagging c h) xs = has (λ lag. nat_lt 0 lag) (lag_at xs c h)
holds_of_shown (Unseen c h) xs = has (λ seen. not seen) (seen_at xs c h)
holds_of_shown (VersionAtLeast c n) xs = has (λ version. nat_le n version) (version_at xs c)
holds_of_shown (Closed c) xs = has (λ closed. closed) (closed_at xs c)
holds_of_shown (QueueAtLeast c n) xs = has (λ queued. nat_le n queued) (queued_at xs c)
