-- The numbers of a broadcast channel. The values ever sent are counted from 0, and a receiver's position is the number of
-- the value that it receives next.
use Rattle.std.specs.Prelude.{ℕ, zero, suc, ◌-◌, ◌*◌, min, max, nat_le, if◌then◌else◌, List, [], ◌∷◌, Option, Some, None, fold}

-- the first of p, 2 * p, 4 * p, .. that is at least n, among this many doublings
abbrev pub power_from : ℕ → ℕ → ℕ → ℕ
power_from zero p n = p
power_from (suc k) p n = if nat_le n p then p else power_from k (2 * p) n

-- how many values a channel retains: the least power of two that is at least the requested capacity, 1 to 65,536
unfoldable pub retained_capacity : ℕ → ℕ
retained_capacity asked = power_from 16 1 asked

-- the position of the oldest retained value, after this many were sent
abbrev pub oldest : (sent capacity : ℕ) → ℕ
oldest sent capacity = sent - capacity

-- how many of the sent values a receiver at this position has yet to receive
abbrev pub unread : (sent position : ℕ) → ℕ
unread sent position = sent - position

-- how many of these were evicted
abbrev pub lag : (oldest position : ℕ) → ℕ
lag oldest position = oldest - position

-- the least of some numbers, if there are any
abbrev pub least : List ℕ → Option ℕ
least [] = None
least (p ∷ ps) = Some (fold min p ps)

-- how many of the sent values come neither before the oldest retained one nor before the least position, if there is one
abbrev pub queued_from : (sent oldest : ℕ) → Option ℕ → ℕ
queued_from sent oldest None = 0
queued_from sent oldest (Some position) = sent - max oldest position

-- how many of the sent values are queued, where the receivers are at these positions.
-- tokio: "A value is queued until it has either been seen by all receivers that were alive at the time it was sent, or
-- has been evicted from the queue by subsequent sends that exceeded the queue's capacity."
abbrev pub queued : (sent oldest : ℕ) → (positions : List ℕ) → ℕ
queued sent oldest positions = queued_from sent oldest (least positions)
