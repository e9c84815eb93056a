-- The values that receivers have yet to receive, and what each call of the store leaves.
use Rattle.std.specs.Prelude.{◌≡◌, ℕ, zero, suc, ◌+◌, ◌-◌, ◌<◌, ◌≤◌, ◌==◌, Bool, if◌then◌else◌, List, [], ◌∷◌, ◌++◌}
use Rattle.std.specs.Prelude.{Option, Some, None, All, length, map, take, drop, slice_get, is_some, nat_lt}
use Rattle.std.specs.List.{flat_map}
use Rattle.std.specs.Option.{option_to_list}
use Rattle.rw_ring.specs.Windows.{window_after, eviction}
use Rattle.rw_values.specs.declared.values.Kept.{Kept}

-- what a store has
pub record Store (V : Type 0) : Type 0 where
  -- how many values it keeps at most
  pub capacity : ℕ
  -- one more than the number of the last value
  pub next : ℕ
  -- for each of the last values, as many as are kept, oldest first: how many receivers have yet to receive it, and the value
  -- until none has
  pub kept : List (Kept V)
  -- how many can be kept without allocating
  pub room : ℕ

-- a value that was just sent to this many receivers
abbrev pub sent_to : {V : Type 0} → ℕ → V → Kept V
sent_to receivers value = record { receivers = receivers; value = Some value }

-- a value is there as long as somebody has yet to receive it, and no longer
abbrev pub IsKept : {V : Type 0} → Kept V → Type 0
IsKept k = is_some k.value ≡ nat_lt 0 k.receivers

-- nobody has yet to receive it
abbrev pub IsServed : {V : Type 0} → Kept V → Type 0
IsServed k = k.receivers ≡ 0

-- somebody has
abbrev pub IsAwaited : {V : Type 0} → Kept V → Type 0
IsAwaited k = 0 < k.receivers

-- one receiver has yet to receive it
abbrev pub is_last : {V : Type 0} → Kept V → Bool
is_last k = k.receivers == 1

-- what is left once one more receiver has it or is gone
abbrev pub one_less : {V : Type 0} → Kept V → Kept V
one_less k = record { receivers = k.receivers - 1; value = if is_last k then None else k.value }

-- what is given back then: the value, by the last of them
abbrev pub given : {V : Type 0} → Kept V → Option V
given k = if is_last k then k.value else None

-- what is given back of several
abbrev pub all_given : {V : Type 0} → List (Kept V) → List V
all_given ks = flat_map (λ k. option_to_list (given k)) ks

-- the values, with one receiver less for the one that comes after this many older ones
abbrev pub one_less_at : {V : Type 0} → List (Kept V) → ℕ → List (Kept V)
one_less_at [] age = []
one_less_at (k ∷ ks) zero = one_less k ∷ ks
one_less_at (k ∷ ks) (suc age) = k ∷ one_less_at ks age

-- the values, with one receiver less for all but this many of the oldest
abbrev pub one_less_from : {V : Type 0} → List (Kept V) → ℕ → List (Kept V)
one_less_from ks older = take older ks ++ map one_less (drop older ks)

-- how many older ones are kept than the value with this number
abbrev pub age : {V : Type 0} → Store V → ℕ → ℕ
age s number = number - (s.next - length s.kept)

-- how many have yet to receive it, if it is kept
abbrev pub receivers_of : {V : Type 0} → Option (Kept V) → ℕ
receivers_of None = 0
receivers_of (Some k) = k.receivers

-- the value, if it is kept and still there
abbrev pub value_of : {V : Type 0} → Option (Kept V) → Option V
value_of None = None
value_of (Some k) = k.value

-- what is given back once one more receiver has it or is gone
abbrev pub given_of : {V : Type 0} → Option (Kept V) → Option V
given_of None = None
given_of (Some k) = given k

-- the value with this number, as it is kept
abbrev pub kept_at : {V : Type 0} → Store V → ℕ → Option (Kept V)
kept_at s number = slice_get s.kept (age s number)

-- the store keeps the value with this number, for somebody who has yet to receive it
pub record Awaits {V : Type 0} (s : Store V) (number : ℕ) : Type 0 where
  pub kept : s.next ≤ number + length s.kept
  pub sent : number < s.next
  pub some : 0 < receivers_of (kept_at s number)

-- before the first value
abbrev pub empty_store : {V : Type 0} → ℕ → Store V
empty_store capacity = record { capacity = capacity; next = 0; kept = []; room = 0 }

-- there is a cell for one more value: a new one, or that of the value that is overwritten
abbrev pub HasRoom : {V : Type 0} → Store V → Type 0
HasRoom s = length s.kept < s.capacity → length s.kept < s.room

-- the number can be that of the next value: where sends failed before, which have numbers too, nobody has a value to receive
abbrev pub CanBeNext : {V : Type 0} → Store V → ℕ → Type 0
CanBeNext s number = (s.next ≤ number) × (s.next < number → All IsServed s.kept)

-- with one more value: if the store is full, it takes the place of the oldest
abbrev pub with_value : {V : Type 0} → Store V → (number receivers : ℕ) → V → Store V
with_value s number receivers value =
    record s { next = number + 1; kept = window_after s.capacity s.kept (sent_to receivers value) }

-- the value that it overwrites, if that is still there
abbrev pub overwritten : {V : Type 0} → Store V → Option V
overwritten s = value_of (eviction s.capacity s.kept)

-- once one more receiver has the value with this number
abbrev pub with_received : {V : Type 0} → Store V → ℕ → Store V
with_received s number = record s { kept = one_less_at s.kept (age s number) }

-- how many values were kept before those that a receiver has yet to receive
abbrev pub older_than : {V : Type 0} → Store V → ℕ → ℕ
older_than s unread = length s.kept - unread

-- once a receiver is gone that had this many values to receive
abbrev pub with_left : {V : Type 0} → Store V → ℕ → Store V
with_left s unread = record s { kept = one_less_from s.kept (older_than s unread) }

-- the values that it had to receive, as far as they are kept
abbrev pub unread_of : {V : Type 0} → Store V → ℕ → List (Kept V)
unread_of s unread = drop (older_than s unread) s.kept
