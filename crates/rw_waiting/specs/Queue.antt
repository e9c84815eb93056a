-- A queue from which items leave at any time, each by its number.
use Rattle.std.specs.Prelude.{ℕ, ◌+◌, ◌<◌, not, ◌==◌, cond, List, [], ◌∷◌, ◌++◌, map, All, Option, Some, None}
use Rattle.std.specs.List.{filter}
use Rattle.std.specs.List.Sorted.{IsStrictlySortedBy}
use Rattle.std.specs.Map.{keys_of}
use Rattle.std.specs.Ordering.{nat_cmp}
use Rattle.rw_waiting.specs.declared.queue.Entry.{Entry}

-- the items in the order in which they were added, and the number of the next one
pub record Queued (T : Type 0) : Type 0 where
  pub items : List (Entry T)
  pub next : ℕ

abbrev pub empty : {T : Type 0} → Queued T
empty = record { items = []; next = 0 }

-- these are here instead
abbrev pub with_items : {T : Type 0} → Queued T → List (Entry T) → Queued T
with_items q items = record q { items = items }

-- one more is here, behind the others, with the next number
abbrev pub with_item : {T : Type 0} → Queued T → T → Queued T
with_item q item = record { items = q.items ++ record { number = q.next; item = item } ∷ []; next = q.next + 1 }

-- the item with this number isn't here
abbrev pub without : {T : Type 0} → Queued T → ℕ → Queued T
without q number = with_items q (filter (λ k. not (k.number == number)) q.items)

-- the first of these items with this number
abbrev pub item_among : {T : Type 0} → List (Entry T) → ℕ → Option T
item_among [] number = None
item_among (k ∷ ks) number = cond (k.number == number) (Some k.item) (item_among ks number)

abbrev pub item_of : {T : Type 0} → Queued T → ℕ → Option T
item_of q number = item_among q.items number

-- another item in its place
abbrev pub other_among : {T : Type 0} → List (Entry T) → ℕ → T → List (Entry T)
other_among [] number other = []
other_among (k ∷ ks) number other = cond (k.number == number) (record k { item = other } ∷ ks) (k ∷ other_among ks number other)

abbrev pub with_other : {T : Type 0} → Queued T → ℕ → T → Queued T
with_other q number other = with_items q (other_among q.items number other)

-- the items of a map by their numbers, in their order
abbrev pub entries_of : {T : Type 0} → List (ℕ × T) → List (Entry T)
entries_of es = map (λ e. record { number = e.0; item = e.1 }) es

-- no item has this number, or a greater one
abbrev pub AreBelow : {T : Type 0} → ℕ → List (ℕ × T) → Type 0
AreBelow next es = All (λ k. k < next) (keys_of es)

-- the numbers rise, and are below the next one
abbrev pub AreNumbered : {T : Type 0} → ℕ → List (ℕ × T) → Type 0
AreNumbered next es = IsStrictlySortedBy nat_cmp (keys_of es) × AreBelow next es
