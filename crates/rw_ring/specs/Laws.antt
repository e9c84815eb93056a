-- What a window is, among all the values that were put.
use Rattle.std.specs.Prelude.{◌≡◌, ℕ, ◌+◌, ◌-◌, ◌<◌, ◌≤◌, min, List, [], ◌∷◌, ◌++◌, length, slice_get, is_some, nat_lt}
use Rattle.rw_ring.specs.Windows.{window_after, eviction, window_before, last_values}

-- undoing a put gives the window before it
abbrev pub UnputUndoesPut : Type 0 → Type 0
UnputUndoesPut V = (capacity : ℕ) (window : List V) (v : V) → 0 < capacity
    → window_before (eviction capacity window) (window_after capacity window v) ≡ window

-- a put evicts a value exactly where undoing it needs one: where more were put than the capacity
abbrev pub PutFitsUnput : Type 0 → Type 0
PutFitsUnput V = (capacity : ℕ) (window : List V) (count : ℕ) → 0 < capacity → length window ≡ min count capacity
    → is_some (eviction capacity window) ≡ nat_lt capacity (count + 1)

-- with one more value, the window still has the last values of all
abbrev pub PutKeepsTheLast : Type 0 → Type 0
PutKeepsTheLast V = (capacity : ℕ) (all : List V) (v : V) → 0 < capacity
    → window_after capacity (last_values capacity all) v ≡ last_values capacity (all ++ v ∷ [])

-- a value of the window is read by its position among all values
abbrev pub ReadsByPosition : Type 0 → Type 0
ReadsByPosition V = (capacity : ℕ) (all : List V) (position : ℕ) → length all - capacity ≤ position
    → slice_get (last_values capacity all) (position - (length all - capacity)) ≡ slice_get all position
