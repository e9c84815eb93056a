-- Searches for the places where a condition is met.
use Rattle.std.specs.Prelude.{◌≡◌, ℕ, zero, suc, ◌+◌, ◌-◌, ◌*◌, ◌≤◌, Bool, false, not, ◌&&◌, nat_lt}
use Rattle.std.specs.Prelude.{if◌then◌else◌, Option, Some, None, List, slice_get, unwrap_or}
use Rattle.std.specs.Option.{option_map_or}
use Rattle.rw_law.specs.declared.machine.Reversible.{Ghosts}
use Rattle.rw_law.specs.declared.journal.Entry.{Entry}
use Rattle.rw_law.specs.Journal.{after}
use Rattle.rw_navigator.specs.Navigator.{Navigator, start_of, MovedTo}

-- the entry that leads to place p meets the condition
abbrev pub step_hit : {E : Type 0} → (E → Bool) → List E → ℕ → Bool
step_hit holds es p = nat_lt 0 p && option_map_or holds (slice_get es (p - 1)) false

module _ {M C R P : Type 0} (m : Ghosts M C R P) where
  -- the state at place p meets the condition, and the state at the place before does not
  abbrev pub state_hit : (m.View → Bool) → m.View → List (Entry M C R P) → ℕ → Bool
  state_hit holds start es p = nat_lt 0 p && (holds (after m start es p) && not (holds (after m start es (p - 1))))

  -- place p of the visited journal is a hit of a condition on entries, or of one on states
  abbrev pub hit : Bool → (Entry M C R P → Bool) → (m.View → Bool) → Navigator M C R P → ℕ → Bool
  hit on_step step state v p = if on_step then step_hit step v.entries p else state_hit state (start_of m v) v.entries p

  -- the test of a machine is the test f of what it shows
  abbrev pub TestsView : (m.View → Bool) → (M → Bool) → Type 0
  TestsView f holds = (x : M) → holds x ≡ f (m.shown x)

  -- the new visit is at the place that was found, or at the old place if none was, after at most this many calls
  abbrev pub SearchedTo : (old new : Navigator M C R P) → Option ℕ → ℕ → Type 0
  SearchedTo old new found most = (n : ℕ) × (n ≤ most) × MovedTo m old new (unwrap_or found old.place) n

-- the greatest number below p that passes
abbrev pub last_below : (ℕ → Bool) → ℕ → Option ℕ
last_below test zero = None
last_below test (suc p) = if test p then Some p else last_below test p

-- the least of the next n numbers after p that passes
abbrev pub first_of_next : (ℕ → Bool) → ℕ → ℕ → Option ℕ
first_of_next test p zero = None
first_of_next test p (suc n) = if test (p + 1) then Some (p + 1) else first_of_next test (p + 1) n

-- the least number above p, up to len, that passes
abbrev pub first_above : (ℕ → Bool) → ℕ → ℕ → Option ℕ
first_above test p len = first_of_next test p (len - p)

-- the most calls of a search on states from place p towards the start: one place beyond the hit and back to it, or to the start
-- and back
abbrev pub most_below : ℕ → Option ℕ → ℕ
most_below p None = 2 * p
most_below p (Some q) = (p - q) + 2

-- the same towards the end, place len: to the hit, or to the end and back
abbrev pub most_above : ℕ → ℕ → Option ℕ → ℕ
most_above p len None = 2 * (len - p)
most_above p len (Some q) = q - p
