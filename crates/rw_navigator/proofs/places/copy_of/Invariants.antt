use Rattle.std.proofs.Common.{◌≡◌, ◌≤◌, length, take, vec_len, vec_capacity}
use Rattle.rw_navigator.proofs.places.copy_of.Given as goal

-- the entries so far, and room for all
abbrev pub invariant-loop-entry : goal.invariant-loop-entry
invariant-loop-entry g l = record {
  copied : l.copy.items ≡ take l.entry-index l.entries;
  count : vec_len l.copy ≡ l.entry-index;
  room : length l.entries ≤ vec_capacity l.copy;
}
