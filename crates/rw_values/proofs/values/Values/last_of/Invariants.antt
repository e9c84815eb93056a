use Rattle.std.proofs.Common.{◌≡◌, ◌-◌, ◌≤◌, take}
use Rattle.std.specs.Prelude.{count_by}
use Rattle.rw_values.specs.Stored.{is_last}
use Rattle.rw_values.proofs.Leaving.{kept_from}
use Rattle.rw_values.proofs.values.Values.last_of.Given as goal

abbrev pub invariant-loop-number : goal.invariant-loop-number
invariant-loop-number g l = record {
  counted : l.last ≡ count_by is_last (take (l.number - l.from) (kept_from l.self l.from));
  few : l.last ≤ l.number - l.from;
}
