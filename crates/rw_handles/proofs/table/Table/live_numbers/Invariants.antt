use Rattle.std.proofs.Common.{◌≡◌, take}
use Rattle.rw_handles.specs.Renaming.{live_numbers}
use Rattle.rw_handles.proofs.table.Table.live_numbers.Given as goal

abbrev pub invariant-loop-i : goal.invariant-loop-i
invariant-loop-i g l = l.numbers.items ≡ live_numbers (take l.i l.self.slots)
