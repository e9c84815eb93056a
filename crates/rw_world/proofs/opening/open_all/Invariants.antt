use Rattle.std.proofs.Common.{◌≡◌, ◌-◌, ◌≤◌, length, map, take, vec_capacity, vec_len}
use Rattle.rw_world.specs.Machines.{of_chan}
use Rattle.rw_world.specs.Openings.{opening_row}
use Rattle.rw_world.proofs.opening.open_all.Given as goal

abbrev pub invariant-loop-spec : goal.invariant-loop-spec
invariant-loop-spec g l = record {
  opened : map (of_chan {V = g.row.V.Denot}).shown l.channels.items ≡ opening_row (take l.spec-index l.specs);
  room : length l.specs - l.spec-index ≤ vec_capacity l.channels - vec_len l.channels;
}
