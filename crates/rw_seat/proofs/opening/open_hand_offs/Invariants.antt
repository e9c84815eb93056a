use Rattle.std.proofs.Common.{◌≡◌, ◌≤◌, Some, length, map, take, vec_len, vec_capacity}
use Rattle.rw_world.specs.Openings.{opened_channel}
use Rattle.rw_seat.specs.SeatDesks.{opening_at}
use Rattle.rw_seat.proofs.Giving.{AreFresh}
use Rattle.rw_seat.proofs.opening.open_hand_offs.Given as goal

abbrev pub invariant-loop-spec : goal.invariant-loop-spec
invariant-loop-spec g l = record {
  as_many : vec_len l.hand_offs ≡ l.spec-index;
  room : length l.specs ≤ vec_capacity l.hand_offs;
  opened : map (λ h. opening_at h.home) l.hand_offs.items ≡ map (λ spec. Some (opened_channel spec)) (take l.spec-index l.specs);
  seats : AreFresh (map (λ h. h.home) l.hand_offs.items) l.actors l.seats;
}
