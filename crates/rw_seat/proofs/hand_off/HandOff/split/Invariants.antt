use Rattle.std.proofs.Common.{◌≡◌, ◌≤◌, ℕ, ◌+◌, [], ◌∷◌, map, length, vec_capacity}
use Rattle.rw_seat.specs.Rule.{resting, numbers_from}
use Rattle.rw_seat.proofs.hand_off.HandOff.split.Given as goal

abbrev pub invariant-loop-number : goal.invariant-loop-number
invariant-loop-number g l = record {
  seated : l.rest.table_id ≡ l.self.home.table;
  left : (k : ℕ) × (l.number + k + 1 ≡ l.self.seats)
      × (l.rest.me ≡ (resting (l.number ∷ numbers_from (l.number + 1) k) l.self.home.start l.fn.seat.me.0.front, []));
  room : (length l.hand_seats.items ≡ l.number) × (l.self.seats ≤ vec_capacity l.hand_seats);
  split : l.hand_seats.items ≡ map (λ n. record { number = n; home = l.self.home; front = l.fn.seat.me.0.front }) (numbers_from 0 l.number);
}
