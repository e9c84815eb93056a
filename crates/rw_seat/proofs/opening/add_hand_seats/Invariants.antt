use Rattle.std.proofs.Common.{◌≡◌, ◌<◌, ◌≤◌, ℕ, Some, OnOk, length}
use Rattle.std.specs.Prelude.{slice_get}
use Rattle.rw_seat.specs.Journals.{StartsWith}
use Rattle.rw_seat.specs.DeskSeats.{DeskSeat, ChannelSeat, with_hand_seat}
use Rattle.rw_seat.proofs.opening.add_hand_seats.Given as goal

abbrev pub invariant-loop-hand_seat : goal.invariant-loop-hand_seat
invariant-loop-hand_seat g l = record {
  as_many : length l.seats ≡ length l.initial.seats;
  left : StartsWith l.initial.hand_seats.items l.hand_seats.items;
  rest : (a : ℕ) → a < length l.hand_seats.items → slice_get l.seats a ≡ slice_get l.initial.seats a;
  done : OnOk l.added ((a : ℕ) (s : DeskSeat g.row.V.Denot) (h : ChannelSeat g.row.V.Denot) → length l.hand_seats.items ≤ a
      → slice_get l.initial.seats a ≡ Some s → slice_get l.initial.hand_seats.items a ≡ Some h → slice_get l.seats a ≡ Some (with_hand_seat s h));
}

abbrev pub decreases-loop-hand_seat : goal.decreases-loop-hand_seat
decreases-loop-hand_seat g l = length l.hand_seats.items
