use Rattle.std.proofs.Common.{length, sym, ap, ◌∙◌}
use Rattle.rw_seat.specs.DeskSeats.{fresh_hand_seat}
use Rattle.rw_seat.proofs.Giving.{fresh_hand_seats, given_each, numbers_length, on_ok}
use Rattle.rw_seat.proofs.opening.open_to_seats.Goals as goal

pub add_hand_seats-requires-clause-all : goal.add_hand_seats-requires-clause-all
add_hand_seats-requires-clause-all g c =
    let home = c.in_ok-hand_off.hand_off.home in
    c.requires.all ∙ sym (ap length c.in_ok-hand_off.ensures.seats ∙ numbers_length (λ n. fresh_hand_seat {V = g.row.V.Denot} n home) 0 c.args.actors)

pub add_hand_seats-requires-clause-hand_seats : goal.add_hand_seats-requires-clause-hand_seats
add_hand_seats-requires-clause-hand_seats g c =
    fresh_hand_seats c.in_ok-hand_off.hand_off.home c.args.actors c.in_ok-hand_off.hand_seats.items c.in_ok-hand_off.ensures.seats

pub returns-clause-opened : goal.returns-clause-opened
returns-clause-opened g c =
    let hand_off = c.in_ok-hand_off.hand_off in
    on_ok c.add_hand_seats.result (λ each. (
      hand_off,
      c.push_reserved.ensures.items,
      c.in_ok-hand_off.ensures.opened,
      given_each hand_off.home c.args.actors c.args.seats.now c.add_hand_seats.new.seats c.in_ok-hand_off.hand_seats.items c.in_ok-hand_off.ensures.seats each,
    )) c.add_hand_seats.ensures.each
