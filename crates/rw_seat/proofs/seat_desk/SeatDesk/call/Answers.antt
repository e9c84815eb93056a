-- `call` leaves a seat of the desk, which has the call as its last one, or has the calls from before and a fault.
use Rattle.std.proofs.Common.{◌≡◌, List, refl, sym, ap, ◌∙◌, subst, IfOk, IfErr}
use Rattle.std.specs.List.{insert, remove}
use Rattle.rw_desk.specs.Passes.{Pass}
use Rattle.rw_seat.specs.Calls.{IsMade, IsNotMade}
use Rattle.rw_seat.specs.DeskSeats.{ChannelSeat, IsDeskSeat}
use Rattle.rw_seat.specs.SeatDesks.{IsAnswered, IsSeatOf}
use Rattle.rw_seat.proofs.Desks.{answered, front_of_spec, home_at, refused_stray, seat_after, still_of, within_hand_seats}
use Rattle.rw_seat.proofs.seat_desk.SeatDesk.call.Goals as goal

pub returns-in_default-clause-answered : goal.returns-in_default-clause-answered
returns-in_default-clause-answered g c = refused_stray c.args.self.now.specs c.args.seat c.args.channel c.args.call (c.in_default.ensures.none.0 refl)

pub reach-pass-requires : goal.reach-pass-requires
reach-pass-requires g c = within_hand_seats c.args.seat.hand_seats c.args.self.now.homes c.args.channel c.in-Some.hand_off.now.home c.requires.homes
    c.in-Some.ensures.home

pub call_by_seat-hand_seat-requires-clause-home : goal.call_by_seat-hand_seat-requires-clause-home
call_by_seat-hand_seat-requires-clause-home g c =
    home_at c.args.seat.hand_seats c.args.self.now.homes c.args.channel c.in-Some.hand_off.now.home c.requires.homes c.in-Some.ensures.home
    c.reach-pass.result.2 c.reach-pass.ensures.hand_seat

pub call_by_seat-hand_seat-requires-clause-number : goal.call_by_seat-hand_seat-requires-clause-number
call_by_seat-hand_seat-requires-clause-number g c =
    let V : Type 0 = g.row.V.Denot in
    let r = c.reach-pass in
    let within = within_hand_seats c.args.seat.hand_seats c.args.self.now.homes c.args.channel c.in-Some.hand_off.now.home c.requires.homes
    c.in-Some.ensures.home in
    ap (λ (h : ChannelSeat V). h.number) r.ensures.hand_seat
    ∙ (r.ensures.seat.numbers c.args.channel r.result.2 within ∙ ap (λ (p : Pass V). p.actor) (sym r.ensures.pass))

pub whole-requires-clause-seat : goal.whole-requires-clause-seat
whole-requires-clause-seat g c =
    let V : Type 0 = g.row.V.Denot in
    let r = c.reach-pass in
    let made = c.call_by_seat-hand_seat in
    let home = c.in-Some.hand_off.now.home in
    let within = within_hand_seats c.args.seat.hand_seats c.args.self.now.homes c.args.channel home c.requires.homes c.in-Some.ensures.home in
    let seat = subst (λ (p : Pass V). IsDeskSeat p c.args.seat.hand_seats) (sym r.ensures.pass) r.ensures.seat in
    subst (λ (hs : List (ChannelSeat V)). IsDeskSeat made.new.pass (insert hs c.args.channel made.result.0)) (sym r.ensures.others)
    (seat_after r.result.0 made.new.pass c.args.seat.hand_seats c.args.channel r.result.2 made.result.0 home c.args.call made.result.1 within
    r.ensures.hand_seat seat made.ensures.number made.ensures.made made.ensures.refused)

pub returns-clause-seat : goal.returns-clause-seat
returns-clause-seat g c =
    let V : Type 0 = g.row.V.Denot in
    let r = c.reach-pass in
    let made = c.call_by_seat-hand_seat in
    let at = c.args.channel in
    let home = c.in-Some.hand_off.now.home in
    let spec = c.in-Some.ensures.spec in
    let within = within_hand_seats c.args.seat.hand_seats c.args.self.now.homes at home c.requires.homes c.in-Some.ensures.home in
    let before = home_at c.args.seat.hand_seats c.args.self.now.homes at home c.requires.homes c.in-Some.ensures.home r.result.2 r.ensures.hand_seat in
    let front = front_of_spec c.args.self.now.specs at spec.0 home made.result.0.front spec.1 spec.2 made.ensures.book in
    let is : c.whole.result ≡ record { pass = made.new.pass; hand_seats = insert (remove c.args.seat.hand_seats at) at made.result.0 } =
    c.whole.ensures ∙ ap (λ (hs : List (ChannelSeat V)). record { pass = made.new.pass; hand_seats = insert hs at made.result.0 }) r.ensures.others in
    subst (IsSeatOf c.args.self.now) (sym is)
    (still_of c.args.self.now c.args.seat.pass made.new.pass c.args.seat.hand_seats at r.result.2 made.result.0 within r.ensures.hand_seat
    (made.ensures.home ∙ sym before) front c.requires)

pub returns-clause-answered : goal.returns-clause-answered
returns-clause-answered g c =
    let V : Type 0 = g.row.V.Denot in
    let r = c.reach-pass in
    let made = c.call_by_seat-hand_seat in
    let at = c.args.channel in
    let home = c.in-Some.hand_off.now.home in
    let spec = c.in-Some.ensures.spec in
    let within = within_hand_seats c.args.seat.hand_seats c.args.self.now.homes at home c.requires.homes c.in-Some.ensures.home in
    let ok = subst (λ (p : Pass V). IfOk made.result.1 (IsMade p made.new.pass r.result.2.front made.result.0.front at c.args.call)) r.ensures.pass
    made.ensures.made in
    let err = subst (λ (p : Pass V). IfErr made.result.1 (IsNotMade home p made.new.pass r.result.2.front made.result.0.front c.args.call)) r.ensures.pass
    made.ensures.refused in
    let seat = seat_after c.args.seat.pass made.new.pass c.args.seat.hand_seats at r.result.2 made.result.0 home c.args.call made.result.1 within
    r.ensures.hand_seat r.ensures.seat made.ensures.number ok err in
    let is : c.whole.result ≡ record { pass = made.new.pass; hand_seats = insert (remove c.args.seat.hand_seats at) at made.result.0 } =
    c.whole.ensures ∙ ap (λ (hs : List (ChannelSeat V)). record { pass = made.new.pass; hand_seats = insert hs at made.result.0 }) r.ensures.others in
    subst (λ s. IsAnswered c.args.self.now.specs c.args.seat s at c.args.call made.result.1) (sym is)
    (answered c.args.self.now.specs c.args.seat.pass made.new.pass c.args.seat.hand_seats at r.result.2 made.result.0 home spec.0 c.args.call made.result.1
    within r.ensures.hand_seat spec.1 spec.2 spec.3 seat ok err)
