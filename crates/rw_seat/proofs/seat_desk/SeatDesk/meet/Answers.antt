-- After `meet` on a channel, one of the two fronts there extends the other, and each extends its earlier ones. All else of the seats is as before.
use Rattle.std.proofs.Common.{◌≡◌, ℕ, List, ◌++◌, length, sym, ap, ◌∙◌, subst}
use Rattle.rw_world.specs.Specified.{ChanEntry}
use Rattle.rw_seat.specs.Fronts.{HasGoneOn, IsFrontOf, author_of}
use Rattle.rw_seat.specs.Journals.{StartsWith}
use Rattle.rw_seat.proofs.Journals.{quiet_twice}
use Rattle.rw_seat.proofs.Desks.{front_begins, front_of_spec, home_at, looked, looked_seat, seen_nothing, within_hand_seats}
use Rattle.rw_seat.proofs.seat_desk.SeatDesk.meet.Goals as goal

pub returns-in_default-clause-seen : goal.returns-in_default-clause-seen
returns-in_default-clause-seen g c = (seen_nothing c.args.one, seen_nothing c.args.two)

pub reach-first-requires : goal.reach-first-requires
reach-first-requires g c = within_hand_seats c.args.one.hand_seats c.args.self.now.homes c.args.channel c.in-Some.hand_off.now.home c.requires.one.homes
    c.in-Some.ensures.home

pub reach-second-requires : goal.reach-second-requires
reach-second-requires g c = within_hand_seats c.args.two.hand_seats c.args.self.now.homes c.args.channel c.in-Some.hand_off.now.home c.requires.two.homes
    c.in-Some.ensures.home

pub meet-one-requires-clause-one : goal.meet-one-requires-clause-one
meet-one-requires-clause-one g c =
    home_at c.args.one.hand_seats c.args.self.now.homes c.args.channel c.in-Some.hand_off.now.home c.requires.one.homes c.in-Some.ensures.home
    c.reach-first.result.2 c.reach-first.ensures.hand_seat

pub meet-one-requires-clause-two : goal.meet-one-requires-clause-two
meet-one-requires-clause-two g c =
    home_at c.args.two.hand_seats c.args.self.now.homes c.args.channel c.in-Some.hand_off.now.home c.requires.two.homes c.in-Some.ensures.home
    c.reach-second.result.2 c.reach-second.ensures.hand_seat

pub whole-requires-clause-seat : goal.whole-requires-clause-seat
whole-requires-clause-seat g c =
    let E : Type 0 = List (ChanEntry g.row.V.Denot) in
    let at = c.args.channel in
    let home = c.in-Some.hand_off.now.home in
    let r = c.reach-first in
    let within = within_hand_seats c.args.one.hand_seats c.args.self.now.homes at home c.requires.one.homes c.in-Some.ensures.home in
    let met = c.meet-one in
    let look = c.length_by_seat-one in
    let number : look.result.0.number ≡ r.result.2.number = look.ensures.number ∙ met.ensures.numbers.0 in
    let later : HasGoneOn r.result.2.number met.result.0.front look.result.0.front =
    subst (λ (n : ℕ). HasGoneOn n met.result.0.front look.result.0.front) met.ensures.numbers.0 look.ensures.front in
    let on : HasGoneOn r.result.2.number r.result.2.front look.result.0.front =
    quiet_twice author_of r.result.2.number r.result.2.front met.result.0.front look.result.0.front met.ensures.one later in
    looked_seat c.args.one r.result.0 r.result.1.items at r.result.2 look.result.0 within r.ensures.pass r.ensures.others r.ensures.hand_seat r.ensures.seat
    number on

pub whole-requires-2-clause-seat : goal.whole-requires-2-clause-seat
whole-requires-2-clause-seat g c =
    let E : Type 0 = List (ChanEntry g.row.V.Denot) in
    let at = c.args.channel in
    let home = c.in-Some.hand_off.now.home in
    let t = c.reach-second in
    let within2 = within_hand_seats c.args.two.hand_seats c.args.self.now.homes at home c.requires.two.homes c.in-Some.ensures.home in
    let met = c.meet-one in
    looked_seat c.args.two t.result.0 t.result.1.items at t.result.2 met.result.1 within2 t.ensures.pass t.ensures.others t.ensures.hand_seat t.ensures.seat
    met.ensures.numbers.1 met.ensures.two

pub returns-clause-seats : goal.returns-clause-seats
returns-clause-seats g c =
    let E : Type 0 = List (ChanEntry g.row.V.Denot) in
    let at = c.args.channel in
    let home = c.in-Some.hand_off.now.home in
    let r = c.reach-first in
    let within = within_hand_seats c.args.one.hand_seats c.args.self.now.homes at home c.requires.one.homes c.in-Some.ensures.home in
    let met = c.meet-one in
    let look = c.length_by_seat-one in
    let number : look.result.0.number ≡ r.result.2.number = look.ensures.number ∙ met.ensures.numbers.0 in
    let later : HasGoneOn r.result.2.number met.result.0.front look.result.0.front =
    subst (λ (n : ℕ). HasGoneOn n met.result.0.front look.result.0.front) met.ensures.numbers.0 look.ensures.front in
    let on : HasGoneOn r.result.2.number r.result.2.front look.result.0.front =
    quiet_twice author_of r.result.2.number r.result.2.front met.result.0.front look.result.0.front met.ensures.one later in
    let before = home_at c.args.one.hand_seats c.args.self.now.homes at home c.requires.one.homes c.in-Some.ensures.home r.result.2 r.ensures.hand_seat in
    let spec = c.in-Some.ensures.spec in
    let front : IsFrontOf c.args.self.now.specs at look.result.0.front =
    front_of_spec c.args.self.now.specs at spec.0 home look.result.0.front spec.1 spec.2 look.ensures.book in
    let one = looked c.args.one r.result.0 r.result.1.items at r.result.2 look.result.0 within r.ensures.pass r.ensures.others r.ensures.hand_seat
    r.ensures.seat number on c.args.self.now c.whole.result c.whole.ensures (look.ensures.home ∙ sym before) front c.requires.one in
    let t = c.reach-second in
    let within2 = within_hand_seats c.args.two.hand_seats c.args.self.now.homes at home c.requires.two.homes c.in-Some.ensures.home in
    let before2 = home_at c.args.two.hand_seats c.args.self.now.homes at home c.requires.two.homes c.in-Some.ensures.home t.result.2 t.ensures.hand_seat in
    let begins : StartsWith look.result.0.front met.result.1.front =
    (look.ensures.front.0, look.ensures.front.1 ∙ ap (λ (f : E). f ++ look.ensures.front.0) met.ensures.same) in
    let two = looked c.args.two t.result.0 t.result.1.items at t.result.2 met.result.1 within2 t.ensures.pass t.ensures.others t.ensures.hand_seat
    t.ensures.seat met.ensures.numbers.1 met.ensures.two c.args.self.now c.whole-2.result c.whole-2.ensures (met.ensures.home.1 ∙ sym before2)
    (front_begins c.args.self.now.specs at spec.0 met.result.1.front look.result.0.front spec.1 begins front) c.requires.two in
    (one.0, two.0)

pub returns-clause-seen : goal.returns-clause-seen
returns-clause-seen g c =
    let E : Type 0 = List (ChanEntry g.row.V.Denot) in
    let at = c.args.channel in
    let home = c.in-Some.hand_off.now.home in
    let r = c.reach-first in
    let within = within_hand_seats c.args.one.hand_seats c.args.self.now.homes at home c.requires.one.homes c.in-Some.ensures.home in
    let met = c.meet-one in
    let look = c.length_by_seat-one in
    let number : look.result.0.number ≡ r.result.2.number = look.ensures.number ∙ met.ensures.numbers.0 in
    let later : HasGoneOn r.result.2.number met.result.0.front look.result.0.front =
    subst (λ (n : ℕ). HasGoneOn n met.result.0.front look.result.0.front) met.ensures.numbers.0 look.ensures.front in
    let on : HasGoneOn r.result.2.number r.result.2.front look.result.0.front =
    quiet_twice author_of r.result.2.number r.result.2.front met.result.0.front look.result.0.front met.ensures.one later in
    let before = home_at c.args.one.hand_seats c.args.self.now.homes at home c.requires.one.homes c.in-Some.ensures.home r.result.2 r.ensures.hand_seat in
    let spec = c.in-Some.ensures.spec in
    let front : IsFrontOf c.args.self.now.specs at look.result.0.front =
    front_of_spec c.args.self.now.specs at spec.0 home look.result.0.front spec.1 spec.2 look.ensures.book in
    let one = looked c.args.one r.result.0 r.result.1.items at r.result.2 look.result.0 within r.ensures.pass r.ensures.others r.ensures.hand_seat
    r.ensures.seat number on c.args.self.now c.whole.result c.whole.ensures (look.ensures.home ∙ sym before) front c.requires.one in
    let t = c.reach-second in
    let within2 = within_hand_seats c.args.two.hand_seats c.args.self.now.homes at home c.requires.two.homes c.in-Some.ensures.home in
    let before2 = home_at c.args.two.hand_seats c.args.self.now.homes at home c.requires.two.homes c.in-Some.ensures.home t.result.2 t.ensures.hand_seat in
    let begins : StartsWith look.result.0.front met.result.1.front =
    (look.ensures.front.0, look.ensures.front.1 ∙ ap (λ (f : E). f ++ look.ensures.front.0) met.ensures.same) in
    let two = looked c.args.two t.result.0 t.result.1.items at t.result.2 met.result.1 within2 t.ensures.pass t.ensures.others t.ensures.hand_seat
    t.ensures.seat met.ensures.numbers.1 met.ensures.two c.args.self.now c.whole-2.result c.whole-2.ensures (met.ensures.home.1 ∙ sym before2)
    (front_begins c.args.self.now.specs at spec.0 met.result.1.front look.result.0.front spec.1 begins front) c.requires.two in
    (one.1, two.1)

pub returns-clause-elsewhere : goal.returns-clause-elsewhere
returns-clause-elsewhere g c =
    let E : Type 0 = List (ChanEntry g.row.V.Denot) in
    let at = c.args.channel in
    let home = c.in-Some.hand_off.now.home in
    let r = c.reach-first in
    let within = within_hand_seats c.args.one.hand_seats c.args.self.now.homes at home c.requires.one.homes c.in-Some.ensures.home in
    let met = c.meet-one in
    let look = c.length_by_seat-one in
    let number : look.result.0.number ≡ r.result.2.number = look.ensures.number ∙ met.ensures.numbers.0 in
    let later : HasGoneOn r.result.2.number met.result.0.front look.result.0.front =
    subst (λ (n : ℕ). HasGoneOn n met.result.0.front look.result.0.front) met.ensures.numbers.0 look.ensures.front in
    let on : HasGoneOn r.result.2.number r.result.2.front look.result.0.front =
    quiet_twice author_of r.result.2.number r.result.2.front met.result.0.front look.result.0.front met.ensures.one later in
    let before = home_at c.args.one.hand_seats c.args.self.now.homes at home c.requires.one.homes c.in-Some.ensures.home r.result.2 r.ensures.hand_seat in
    let spec = c.in-Some.ensures.spec in
    let front : IsFrontOf c.args.self.now.specs at look.result.0.front =
    front_of_spec c.args.self.now.specs at spec.0 home look.result.0.front spec.1 spec.2 look.ensures.book in
    let one = looked c.args.one r.result.0 r.result.1.items at r.result.2 look.result.0 within r.ensures.pass r.ensures.others r.ensures.hand_seat
    r.ensures.seat number on c.args.self.now c.whole.result c.whole.ensures (look.ensures.home ∙ sym before) front c.requires.one in
    let t = c.reach-second in
    let within2 = within_hand_seats c.args.two.hand_seats c.args.self.now.homes at home c.requires.two.homes c.in-Some.ensures.home in
    let before2 = home_at c.args.two.hand_seats c.args.self.now.homes at home c.requires.two.homes c.in-Some.ensures.home t.result.2 t.ensures.hand_seat in
    let begins : StartsWith look.result.0.front met.result.1.front =
    (look.ensures.front.0, look.ensures.front.1 ∙ ap (λ (f : E). f ++ look.ensures.front.0) met.ensures.same) in
    let two = looked c.args.two t.result.0 t.result.1.items at t.result.2 met.result.1 within2 t.ensures.pass t.ensures.others t.ensures.hand_seat
    t.ensures.seat met.ensures.numbers.1 met.ensures.two c.args.self.now c.whole-2.result c.whole-2.ensures (met.ensures.home.1 ∙ sym before2)
    (front_begins c.args.self.now.specs at spec.0 met.result.1.front look.result.0.front spec.1 begins front) c.requires.two in
    (one.2, two.2)

pub returns-clause-met : goal.returns-clause-met
returns-clause-met g c =
    let E : Type 0 = List (ChanEntry g.row.V.Denot) in
    let at = c.args.channel in
    let home = c.in-Some.hand_off.now.home in
    let r = c.reach-first in
    let within = within_hand_seats c.args.one.hand_seats c.args.self.now.homes at home c.requires.one.homes c.in-Some.ensures.home in
    let met = c.meet-one in
    let look = c.length_by_seat-one in
    let number : look.result.0.number ≡ r.result.2.number = look.ensures.number ∙ met.ensures.numbers.0 in
    let later : HasGoneOn r.result.2.number met.result.0.front look.result.0.front =
    subst (λ (n : ℕ). HasGoneOn n met.result.0.front look.result.0.front) met.ensures.numbers.0 look.ensures.front in
    let on : HasGoneOn r.result.2.number r.result.2.front look.result.0.front =
    quiet_twice author_of r.result.2.number r.result.2.front met.result.0.front look.result.0.front met.ensures.one later in
    let before = home_at c.args.one.hand_seats c.args.self.now.homes at home c.requires.one.homes c.in-Some.ensures.home r.result.2 r.ensures.hand_seat in
    let spec = c.in-Some.ensures.spec in
    let front : IsFrontOf c.args.self.now.specs at look.result.0.front =
    front_of_spec c.args.self.now.specs at spec.0 home look.result.0.front spec.1 spec.2 look.ensures.book in
    let one = looked c.args.one r.result.0 r.result.1.items at r.result.2 look.result.0 within r.ensures.pass r.ensures.others r.ensures.hand_seat
    r.ensures.seat number on c.args.self.now c.whole.result c.whole.ensures (look.ensures.home ∙ sym before) front c.requires.one in
    let t = c.reach-second in
    let within2 = within_hand_seats c.args.two.hand_seats c.args.self.now.homes at home c.requires.two.homes c.in-Some.ensures.home in
    let before2 = home_at c.args.two.hand_seats c.args.self.now.homes at home c.requires.two.homes c.in-Some.ensures.home t.result.2 t.ensures.hand_seat in
    let begins : StartsWith look.result.0.front met.result.1.front =
    (look.ensures.front.0, look.ensures.front.1 ∙ ap (λ (f : E). f ++ look.ensures.front.0) met.ensures.same) in
    let two = looked c.args.two t.result.0 t.result.1.items at t.result.2 met.result.1 within2 t.ensures.pass t.ensures.others t.ensures.hand_seat
    t.ensures.seat met.ensures.numbers.1 met.ensures.two c.args.self.now c.whole-2.result c.whole-2.ensures (met.ensures.home.1 ∙ sym before2)
    (front_begins c.args.self.now.specs at spec.0 met.result.1.front look.result.0.front spec.1 begins front) c.requires.two in (
      look.ensures.length ∙ ap length (sym one.3),
      subst (λ (z : E × E). StartsWith z.0 z.1) (λ i. (sym one.3 i, sym two.3 i)) begins,
    )
