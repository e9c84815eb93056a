use Rattle.std.proofs.Common.{ap, subst}
use Rattle.rw_seat.specs.SeatDesks.{passes_in}
use Rattle.rw_desk.specs.Closing.{AreAllHere}
use Rattle.rw_desk.proofs.Errors.{close_fault}
use Rattle.rw_seat.proofs.Closings.{first_self, some_seat}
use Rattle.rw_seat.proofs.seat_desk.SeatDesk.close.Goals as goal

pub returns-in-Some-clause-seats : goal.returns-in-Some-clause-seats
returns-in-Some-clause-seats g c = first_self c.args.seats.items

pub settled-requires-clause-some : goal.settled-requires-clause-some
settled-requires-clause-some g c =
    some_seat c.self.inside.actors c.args.seats.items c.self.invariant.some_actor
    (subst (λ ss. AreAllHere c.self.inside.actors (passes_in ss)) c.deref.ensures.value c.in_default.ensures.none)

pub settled-requires-clause-here : goal.settled-requires-clause-here
settled-requires-clause-here g c =
    let here : AreAllHere c.self.inside.actors (passes_in c.args.seats.items) =
    subst (λ ss. AreAllHere c.self.inside.actors (passes_in ss)) c.deref.ensures.value c.in_default.ensures.none in
    subst (λ a. AreAllHere a (passes_in c.args.seats.items)) (ap (λ d. d.actors) c.self.view_is) here

pub returns-in-Err-clause-fault : goal.returns-in-Err-clause-fault
returns-in-Err-clause-fault g c =
    let here : AreAllHere c.self.inside.actors (passes_in c.args.seats.items) =
    subst (λ ss. AreAllHere c.self.inside.actors (passes_in ss)) c.deref.ensures.value c.in_default.ensures.none in
    close_fault c.args.self.actors (passes_in c.args.seats.items) c.in-Err.fault c.in-Err.ensures.fault
    (subst (λ a. AreAllHere a (passes_in c.args.seats.items)) (ap (λ d. d.actors) c.self.view_is) here)
