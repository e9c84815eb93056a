use Rattle.std.proofs.Common.{ℕ, ◌++◌, ◌∷◌, [], Some, ◌∙◌, ap, refl}
use Rattle.rw_desk.specs.Passes.{fresh_pass}
use Rattle.rw_desk.proofs.Opened.{one_more}
use Rattle.rw_seat.specs.DeskSeats.{DeskSeat}
use Rattle.rw_seat.proofs.opening.seats_without_hand_seats.Goals as goal

pub loop-actor-preserved : goal.loop-actor-preserved
loop-actor-preserved g c =
    let inv = c.loop-actor.invariant in
    let fresh : ℕ → DeskSeat g.row.V.Denot = λ a. record { pass = fresh_pass a; hand_seats = [] } in
    one_more (λ a. Some (fresh a)) c.loop-actor.seats.items c.push.new.self.items (fresh c.loop-actor.actor) c.loop-actor.actor inv.0 inv.1 refl
    (c.in_ok-push.ensures.items ∙ ap (λ s. c.loop-actor.seats.items ++ s ∷ []) c.new.ensures)
