use Rattle.std.proofs.Common.{◌≡◌, sym, ap, ◌∙◌}
use Rattle.rw_desk.specs.Passes.{Pass}
use Rattle.rw_seat.proofs.Reaching.{seat_with_hand_seat}
use Rattle.rw_seat.proofs.desk_seat.DeskSeat.add.Goals as goal

pub invariant_of-self-2 : goal.invariant_of-self-2
invariant_of-self-2 g c =
    let here = c.self.inside in
    let pass : here.pass ≡ _ = ap (λ s. s.pass) c.self.view_is ∙ c.requires.pass in
    rw (c.in_ok-push.ensures.items) (seat_with_hand_seat here.pass here.hand_seats.items c.args.hand_seat c.self.invariant
    (sym (ap (λ (p : Pass g.row.V.Denot). p.actor) pass)) c.requires.front)
