use Rattle.std.proofs.Common.{◌<◌, length, refl, arith}
use Rattle.std.proofs.lemmas.Option.{slice_get_read}
use Rattle.rw_seat.proofs.Desks.{spec_of}
use Rattle.rw_seat.proofs.seat_desk.SeatDesk.hand_off_at.Goals as goal

pub returns-clause-spec : goal.returns-clause-spec
returns-clause-spec g c =
    let here = c.self.inside in
    let hand_offs = here.hand_offs.items in
    let within : c.args.at < length hand_offs = omega (arith, c.self.invariant.one_each) in
    let there = spec_of here.specs.items hand_offs c.args.at c.index.result.now c.self.invariant.opened
    (slice_get_read hand_offs (length hand_offs) c.args.at c.index.result.now refl within c.index.ensures) in
    rw (← c.self.view_is) there
