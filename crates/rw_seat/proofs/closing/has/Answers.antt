use Rattle.std.proofs.Common.{arith, ◌≡◌, ◌<◌, ℕ, suc, ◌+◌, map, take, length, get_or, List, sym, ap, ◌∙◌, subst}
use Rattle.rw_seat.specs.HandOffs.{HandSeat}
use Rattle.rw_seat.specs.Journals.{IsIn}
use Rattle.rw_seat.proofs.Closes.{in_at, not_more}
use Rattle.rw_seat.proofs.closing.has.Goals as goal

pub returns-then-seat-number : goal.returns-then-seat-number
returns-then-seat-number g c =
    let S : Type 0 = HandSeat g.row.B-Entry.Denot g.row.B-Start.Denot in
    let low : c.loop-seat.seat-index < length c.args.seats.now.items = omega arith in
    in_at (λ (s : S). s.number) c.args.seats.now.items c.loop-seat.seat-index c.args.number c.seat-item.result low
    (c.seat-item.is ∙ ap (λ (l : List S). get_or l c.loop-seat.seat-index c.seat-item.result) c.deref-seat-items.ensures.value)
    (sym c.if-seat-number.true ∙ ap (λ (s : S). s.number) c.seat.view_is)

pub loop-seat-preserved : goal.loop-seat-preserved
loop-seat-preserved g c =
    let S : Type 0 = HandSeat g.row.B-Entry.Denot g.row.B-Start.Denot in
    let low : c.loop-seat.seat-index < length c.args.seats.now.items = omega arith in
    let next : suc c.loop-seat.seat-index ≡ c.loop-seat.seat-index + 1 = omega arith in
    subst (λ (k : ℕ). IsIn c.args.number (map (λ (s : S). s.number) (take k c.args.seats.now.items)) → ⊥) next
    (not_more (λ (s : S). s.number) c.args.seats.now.items c.loop-seat.seat-index c.args.number c.seat-item.result low
    (c.seat-item.is ∙ ap (λ (l : List S). get_or l c.loop-seat.seat-index c.seat-item.result) c.deref-seat-items.ensures.value)
    (λ e. c.if-seat-number.false (ap (λ (s : S). s.number) c.seat.view_is ∙ e)) c.loop-seat.invariant)
