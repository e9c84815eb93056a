use Rattle.std.proofs.Common.{rules, arith, ℕ, ◌<◌, map, sym, ap, subst}
use mathlib.Core.Logic.{dite}
use native.Mathlib.Decide.{ℕ_discrete}
use Rattle.rw_seat.specs.HandOffs.{HandSeat}
use Rattle.rw_seat.specs.Journals.{IsIn}
use Rattle.rw_seat.proofs.hand_off.HandOff.has_all.Goals as goal

pub returns-then-not-has : goal.returns-then-not-has
returns-then-not-has g c = (c.loop-number.number, subst (λ h. c.loop-number.number < h.seats) c.self.view_is c.loop-number-test.true, c.if-not-has.ensures)

pub loop-number-preserved : goal.loop-number-preserved
loop-number-preserved g c n low =
    let S : Type 0 = HandSeat g.row.B-Entry.Denot g.row.B-Start.Denot in
    dite (ℕ_discrete n c.loop-number.number)
    (λ same. subst (λ (k : ℕ). IsIn k (map (λ (s : S). s.number) c.args.seats.now.items)) (sym same) (search rules))
    (λ other. c.loop-number.invariant n (omega arith))

pub returns : goal.returns
returns g c = λ n low. c.loop-number.invariant n (omega (arith, low, ap (λ h. h.seats) c.self.view_is))
