use Rattle.std.proofs.Common.{◌≡◌, ℕ, List, [], ◌∷◌, Option, ap, subst}
use Rattle.atomic_table.specs.Table.{Me}
use Rattle.rw_seat.specs.declared.view.View.{View}
use Rattle.rw_seat.specs.Journals.{IsQuiet}
use Rattle.rw_seat.proofs.hand_off.HandOff.take.Goals as goal

pub returns-clause-book : goal.returns-clause-book
returns-clause-book g c =
    let author = g.B.Keeps.author in
    let M : Type 0 = Me (Option g.row.B.Denot) (View g.row.B-Entry.Denot g.row.B-Start.Denot) in
    let s = c.seat.inside.seat in
    let ns : s.me.0.numbers ≡ c.seat.inside.number ∷ [] = ap (λ (m : M). m.0.numbers) c.seat.invariant in
    rw (← c.seat.view_is) (subst (λ (l : List ℕ). IsQuiet author l s.me.0.front (g.B.Keeps.journal c.acquire-book.result)) ns c.acquire-book.ensures.fits.0)

pub acquire-book-requires-clause-living : goal.acquire-book-requires-clause-living
acquire-book-requires-clause-living g c = (
  c.seat.inside.number,
  [],
  ap (λ (m : Me (Option g.row.B.Denot) (View g.row.B-Entry.Denot g.row.B-Start.Denot)). m.0.numbers) c.seat.invariant,
)
