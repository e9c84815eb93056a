-- After `meet` of two seats, one of their fronts extends the other, with no later entry of either seat's number.
use Rattle.std.proofs.Common.{rules, ◌≡◌, ℕ, List, [], ◌∷◌, Option, refl, sym, ap, ◌∙◌, subst, inl}
use Rattle.atomic_table.specs.Table.{Me}
use Rattle.rw_seat.specs.declared.view.View.{View}
use Rattle.rw_seat.specs.HandOffs.{HandSeat}
use Rattle.rw_seat.specs.Journals.{IsIn, IsQuiet}
use Rattle.rw_seat.specs.Rule.{resting}
use Rattle.rw_seat.proofs.Steps.{joins, joined_numbers, met_one, met_two, splits_view}
use Rattle.rw_seat.proofs.hand_off.HandOff.meet.Goals as goal

pub join_seat-requires : goal.join_seat-requires
join_seat-requires g c =
    let M : Type 0 = Me (Option g.row.B.Denot) (View g.row.B-Entry.Denot g.row.B-Start.Denot) in
    let start = g.B.Keeps.start in
    let key = c.self.inside.table.shared.key in
    let one = c.one.inside in
    let two = c.two.inside in
    let living : IsIn one.number one.seat.me.0.numbers = subst (IsIn one.number) (sym (ap (λ (m : M). m.0.numbers) c.one.invariant)) (inl refl) in (
      search rules,
      search rules,
      search rules,
      search rules,
      joins g.B.Keeps.author start g.B.Keeps.journal (start key.book.value) key.seats one.seat.id two.seat.id one.number one.seat.me.0 two.seat.me.0 living
          (ap (λ (m : M). m.0.held) c.one.invariant) (ap (λ (m : M). m.0.held) c.two.invariant),
    )

pub acquire-book-requires-clause-living : goal.acquire-book-requires-clause-living
acquire-book-requires-clause-living g c =
    let M : Type 0 = Me (Option g.row.B.Denot) (View g.row.B-Entry.Denot g.row.B-Start.Denot) in
    let one = c.one.inside in
    let two = c.two.inside in (
      one.number,
      two.number ∷ [],
      joined_numbers g.B.Keeps.author one.seat.me.0 two.seat.me.0 c.join_seat.new.seat.me.0 one.number two.number (ap (λ (m : M). m.0) c.join_seat.ensures.2)
          (ap (λ (m : M). m.0.numbers) c.one.invariant) (ap (λ (m : M). m.0.numbers) c.two.invariant),
    )

pub split_seat-other-requires : goal.split_seat-other-requires
split_seat-other-requires g c =
    let V : Type 0 = View g.row.B-Entry.Denot g.row.B-Start.Denot in
    let M : Type 0 = Me (Option g.row.B.Denot) V in
    let start = g.B.Keeps.start in
    let key = c.self.inside.table.shared.key in
    let one = c.one.inside in
    let two = c.two.inside in
    let first : ℕ = one.number in
    let second : ℕ = two.number in
    let h : List g.row.B-Entry.Denot = g.B.Keeps.journal c.acquire-book.result in
    let j : V = c.join_seat.new.seat.me.0 in
    let u : V = c.release.new.seat.me.0 in
    let from : Option g.row.B-Start.Denot = c.acquire-book.new.seat.me.0.start in
    let held : c.acquire-book.new.seat.me.0.numbers ≡ j.numbers = ap (λ (m : M). m.0.numbers) c.acquire-book.ensures.held in
    let both = joined_numbers g.B.Keeps.author one.seat.me.0 two.seat.me.0 j first second (ap (λ (m : M). m.0) c.join_seat.ensures.2)
    (ap (λ (m : M). m.0.numbers) c.one.invariant) (ap (λ (m : M). m.0.numbers) c.two.invariant) in
    let ns : c.acquire-book.new.seat.me.0.numbers ≡ first ∷ (second ∷ []) = held ∙ both in
    let is : u ≡ resting (first ∷ (second ∷ [])) from h = ap (λ (m : M). m.0) c.release.ensures.view ∙ ap (λ (l : List ℕ). resting l from h) ns in (
      search rules,
      search rules,
      splits_view g.B.Keeps.author start g.B.Keeps.journal (start key.book.value) key.seats c.release.new.seat.id first (second ∷ []) from h u is,
    )

pub returns-clause-numbers : goal.returns-clause-numbers
returns-clause-numbers g c =
    let S : Type 0 = HandSeat g.row.B-Entry.Denot g.row.B-Start.Denot in
    (ap (λ (s : S). s.number) c.one.view_is, ap (λ (s : S). s.number) c.two.view_is)

pub returns-clause-same : goal.returns-clause-same
returns-clause-same g c =
    let M : Type 0 = Me (Option g.row.B.Denot) (View g.row.B-Entry.Denot g.row.B-Start.Denot) in
    ap (λ (m : M). m.0.front) c.split_seat-other.ensures.2 ∙ sym (ap (λ (m : M). m.0.front) c.split_seat-other.ensures.4)

pub returns-clause-one : goal.returns-clause-one
returns-clause-one g c =
    let V : Type 0 = View g.row.B-Entry.Denot g.row.B-Start.Denot in
    let M : Type 0 = Me (Option g.row.B.Denot) V in
    let author = g.B.Keeps.author in
    let one = c.one.inside in
    let h : List g.row.B-Entry.Denot = g.B.Keeps.journal c.acquire-book.result in
    let end : c.split_seat-other.new.seat.me.0.front ≡ h =
    ap (λ (m : M). m.0.front) c.split_seat-other.ensures.2 ∙ ap (λ (m : M). m.0.front) c.release.ensures.view in
    rw (← c.one.view_is) (subst (λ (l : List g.row.B-Entry.Denot). IsQuiet author (one.number ∷ []) one.seat.me.0.front l) (sym end)
    (met_one author one.seat.me.0 c.two.inside.seat.me.0 c.join_seat.new.seat.me.0 h one.number (ap (λ (m : M). m.0) c.join_seat.ensures.2)
    c.acquire-book.ensures.fits (ap (λ (m : M). m.0.numbers) c.one.invariant)))

pub returns-clause-two : goal.returns-clause-two
returns-clause-two g c =
    let V : Type 0 = View g.row.B-Entry.Denot g.row.B-Start.Denot in
    let M : Type 0 = Me (Option g.row.B.Denot) V in
    let author = g.B.Keeps.author in
    let two = c.two.inside in
    let h : List g.row.B-Entry.Denot = g.B.Keeps.journal c.acquire-book.result in
    let end : c.split_seat-other.result.me.0.front ≡ h =
    ap (λ (m : M). m.0.front) c.split_seat-other.ensures.4 ∙ ap (λ (m : M). m.0.front) c.release.ensures.view in
    rw (← c.two.view_is) (subst (λ (l : List g.row.B-Entry.Denot). IsQuiet author (two.number ∷ []) two.seat.me.0.front l) (sym end)
    (met_two author c.one.inside.seat.me.0 two.seat.me.0 c.join_seat.new.seat.me.0 h two.number (ap (λ (m : M). m.0) c.join_seat.ensures.2)
    c.acquire-book.ensures.fits (ap (λ (m : M). m.0.numbers) c.two.invariant)))
