-- `split` makes a seat of each number, in order, all with the front of the seat that it splits.
use Rattle.std.proofs.Common.{rules, arith, ◌≡◌, refl, ◌<◌, ℕ, List, [], ◌∷◌, ◌+◌, ◌-◌, map, Option, sym, ap, ◌∙◌, subst}
use Rattle.atomic_table.specs.Table.{Me}
use Rattle.rw_seat.specs.declared.view.View.{View}
use Rattle.rw_seat.specs.HandOffs.{HandSeat}
use Rattle.rw_seat.specs.Rule.{resting, numbers_from, first_part, other_part}
use Rattle.rw_seat.proofs.Splitting.{split_next, split_more, each_split}
use Rattle.rw_seat.proofs.Steps.{splits_view}
use Rattle.rw_seat.proofs.hand_off.HandOff.split.Goals as goal

pub split_seat-others-requires : goal.split_seat-others-requires
split_seat-others-requires g c =
    let start = g.B.Keeps.start in
    let key = c.self.inside.table.shared.key in
    let left = c.loop-number.invariant.left in
    let n : ℕ = c.loop-number.number in (
      search rules,
      search rules,
      splits_view g.B.Keeps.author start g.B.Keeps.journal (start key.book.value) key.seats c.loop-number.rest.id n (numbers_from (n + 1) left.0)
          c.args.self.now.home.start c.args.seat.me.0.front c.loop-number.rest.me.0
          (ap (λ (m : Me (Option g.row.B.Denot) (View g.row.B-Entry.Denot g.row.B-Start.Denot)). m.0) left.2),
    )

pub invariant_of-push_reserved : goal.invariant_of-push_reserved
invariant_of-push_reserved g c =
    let M : Type 0 = Me (Option g.row.B.Denot) (View g.row.B-Entry.Denot g.row.B-Start.Denot) in
    let left = c.loop-number.invariant.left in
    let n : ℕ = c.loop-number.number in
    let is : c.split_seat-others.new.seat.me ≡ (resting (n ∷ []) c.args.self.now.home.start c.args.seat.me.0.front, []) =
    c.split_seat-others.ensures.2 ∙ ap (λ (m : M). (first_part m.0, m.1)) left.2 in
    is ∙ sym (ap (λ (m : M). (resting (n ∷ []) m.0.start m.0.front, [])) is)

pub loop-number-preserved : goal.loop-number-preserved
loop-number-preserved g c =
    let V : Type 0 = View g.row.B-Entry.Denot g.row.B-Start.Denot in
    let M : Type 0 = Me (Option g.row.B.Denot) V in
    let H : Type 0 = HandSeat g.row.B-Entry.Denot g.row.B-Start.Denot in
    let inv = c.loop-number.invariant in
    let left = inv.left in
    let n : ℕ = c.loop-number.number in
    let all : ℕ = c.args.self.now.seats in
    let home = c.args.self.now.home in
    let f : List g.row.B-Entry.Denot = c.args.seat.me.0.front in
    let low : n < all - 1 = subst (λ h. n < h.seats - 1) c.self.view_is c.loop-number-test.true in
    let next = split_next n left.0 all left.1 low in
    let u : c.split_seat-others.result.me ≡ (other_part c.loop-number.rest.me.0, []) = c.split_seat-others.ensures.4 in
    let v : (other_part c.loop-number.rest.me.0, []) ≡ (resting (numbers_from (n + 1) left.0) home.start f, []) =
    ap (λ (m : M). (other_part m.0, [])) left.2 in
    let w : (resting (numbers_from (n + 1) left.0) home.start f, []) ≡ (resting ((n + 1) ∷ numbers_from ((n + 1) + 1) next.0) home.start f, []) =
    ap (λ (l : List ℕ). (resting l home.start f, [])) next.2 in
    let hand_seat : ℕ → H = λ k. record { number = k; home = home; front = f } in
    let table : c.split_seat-others.new.seat.table_id ≡ home.table = c.split_seat-others.ensures.0 ∙ inv.seated in
    let from : c.split_seat-others.new.seat.me.0.start ≡ home.start =
    ap (λ (m : M). m.0.start) c.split_seat-others.ensures.2 ∙ ap (λ (m : M). m.0.start) left.2 in
    let seen : c.split_seat-others.new.seat.me.0.front ≡ f = ap (λ (m : M). m.0.front) c.split_seat-others.ensures.2 ∙ ap (λ (m : M). m.0.front) left.2 in
    let split : ◌≡◌ {A = H} (record {
      number = n;
      home = record { table = c.split_seat-others.new.seat.table_id; start = c.split_seat-others.new.seat.me.0.start };
      front = c.split_seat-others.new.seat.me.0.front;
    }) (hand_seat n) =
    λ i. record { number = n; home = record { table = table i; start = from i }; front = seen i } in record {
      seated = search rules;
      left = (next.0, next.1, u ∙ (v ∙ w));
      room = (omega arith, omega arith);
      split = split_more hand_seat c.loop-number.hand_seats.items c.push_reserved.new.self.items _ n c.push_reserved.ensures.items inv.split split;
    }

pub returns-clause-split : goal.returns-clause-split
returns-clause-split g c =
    let M : Type 0 = Me (Option g.row.B.Denot) (View g.row.B-Entry.Denot g.row.B-Start.Denot) in
    let H : Type 0 = HandSeat g.row.B-Entry.Denot g.row.B-Start.Denot in
    let inv = c.loop-number.invariant in
    let rest = c.loop-number.rest in
    let n : ℕ = c.loop-number.number in
    let home = c.args.self.now.home in
    let f : List g.row.B-Entry.Denot = c.args.seat.me.0.front in
    let hand_seat : ℕ → H = λ k. record { number = k; home = home; front = f } in
    let seats : c.self.inside.seats ≡ c.args.self.now.seats = ap (λ h. h.seats) c.self.view_is in
    let last : c.self.inside.seats - 1 ≡ n = omega (arith, seats, inv.left.1) in
    let all : n + 1 ≡ c.args.self.now.seats = omega (arith, seats, inv.left.1) in
    let from : rest.me.0.start ≡ home.start = ap (λ (m : M). m.0.start) inv.left.2 in
    let seen : rest.me.0.front ≡ f = ap (λ (m : M). m.0.front) inv.left.2 in
    let split : ◌≡◌ {A = H} (record {
      number = c.self.inside.seats - 1;
      home = record { table = rest.table_id; start = rest.me.0.start };
      front = rest.me.0.front;
    }) (hand_seat n) =
    λ i. record { number = last i; home = record { table = inv.seated i; start = from i }; front = seen i } in
    split_more hand_seat c.loop-number.hand_seats.items c.push_reserved-2.new.self.items _ n c.push_reserved-2.ensures.items inv.split split
    ∙ ap (λ (k : ℕ). map hand_seat (numbers_from 0 k)) all

pub returns-clause-home : goal.returns-clause-home
returns-clause-home g c =
    let H : Type 0 = HandSeat g.row.B-Entry.Denot g.row.B-Start.Denot in
    let hand_seat : ℕ → H = λ k. record { number = k; home = c.args.self.now.home; front = c.args.seat.me.0.front } in
    each_split (λ (s : H). s.home ≡ c.args.self.now.home) hand_seat c.push_reserved-2.new.self.items (numbers_from 0 c.args.self.now.seats)
    (returns-clause-split g c) (λ n. refl)
