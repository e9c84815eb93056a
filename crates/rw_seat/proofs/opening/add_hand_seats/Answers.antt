-- `add_hand_seats` adds a channel's `HandSeat` to each seat, in order, and leaves the number of seats.
use Rattle.std.proofs.Common.{◌≡◌, ◌<◌, ◌∷◌, [], length, refl, sym, ap, ◌∙◌, append-nil, arith}
use Rattle.std.proofs.lemmas.List.{length-append, length-set}
use Rattle.std.proofs.lemmas.Option.{slice_get_within}
use Rattle.rw_seat.specs.DeskSeats.{DeskSeat, with_hand_seat}
use Rattle.rw_seat.proofs.Giving.{fresh_there, on_ok, one_given, one_left, rest_left}
use Rattle.rw_seat.proofs.opening.add_hand_seats.Goals as goal

pub loop-hand_seat-init : goal.loop-hand_seat-init
loop-hand_seat-init g c = record {
  as_many = refl;
  left = ([], sym (append-nil c.args.hand_seats.items));
  rest = λ a low. refl;
  done = λ a s h past seat hand_seat. absurd (let low = slice_get_within c.args.hand_seats.items a h hand_seat in omega arith);
}

pub add-requires-clause-pass : goal.add-requires-clause-pass
add-requires-clause-pass g c =
    let inv = c.loop-hand_seat.invariant in
    let xs = c.loop-hand_seat.hand_seats.items in
    let ys = c.pop.new.self.items in
    let x = c.in-Some.hand_seat in
    let s = c.index-seats-len.result in
    let seats = c.loop-hand_seat.seats in
    let last : c.len.result ≡ length ys = omega (arith, c.len.ensures) in
    let within : c.len.result < length seats = omega (
      arith,
      last,
      inv.as_many,
      c.requires.all,
      ap length inv.left.1,
      length-append xs inv.left.0,
      ap length c.in-Some.ensures.items,
      length-append ys (x ∷ []),
    ) in
    ap (λ (t : DeskSeat g.row.V.Denot). t.pass) (sym c.index-seats-len.is)
    ∙ (fresh_there c.args.seats.now c.args.hand_seats.items seats xs ys x c.len.result s inv.left c.in-Some.ensures.items last inv.rest within
    c.index-seats-len.is c.requires.fresh c.requires.hand_seats).0

pub add-requires-clause-front : goal.add-requires-clause-front
add-requires-clause-front g c =
    let inv = c.loop-hand_seat.invariant in
    let xs = c.loop-hand_seat.hand_seats.items in
    let ys = c.pop.new.self.items in
    let x = c.in-Some.hand_seat in
    let s = c.index-seats-len.result in
    let seats = c.loop-hand_seat.seats in
    let last : c.len.result ≡ length ys = omega (arith, c.len.ensures) in
    let within : c.len.result < length seats = omega (
      arith,
      last,
      inv.as_many,
      c.requires.all,
      ap length inv.left.1,
      length-append xs inv.left.0,
      ap length c.in-Some.ensures.items,
      length-append ys (x ∷ []),
    ) in
    (fresh_there c.args.seats.now c.args.hand_seats.items seats xs ys x c.len.result s inv.left c.in-Some.ensures.items last inv.rest within
    c.index-seats-len.is c.requires.fresh c.requires.hand_seats).1

pub loop-hand_seat-preserved-in-Err : goal.loop-hand_seat-preserved-in-Err
loop-hand_seat-preserved-in-Err g c =
    let inv = c.loop-hand_seat.invariant in
    let first = c.args.seats.now in
    let all = c.args.hand_seats.items in
    let xs = c.loop-hand_seat.hand_seats.items in
    let ys = c.pop.new.self.items in
    let x = c.in-Some.hand_seat in
    let s = c.index-seats-len.result in
    let seats = c.loop-hand_seat.seats in
    let at = c.len.result in
    let new = c.add.new.self in
    let last : at ≡ length ys = omega (arith, c.len.ensures) in
    let within : at < length seats = omega (
      arith,
      last,
      inv.as_many,
      c.requires.all,
      ap length inv.left.1,
      length-append xs inv.left.0,
      ap length c.in-Some.ensures.items,
      length-append ys (x ∷ []),
    ) in record {
      as_many = length-set seats at new ∙ inv.as_many;
      left = one_left first all seats xs ys x at s inv.left c.in-Some.ensures.items last inv.rest within c.index-seats-len.is;
      rest = rest_left first all seats xs ys x at s inv.left c.in-Some.ensures.items last inv.rest within c.index-seats-len.is new;
      done = tt;
    }

pub loop-hand_seat-preserved : goal.loop-hand_seat-preserved
loop-hand_seat-preserved g c =
    let inv = c.loop-hand_seat.invariant in
    let first = c.args.seats.now in
    let all = c.args.hand_seats.items in
    let xs = c.loop-hand_seat.hand_seats.items in
    let ys = c.pop.new.self.items in
    let x = c.in-Some.hand_seat in
    let s = c.index-seats-len.result in
    let seats = c.loop-hand_seat.seats in
    let at = c.len.result in
    let new = c.add.new.self in
    let last : at ≡ length ys = omega (arith, c.len.ensures) in
    let within : at < length seats = omega (
      arith,
      last,
      inv.as_many,
      c.requires.all,
      ap length inv.left.1,
      length-append xs inv.left.0,
      ap length c.in-Some.ensures.items,
      length-append ys (x ∷ []),
    ) in
    let made : new ≡ with_hand_seat s x = c.in_default-add.ensures ∙ ap (λ (t : DeskSeat g.row.V.Denot). with_hand_seat t x) (sym c.index-seats-len.is) in
    record {
      as_many = length-set seats at new ∙ inv.as_many;
      left = one_left first all seats xs ys x at s inv.left c.in-Some.ensures.items last inv.rest within c.index-seats-len.is;
      rest = rest_left first all seats xs ys x at s inv.left c.in-Some.ensures.items last inv.rest within c.index-seats-len.is new;
      done = on_ok c.loop-hand_seat.added (one_given first all seats xs ys x at s inv.left c.in-Some.ensures.items last inv.rest within c.index-seats-len.is new
          made) inv.done;
    }
