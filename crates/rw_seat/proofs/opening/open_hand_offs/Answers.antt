use Rattle.std.proofs.Common.{◌≡◌, Some, ◌++◌, ◌∷◌, [], List, map, take, sym, ap, ◌∙◌, subst, arith}
use Rattle.std.proofs.lemmas.List.{map-append, take_all}
use Rattle.rw_world.specs.declared.opening.Spec.{Spec}
use Rattle.rw_world.specs.declared.channels.Chan.{Chan}
use Rattle.rw_world.specs.Openings.{has_bad_capacity, opened_channel}
use Rattle.rw_seat.specs.HandOffs.{HandOff, Home}
use Rattle.rw_seat.proofs.Giving.{AreFresh, fresh_more, fresh_passes, opened_more}
use Rattle.rw_seat.proofs.opening.open_hand_offs.Goals as goal

pub open_to_seats-requires-clause-good : goal.open_to_seats-requires-clause-good
open_to_seats-requires-clause-good g c = ap has_bad_capacity c.spec-item.is ∙ c.requires.good c.loop-spec.spec-index c.spec-item.result c.loop-spec-test.true

pub open_to_seats-requires-clause-fresh : goal.open_to_seats-requires-clause-fresh
open_to_seats-requires-clause-fresh g c =
    let homes : List (Home (Chan g.row.V.Denot)) = map (λ h. h.home) c.loop-spec.hand_offs.items in
    fresh_passes homes c.args.actors c.loop-spec.seats c.loop-spec.invariant.seats

pub loop-spec-preserved : goal.loop-spec-preserved
loop-spec-preserved g c =
    let V : Type 0 = g.row.V.Denot in
    let inv = c.loop-spec.invariant in
    let given = c.in_default.ensures.opened in
    let hand_off : HandOff (Chan V) = given.0 in
    let old : List (HandOff (Chan V)) = c.loop-spec.hand_offs.items in
    let all : List (HandOff (Chan V)) = c.open_to_seats.new.hand_offs.items in
    let homes : List (Home (Chan V)) = map (λ h. h.home) old in
    let new = c.open_to_seats.new.seats in
    let after : AreFresh (homes ++ hand_off.home ∷ []) c.args.actors new =
    fresh_more homes hand_off.home c.args.actors c.loop-spec.seats new inv.seats c.open_to_seats.ensures.length given.3 in
    let more : map (λ (h : HandOff (Chan V)). h.home) all ≡ homes ++ hand_off.home ∷ [] =
    ap (map (λ (h : HandOff (Chan V)). h.home)) given.1 ∙ map-append (λ (h : HandOff (Chan V)). h.home) old (hand_off ∷ []) in record {
      as_many = omega (arith, c.in_default.ensures.len, inv.as_many);
      room = omega (arith, c.open_to_seats.ensures.capacity, inv.room);
      opened = opened_more c.args.specs.now old all hand_off c.spec-item.result c.loop-spec.spec-index c.loop-spec-test.true c.spec-item.is given.1 inv.opened
          given.2;
      seats = subst (λ (hs : List (Home (Chan V))). AreFresh hs c.args.actors new) (sym more) after;
    }

pub returns-clause-opened : goal.returns-clause-opened
returns-clause-opened g c =
    let all : take c.loop-spec.spec-index c.args.specs.now ≡ c.args.specs.now = take_all c.loop-spec.spec-index c.args.specs.now (omega arith) in
    c.loop-spec.invariant.opened ∙ ap (map (λ (s : Spec g.row.V.Denot). Some (opened_channel s))) all
