use Rattle.std.proofs.Common.{◌≡◌, ◌<◌, ℕ, false, None, Some, [], All, List, length, map, refl, sym, ap, ◌∙◌, subst}
use Rattle.std.specs.Prelude.{slice_get}
use Rattle.std.proofs.lemmas.List.{length-map}
use Rattle.rw_world.specs.declared.opening.Spec.{Spec}
use Rattle.rw_world.specs.declared.channels.Chan.{Chan}
use Rattle.rw_world.specs.Openings.{has_bad_capacity, opened_channel, refusal}
use Rattle.rw_seat.specs.HandOffs.{HandOff, Home}
use Rattle.rw_seat.specs.DeskSeats.{DeskSeat, fresh_seat}
use Rattle.rw_seat.specs.SeatDesks.{SeatDesk, opening_at}
use Rattle.rw_seat.proofs.Giving.{AreFresh, fresh_of, written}
use Rattle.rw_seat.proofs.opening.open_all.Goals as goal

pub open_hand_offs-requires-clause-all : goal.open_hand_offs-requires-clause-all
open_hand_offs-requires-clause-all g c = ap length c.deref_mut.ensures.value ∙ c.in_ok-seats.ensures.0

pub open_hand_offs-requires-clause-fresh : goal.open_hand_offs-requires-clause-fresh
open_hand_offs-requires-clause-fresh g c =
    subst (λ (ss : List (DeskSeat g.row.V.Denot)). (a : ℕ) → a < c.args.actors → slice_get ss a ≡ Some (fresh_seat [] a)) (sym c.deref_mut.ensures.value)
    c.in_ok-seats.ensures.1

pub invariant_of-desk : goal.invariant_of-desk
invariant_of-desk g c =
    let V : Type 0 = g.row.V.Denot in
    let specs = c.args.specs.now in
    let hand_offs : List (HandOff (Chan V)) = c.in-Ok.hand_offs.items in
    let many : length hand_offs ≡ length specs =
    sym (length-map hand_offs (λ (h : HandOff (Chan V)). opening_at h.home))
    ∙ (ap length c.in-Ok.ensures.opened ∙ length-map specs (λ (s : Spec V). Some (opened_channel s))) in record {
      opens = subst (λ ss. refusal ss ≡ None) (sym c.in-Ok-from_slice.ensures.items) c.requires.opens;
      good = subst (All (λ (s : Spec V). has_bad_capacity s ≡ false)) (sym c.in-Ok-from_slice.ensures.items) c.requires.good;
      some_actor = c.requires.some;
      few_actors = c.requires.few;
      one_each = many ∙ ap length (sym c.in-Ok-from_slice.ensures.items);
      opened = c.in-Ok.ensures.opened ∙ ap (map (λ (s : Spec V). Some (opened_channel s))) (sym c.in-Ok-from_slice.ensures.items);
    }

pub returns : goal.returns
returns g c =
    let V : Type 0 = g.row.V.Denot in
    let n = c.args.actors in
    let homes : List (Home (Chan V)) = map (λ (h : HandOff (Chan V)). h.home) c.in-Ok.hand_offs.items in
    let desk : SeatDesk V = record { specs = c.in-Ok-from_slice.specs.items; actors = n; homes = homes } in
    let xs = c.in_ok-seats.seats.items in
    let new = c.open_hand_offs.new.seats in
    let same : length new ≡ length xs = c.open_hand_offs.ensures.length ∙ ap length c.deref_mut.ensures.value in
    let fresh : AreFresh homes n new = (same ∙ c.in_ok-seats.ensures.0, c.in-Ok.ensures.seats) in
    let seats : AreFresh homes n _ = subst (AreFresh homes n) (sym (written new xs c.in_ok-seats.seats.len same c.in_ok-seats.seats.ok.0)) fresh in
    record { specs_are = c.in-Ok-from_slice.ensures.items; actors_are = refl; seats_are = seats; of_desk = fresh_of desk n _ seats }
