-- A `HandSeat` that is removed from a seat and inserted again.
use Rattle.std.proofs.Common.{◌≡◌, ◌≢◌, ℕ, zero, suc, ◌<◌, List, [], ◌∷◌, ◌++◌, map, length, get_or, set, All, refl, sym, ap, ◌∙◌, subst, inl, inr, arith}
use Rattle.std.specs.List.{insert, remove}
use Rattle.std.proofs.lemmas.List.{map-set, get_or-set_same, get_or-set_other, get_or-map, length-map}
use Rattle.std.proofs.lemmas.List.Elements.{All-push, All-set}
use Rattle.std.proofs.lemmas.Bool.Decides.{eqb_tells}
use Rattle.std.proofs.Math.Seq.{map-set_same}
use Rattle.rw_world.specs.declared.channels.ChanCall.{ChanCall}
use Rattle.rw_world.specs.Specified.{ChanEntry}
use Rattle.rw_desk.specs.declared.kept.Kept.{Kept}
use Rattle.rw_desk.specs.Passes.{Pass}
use Rattle.rw_seat.specs.declared.answered.Answered.{Answered}
use Rattle.rw_seat.specs.Fronts.{author_of, EndsWithCall, HasGoneOn, kept_on, own_on}
use Rattle.rw_seat.specs.Calls.{IsMade}
use Rattle.rw_seat.specs.DeskSeats.{ChannelSeat, front_at, IsDeskSeat, HasCalled, HasSeen, IsElsewhereAsBefore}
use Rattle.rw_seat.proofs.Journals.{quiet_self}
use Rattle.rw_seat.proofs.Owning.{own_still, own_called, kept_here, kept_there}

-- removing an element and inserting another at its index sets it
pub put_again : {X : Type 0} (xs : List X) (i : ℕ) (y : X) → i < length xs → insert (remove xs i) i y ≡ set xs i y
put_again [] i y within = absurd (omega arith)
put_again (x ∷ xs) zero y within = refl
put_again (x ∷ xs) (suc i) y within = ap (λ ys. x ∷ ys) (put_again xs i y (omega arith))

module _ {V : Type 0} where
  front_grown : (hand_seats : List (ChannelSeat V)) (h : ChannelSeat V) (c : ℕ) → h.front ≡ [] → front_at (hand_seats ++ h ∷ []) c ≡ front_at hand_seats c
  front_grown [] h zero none = none
  front_grown [] h (suc c) none = refl
  front_grown (x ∷ hand_seats) h zero none = refl
  front_grown (x ∷ hand_seats) h (suc c) none = front_grown hand_seats h c none

  -- the invariant of a seat holds with one more `HandSeat` that has seen nothing
  pub seat_with_hand_seat : (pass : Pass V) (hand_seats : List (ChannelSeat V)) (h : ChannelSeat V) → IsDeskSeat pass hand_seats → h.number ≡ pass.actor
      → h.front ≡ [] → IsDeskSeat pass (hand_seats ++ h ∷ [])
  seat_with_hand_seat pass hand_seats h seat number none = record {
    numbers = All-push (λ (x : ChannelSeat V). x.number ≡ pass.actor) hand_seats h seat.numbers number;
    own = λ c. ap (own_on pass.actor c) (front_grown hand_seats h c none) ∙ seat.own c;
  }

module _ {V : Type 0} (hand_seats : List (ChannelSeat V)) (at : ℕ) (hand_seat h : ChannelSeat V) (within : at < length hand_seats)
    (is : hand_seat ≡ get_or hand_seats at hand_seat) where
  abbrev after : List (ChannelSeat V)
  after = insert (remove hand_seats at) at h

  after_is : after ≡ set hand_seats at h
  after_is = put_again hand_seats at h within

  pub front_was : front_at hand_seats at ≡ hand_seat.front
  front_was = get_or-map (λ (x : ChannelSeat V). x.front) hand_seats at hand_seat [] within ∙ ap (λ (x : ChannelSeat V). x.front) (sym is)

  pub front_here : front_at after at ≡ h.front
  front_here =
      ap (λ (xs : List (ChannelSeat V)). front_at xs at) after_is
      ∙ (ap (λ (fs : List (List (ChanEntry V))). get_or fs at []) (map-set (λ (x : ChannelSeat V). x.front) hand_seats at h)
      ∙ get_or-set_same (map (λ (x : ChannelSeat V). x.front) hand_seats) at h.front [] (omega (arith, length-map hand_seats (λ (x : ChannelSeat V). x.front))))

  pub front_there : (c : ℕ) → c ≢ at → front_at after c ≡ front_at hand_seats c
  front_there c other =
      ap (λ (xs : List (ChannelSeat V)). front_at xs c) after_is
      ∙ (ap (λ (fs : List (List (ChanEntry V))). get_or fs c []) (map-set (λ (x : ChannelSeat V). x.front) hand_seats at h)
      ∙ get_or-set_other (map (λ (x : ChannelSeat V). x.front) hand_seats) at c h.front [] other)

  pub homes_still : h.home ≡ hand_seat.home → map (λ (x : ChannelSeat V). x.home) after ≡ map (λ (x : ChannelSeat V). x.home) hand_seats
  homes_still home = ap (map (λ (x : ChannelSeat V). x.home)) after_is
      ∙ map-set_same (λ (x : ChannelSeat V). x.home) hand_seats at h hand_seat (home ∙ ap (λ (x : ChannelSeat V). x.home) is)

  numbers_still : (actor : ℕ) → All (λ (x : ChannelSeat V). x.number ≡ actor) hand_seats → h.number ≡ actor
      → All (λ (x : ChannelSeat V). x.number ≡ actor) after
  numbers_still actor all new = subst (All (λ (x : ChannelSeat V). x.number ≡ actor)) (sym after_is)
      (All-set (λ (x : ChannelSeat V). x.number ≡ actor) hand_seats at h new all)

  -- a fact of each front: of the new one, and of the others
  pub each_front : (P : ℕ → List (ChanEntry V) → Type 0) → P at h.front → ((c : ℕ) → c ≢ at → P c (front_at hand_seats c)) → (c : ℕ) → P c (front_at after c)
  each_front P here there c = elim (eqb_tells c at) [
    | inl t ↦ subst (λ (k : ℕ). P k (front_at after k)) (sym t.1) (subst (P at) (sym front_here) here)
    | inr t ↦ subst (P c) (sym (front_there c t.1)) (there c t.1)
  ]

  -- the invariant of a seat holds after a `HandSeat` has seen more
  pub seat_looked : (pass : Pass V) → IsDeskSeat pass hand_seats → h.number ≡ hand_seat.number → HasGoneOn pass.actor hand_seat.front h.front
      → IsDeskSeat pass after
  seat_looked pass seat number on =
      let mine : hand_seat.number ≡ pass.actor = subst (λ (x : ChannelSeat V). x.number ≡ pass.actor) (sym is) (seat.numbers at hand_seat within) in record {
        numbers = numbers_still pass.actor seat.numbers (number ∙ mine);
        own = each_front (λ c es. own_on pass.actor c es ≡ kept_on c pass.kept)
            (own_still pass.actor at hand_seat.front h.front on ∙ (ap (own_on pass.actor at) (sym front_was) ∙ seat.own at))
            (λ c other. seat.own c);
      }

  -- and the seat has seen more
  pub has_seen : (pass new : Pass V) → new ≡ pass → HasGoneOn pass.actor hand_seat.front h.front
      → HasSeen (record { pass = pass; hand_seats = hand_seats }) (record { pass = new; hand_seats = after })
  has_seen pass new same on = record {
    pass = same;
    fronts = each_front (λ c es. HasGoneOn pass.actor (front_at hand_seats c) es)
        (subst (λ (es : List (ChanEntry V)). HasGoneOn pass.actor es h.front) (sym front_was) on)
        (λ c other. quiet_self author_of (pass.actor ∷ []) (front_at hand_seats c));
  }

  -- the invariant holds after a `HandSeat` has made a call
  pub seat_called : (old new : Pass V) (call : ChanCall V) (a : Answered V) → IsDeskSeat old hand_seats → h.number ≡ hand_seat.number
      → IsMade old new hand_seat.front h.front at call a → IsDeskSeat new after
  seat_called old new call a seat number made =
      let mine : hand_seat.number ≡ old.actor = subst (λ (x : ChannelSeat V). x.number ≡ old.actor) (sym is) (seat.numbers at hand_seat within) in
      let actor : new.actor ≡ old.actor = ap (λ (p : Pass V). p.actor) made.pass in
      let k : Kept V = record { channel = at; stamp = a.stamp; call = call; reply = a.reply } in
      let kept : new.kept ≡ old.kept ++ k ∷ [] = ap (λ (p : Pass V). p.kept) made.pass in
      let own : (c : ℕ) → own_on old.actor c (front_at after c) ≡ kept_on c (old.kept ++ k ∷ []) =
      each_front (λ c es. own_on old.actor c es ≡ kept_on c (old.kept ++ k ∷ []))
      (own_called old.actor at call a hand_seat.front h.front made.front
      ∙ (ap (λ (ks : List (Kept V)). ks ++ k ∷ []) (ap (own_on old.actor at) (sym front_was) ∙ seat.own at) ∙ sym (kept_here at old.kept k refl)))
      (λ c other. seat.own c ∙ sym (kept_there c old.kept k (λ same. other (sym same)))) in record {
        numbers = subst (λ (n : ℕ). All (λ (x : ChannelSeat V). x.number ≡ n) after) (sym actor) (numbers_still old.actor seat.numbers (number ∙ mine));
        own = λ c. ap (λ (n : ℕ). own_on n c (front_at after c)) actor ∙ (own c ∙ ap (kept_on c) (sym kept));
      }

  pub has_called : (old new : Pass V) (call : ChanCall V) (a : Answered V) → IsDeskSeat new after → IsMade old new hand_seat.front h.front at call a
      → HasCalled (record { pass = old; hand_seats = hand_seats }) (record { pass = new; hand_seats = after }) at call a
  has_called old new call a seat made = record {
    front = subst (λ (z : List (ChanEntry V) × List (ChanEntry V)). EndsWithCall old.actor call a z.0 z.1) (λ i. (sym front_was i, sym front_here i))
        made.front;
    above = made.above;
    pass = made.pass;
    own = seat.own;
  }

  pub elsewhere : (old new : Pass V) → IsElsewhereAsBefore at (record { pass = old; hand_seats = hand_seats }) (record { pass = new; hand_seats = after })
  elsewhere old new = front_there
