-- `HandSeat`s that are added to seats one after another, and a desk that is opened channel by channel.
use Rattle.std.proofs.Common.{◌≡◌, ◌≢◌, ℕ, zero, suc, ◌+◌, ◌<◌, ◌≤◌, List, [], ◌∷◌, ◌++◌, map, length, get_or, set, take, drop, All, Some, Result}
use Rattle.std.proofs.Common.{Ok, Err, IfSome, OnOk, refl, sym, ap, ◌∙◌, subst, inl, inr, arith, append_assoc, append-nil}
use Rattle.std.specs.Prelude.{slice_get}
use Rattle.std.proofs.lemmas.Bool.{cases_lt}
use Rattle.std.proofs.lemmas.Bool.Decides.{eqb_tells}
use Rattle.std.proofs.lemmas.List.{drop_all, length-append, map-append, take_all, take_more}
use Rattle.std.proofs.lemmas.Option.{get_or_from_slice_get, slice_get_past, slice_get_read}
use Rattle.rw_desk.specs.Passes.{fresh_pass}
use Rattle.rw_world.specs.declared.opening.Spec.{Spec}
use Rattle.rw_world.specs.declared.channels.Chan.{Chan}
use Rattle.rw_world.specs.Openings.{opened_channel}
use Rattle.rw_seat.specs.HandOffs.{Home, HandOff}
use Rattle.rw_seat.specs.Journals.{StartsWith}
use Rattle.rw_seat.specs.Rule.{numbers_from}
use Rattle.rw_seat.specs.Fronts.{IsFrontOf}
use Rattle.rw_seat.specs.DeskSeats.{DeskSeat, ChannelSeat, fresh_hand_seat, fresh_seat, front_at, with_hand_seat}
use Rattle.rw_seat.specs.SeatDesks.{SeatDesk, IsSeatOf, opening_at}

get_middle : {X : Type 0} (xs : List X) (x : X) (rest : List X) (i : ℕ) → i ≡ length xs → slice_get ((xs ++ x ∷ []) ++ rest) i ≡ Some x
get_middle [] x rest zero at = refl
get_middle [] x rest (suc i) at = absurd (omega arith)
get_middle (y ∷ xs) x rest zero at = absurd (omega arith)
get_middle (y ∷ xs) x rest (suc i) at = get_middle xs x rest i (omega arith)

get_set_here : {X : Type 0} (xs : List X) (i : ℕ) (x : X) → i < length xs → slice_get (set xs i x) i ≡ Some x
get_set_here [] i x within = absurd (omega arith)
get_set_here (y ∷ xs) zero x within = refl
get_set_here (y ∷ xs) (suc i) x within = get_set_here xs i x (omega arith)

get_set_there : {X : Type 0} (xs : List X) (i j : ℕ) (x : X) → j ≢ i → slice_get (set xs i x) j ≡ slice_get xs j
get_set_there [] i j x other = refl
get_set_there (y ∷ xs) zero zero x other = absurd (other refl)
get_set_there (y ∷ xs) zero (suc j) x other = refl
get_set_there (y ∷ xs) (suc i) zero x other = refl
get_set_there (y ∷ xs) (suc i) (suc j) x other = get_set_there xs i j x (λ same. other (ap suc same))

module _ {V : Type 0} (first : List (DeskSeat V)) (all : List (ChannelSeat V)) where
  abbrev pub IsGivenOut : List (DeskSeat V) → ℕ → Type 0
  IsGivenOut seats n = (a : ℕ) (s : DeskSeat V) (h : ChannelSeat V) → n ≤ a → slice_get first a ≡ Some s → slice_get all a ≡ Some h
      → slice_get seats a ≡ Some (with_hand_seat s h)

  module _ (seats : List (DeskSeat V)) (xs ys : List (ChannelSeat V)) (x : ChannelSeat V) (at : ℕ) (s : DeskSeat V) (left : StartsWith all xs)
      (is : xs ≡ ys ++ x ∷ []) (last : at ≡ length ys)
      (rest : (a : ℕ) → a < length xs → slice_get seats a ≡ slice_get first a) (within : at < length seats) (here : s ≡ get_or seats at s) where
    longer : length xs ≡ length ys + 1
    longer = omega (arith, ap length is, length-append ys (x ∷ []))

    hand_seat_there : slice_get all at ≡ Some x
    hand_seat_there = ap (λ hs. slice_get hs at) (left.1 ∙ ap (λ hs. hs ++ left.0) is) ∙ get_middle ys x left.0 at last

    seat_there : slice_get first at ≡ Some s
    seat_there = sym (rest at (omega (arith, longer, last))) ∙ slice_get_read seats (length seats) at s refl within here

    -- the `HandSeat` that is added has seen nothing, and the seat has made no call
    pub fresh_there : ((a : ℕ) → IfSome (slice_get first a) (λ t. t.pass ≡ fresh_pass a))
        → ((a : ℕ) → IfSome (slice_get all a) (λ h. (h.number ≡ a) × (h.front ≡ []))) → (s.pass ≡ fresh_pass x.number) × (x.front ≡ [])
    fresh_there passes hand_seats =
        let hand_seat = subst (λ o. IfSome o (λ h. (h.number ≡ at) × (h.front ≡ []))) hand_seat_there (hand_seats at) in
        let pass = subst (λ o. IfSome o (λ t. t.pass ≡ fresh_pass at)) seat_there (passes at) in
        (pass ∙ ap fresh_pass (sym hand_seat.0), hand_seat.1)

    pub one_left : StartsWith all ys
    one_left = (x ∷ left.0, left.1 ∙ (ap (λ hs. hs ++ left.0) is ∙ append_assoc ys (x ∷ []) left.0))

    pub rest_left : (new : DeskSeat V) (a : ℕ) → a < length ys → slice_get (set seats at new) a ≡ slice_get first a
    rest_left new a low = get_set_there seats at a new (λ same. absurd (omega arith)) ∙ rest a (omega (arith, longer))

    pub one_given : (new : DeskSeat V) → new ≡ with_hand_seat s x → IsGivenOut seats (length xs) → IsGivenOut (set seats at new) (length ys)
    one_given new made given a t h past seat hand_seat = elim (eqb_tells a at) [
      | inl e ↦
          let same_seat : Some t ≡ Some s = sym seat ∙ (ap (slice_get first) (e.1) ∙ seat_there) in
          let same_hand_seat : Some h ≡ Some x = sym hand_seat ∙ (ap (slice_get all) (e.1) ∙ hand_seat_there) in
          let ts : s ≡ t = cc in
          let hx : x ≡ h = cc in
          ap (slice_get (set seats at new)) (e.1) ∙ (get_set_here seats at new within
          ∙ ap (λ (z : DeskSeat V). Some z) (made ∙ (λ i. with_hand_seat (ts i) (hx i))))
      | inr e ↦ get_set_there seats at a new (e.1) ∙ given a t h (beyond a past e.1) seat hand_seat
    ]
      where
        beyond : (a : ℕ) → length ys ≤ a → a ≢ at → length xs ≤ a
        beyond a past other = let k = longer in let differs : a ≢ length ys = (λ same. other (same ∙ sym last)) in omega arith

-- if P implies Q, P at an `Ok` implies Q at it
pub on_ok : {A E P Q : Type 0} (r : Result A E) → (P → Q) → OnOk r P → OnOk r Q
on_ok (Ok a) f p = f p
on_ok (Err e) f p = tt

-- a slice that was written back whole
pub written : {X : Type 0} (new xs : List X) (n : ℕ) → length new ≡ length xs → n ≡ length xs → take n (new ++ drop (length new) xs) ≡ new
written new xs n same all =
    let rest : drop (length new) xs ≡ [] = drop_all (length new) xs (omega (arith, same)) in
    rw (rest, append-nil new) (take_all n new (omega (arith, same, all)))

module _ {X : Type 0} (f : ℕ → X) where
  pub numbers_length : (m k : ℕ) → length (map f (numbers_from m k)) ≡ k
  numbers_length m zero = refl
  numbers_length m (suc k) = ap suc (numbers_length (m + 1) k)

  numbers_get : (m k a : ℕ) → a < k → slice_get (map f (numbers_from m k)) a ≡ Some (f (m + a))
  numbers_get m zero a low = absurd (omega arith)
  numbers_get m (suc k) zero low = ap (λ n. Some (f n)) {x = m} {y = m + 0} (omega arith)
  numbers_get m (suc k) (suc a) low = numbers_get (m + 1) k a (omega arith) ∙ ap (λ n. Some (f n)) {x = (m + 1) + a} {y = m + suc a} (omega arith)

  -- the `HandSeat` of each number
  pub mapped_at : (n a : ℕ) → a < n → slice_get (map f (numbers_from 0 n)) a ≡ Some (f a)
  mapped_at n a low = numbers_get 0 n a low ∙ ap (λ k. Some (f k)) {x = 0 + a} {y = a} (omega arith)

module _ {V : Type 0} where
  -- n seats that made no call and saw nothing, with a `HandSeat` for each of these homes
  abbrev pub AreFresh : List (Home (Chan V)) → ℕ → List (DeskSeat V) → Type 0
  AreFresh homes n seats = (length seats ≡ n) × ((a : ℕ) → a < n → slice_get seats a ≡ Some (fresh_seat homes a))

  pub fresh_passes : (homes : List (Home (Chan V))) (n : ℕ) (seats : List (DeskSeat V)) → AreFresh homes n seats → (a : ℕ)
      → IfSome (slice_get seats a) (λ s. s.pass ≡ fresh_pass a)
  fresh_passes homes n seats fresh a = elim (cases_lt a n) [
    | inl lt ↦ subst (λ o. IfSome o (λ s. s.pass ≡ fresh_pass a)) (sym (fresh.1 a lt)) refl
    | inr le ↦ subst (λ o. IfSome o (λ s. s.pass ≡ fresh_pass a)) (sym (slice_get_past seats a (omega (arith, fresh.0)))) tt
  ]

  pub fresh_hand_seats : (home : Home (Chan V)) (n : ℕ) (hand_seats : List (ChannelSeat V)) → hand_seats ≡ map (λ k. fresh_hand_seat k home) (numbers_from 0 n)
      → (a : ℕ) → IfSome (slice_get hand_seats a) (λ h. (h.number ≡ a) × (h.front ≡ []))
  fresh_hand_seats home n hand_seats is a = rw is (elim (cases_lt a n) [
    | inl lt ↦ subst (λ o. IfSome o (λ h. (h.number ≡ a) × (h.front ≡ []))) (sym (mapped_at (λ k. fresh_hand_seat k home) n a lt)) (refl, refl)
    | inr le ↦ subst (λ o. IfSome o (λ h. (h.number ≡ a) × (h.front ≡ [])))
        (sym (slice_get_past (map (λ k. fresh_hand_seat k home) (numbers_from 0 n)) a (omega (arith, numbers_length (λ k. fresh_hand_seat k home) 0 n)))) tt
  ])

  -- each seat got the `HandSeat` with its number
  pub given_each : (home : Home (Chan V)) (n : ℕ) (seats new : List (DeskSeat V)) (hand_seats : List (ChannelSeat V))
      → hand_seats ≡ map (λ k. fresh_hand_seat k home) (numbers_from 0 n)
      → ((a : ℕ) (s : DeskSeat V) (h : ChannelSeat V) → slice_get seats a ≡ Some s → slice_get hand_seats a ≡ Some h
      → slice_get new a ≡ Some (with_hand_seat s h))
      → (a : ℕ) (s : DeskSeat V) → a < n → slice_get seats a ≡ Some s → slice_get new a ≡ Some (with_hand_seat s (fresh_hand_seat a home))
  given_each home n seats new hand_seats is each a s low at =
      each a s (fresh_hand_seat a home) at (ap (λ hs. slice_get hs a) is ∙ mapped_at (λ k. fresh_hand_seat k home) n a low)

  -- so each is a seat with one more `HandSeat`
  pub fresh_more : (homes : List (Home (Chan V))) (home : Home (Chan V)) (n : ℕ) (seats new : List (DeskSeat V)) → AreFresh homes n seats
      → length new ≡ length seats
      → ((a : ℕ) (s : DeskSeat V) → a < n → slice_get seats a ≡ Some s → slice_get new a ≡ Some (with_hand_seat s (fresh_hand_seat a home)))
      → AreFresh (homes ++ home ∷ []) n new
  fresh_more homes home n seats new fresh same each = (
    same ∙ fresh.0,
    λ a low. each a (fresh_seat homes a) low (fresh.1 a low)
        ∙ ap (λ hs. Some (record { pass = fresh_pass a; hand_seats = hs })) (sym (map-append (fresh_hand_seat a) homes (home ∷ []))),
  )

  fresh_homes : (actor : ℕ) (homes : List (Home (Chan V))) → map (λ (h : ChannelSeat V). h.home) (map (fresh_hand_seat actor) homes) ≡ homes
  fresh_homes actor [] = refl
  fresh_homes actor (h ∷ homes) = ap (λ hs. h ∷ hs) (fresh_homes actor homes)

  fresh_front : (actor : ℕ) (homes : List (Home (Chan V))) (c : ℕ) → front_at (map (fresh_hand_seat actor) homes) c ≡ []
  fresh_front actor [] c = refl
  fresh_front actor (h ∷ homes) zero = refl
  fresh_front actor (h ∷ homes) (suc c) = fresh_front actor homes c

  no_entries : (specs : List (Spec V)) (c : ℕ) → IsFrontOf specs c []
  no_entries [] c = refl
  no_entries (spec ∷ specs) zero = record { legal = tt; ordered = tt; short = omega arith }
  no_entries (spec ∷ specs) (suc c) = no_entries specs c

  -- a fresh seat is one of the desk
  pub fresh_of : (desk : SeatDesk V) (n : ℕ) (seats : List (DeskSeat V)) → AreFresh desk.homes n seats → All (IsSeatOf desk) seats
  fresh_of desk n seats fresh = λ a d low.
      let there : get_or seats a d ≡ fresh_seat desk.homes a =
      get_or_from_slice_get seats a (fresh_seat desk.homes a) d (fresh.1 a (omega (arith, fresh.0, low))) in
      subst (IsSeatOf desk) (sym there) (record {
        homes = fresh_homes a desk.homes;
        fronts = λ c. subst (IsFrontOf desk.specs c) (sym (fresh_front a desk.homes c)) (no_entries desk.specs c);
      })

  -- the next spec's channel is opened
  pub opened_more : (specs : List (Spec V)) (hand_offs more : List (HandOff (Chan V))) (h : HandOff (Chan V)) (spec : Spec V) (i : ℕ) → i < length specs
      → spec ≡ get_or specs i spec → more ≡ hand_offs ++ h ∷ []
      → map (λ (x : HandOff (Chan V)). opening_at x.home) hand_offs ≡ map (λ s. Some (opened_channel s)) (take i specs)
      → opening_at h.home ≡ Some (opened_channel spec)
      → map (λ (x : HandOff (Chan V)). opening_at x.home) more ≡ map (λ s. Some (opened_channel s)) (take (i + 1) specs)
  opened_more specs hand_offs more h spec i within at is so_far new =
      let next : get_or specs i spec ≡ spec = sym at in
      ap (map (λ (x : HandOff (Chan V)). opening_at x.home)) is
      ∙ (map-append (λ (x : HandOff (Chan V)). opening_at x.home) hand_offs (h ∷ [])
      ∙ ((λ j. so_far j ++ new j ∷ [])
      ∙ (sym (map-append (λ (s : Spec V). Some (opened_channel s)) (take i specs) (spec ∷ []))
      ∙ ap (map (λ (s : Spec V). Some (opened_channel s))) (sym (take_more specs i spec within ∙ ap (λ s. take i specs ++ s ∷ []) next)))))
