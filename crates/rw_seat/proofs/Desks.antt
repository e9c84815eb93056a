-- Seats of a desk, after a call or a read on one of its channels.
use Rattle.std.proofs.Common.{◌≡◌, ℕ, zero, suc, ◌<◌, ◌≤◌, true, false, true≢false, List, [], ◌∷◌, ◌++◌, map, length, get_or, Option, Some}
use Rattle.std.proofs.Common.{None, Result, Ok, Err, IfOk, IfErr, IfSome, MatchOption, refl, sym, ap, ◌∙◌, subst, arith}
use Rattle.std.specs.List.{insert, remove}
use Rattle.std.specs.Prelude.{slice_get, IsTrue}
use Rattle.std.specs.Option.{option_map, option_map_or}
use Rattle.std.proofs.lemmas.List.{get_or-map, length-append, length-map}
use Rattle.std.proofs.lemmas.Option.{get_or_from_slice_get, slice_get-map, slice_get_past, slice_get_read, slice_get_within}
use Rattle.rw_law.specs.Journal.{IsLegal, after_all}
use Rattle.rw_world.specs.declared.opening.Spec.{Spec}
use Rattle.rw_world.specs.declared.opening.Spec.TheVariants.{Broadcast, Watch}
use Rattle.rw_world.specs.declared.channels.Chan.{Chan}
use Rattle.rw_world.specs.declared.channels.ChanCall.{ChanCall}
use Rattle.rw_world.specs.Channel.{strays_at}
use Rattle.rw_world.specs.ChannelLaws.{kind_stays, strays_by_kind}
use Rattle.rw_world.specs.Kinds.{channel_kind}
use Rattle.rw_world.specs.Machines.{ChanShown, of_broadcast, of_chan, of_watch}
use Rattle.rw_world.specs.Openings.{spec_kind, opened_channel}
use Rattle.rw_world.specs.Shapes.{stray_of}
use Rattle.rw_world.specs.Specified.{ChanEntry}
use Rattle.rw_journal.specs.Book.{IsBook, RisesFrom}
use Rattle.rw_desk.specs.declared.faults.DeskFault.{DeskFault}
use Rattle.rw_desk.specs.declared.faults.DeskFault.TheVariants.{NoChannel}
use Rattle.rw_desk.specs.Desks.{row_call}
use Rattle.rw_desk.specs.Passes.{Pass}
use Rattle.rw_seat.specs.declared.answered.Answered.{Answered}
use Rattle.rw_seat.specs.HandOffs.{Home, HandOff}
use Rattle.rw_seat.specs.Journals.{StartsWith}
use Rattle.rw_seat.proofs.Journals.{quiet_self}
use Rattle.rw_seat.specs.Fronts.{author_of, HasGoneOn, IsFaultAfter, IsFrontOf}
use Rattle.rw_seat.specs.Calls.{IsMade, IsNotMade, OfOpening}
use Rattle.rw_seat.specs.DeskSeats.{ChannelSeat, DeskSeat, front_at, IsDeskSeat, IsElsewhereAsBefore, HasSeen}
use Rattle.rw_seat.specs.SeatDesks.{SeatDesk, IsAnswered, IsSeatOf, opening_at}
use Rattle.rw_seat.proofs.Reaching.{each_front, elsewhere, front_here, has_called, has_seen, homes_still, seat_called, seat_looked}

module _ {V : Type 0} where
  -- what holds of a book's opening holds of what the book first showed
  pub of_opening : (P : ChanShown V → Type 0) (home : Home (Chan V)) (x : ChanShown V) → OfOpening home P → opening_at home ≡ Some x → P x
  of_opening P home x holds from = go home.start holds from
    where
      go : (o : Option (Chan V)) → IfSome o (λ channel. P ((of_chan {V = V}).shown channel)) → option_map (of_chan {V = V}).shown o ≡ Some x → P x
      go None holds from = absurd (cc)
      go (Some m) holds from = let same : (of_chan {V = V}).shown m ≡ x = cc in subst P same holds

  -- a seat of the desk is still one after its `HandSeat` at a channel was replaced, with a front of that channel
  pub still_of : (desk : SeatDesk V) (pass new : Pass V) (hand_seats : List (ChannelSeat V)) (at : ℕ) (hand_seat h : ChannelSeat V) → at < length hand_seats
      → hand_seat ≡ get_or hand_seats at hand_seat → h.home ≡ hand_seat.home
      → IsFrontOf desk.specs at h.front → IsSeatOf desk (record { pass = pass; hand_seats = hand_seats })
      → IsSeatOf desk (record { pass = new; hand_seats = insert (remove hand_seats at) at h })
  still_of desk pass new hand_seats at hand_seat h within is home front seat = record {
    homes = homes_still hand_seats at hand_seat h within is home ∙ seat.homes;
    fronts = each_front hand_seats at hand_seat h within is (λ c es. IsFrontOf desk.specs c es) front (λ c other. seat.fronts c);
  }

  -- the journal of a book from a spec's opening is a front of the spec's channel
  pub front_of_spec : (specs : List (Spec V)) (c : ℕ) (spec : Spec V) (home : Home (Chan V)) (es : List (ChanEntry V)) → slice_get specs c ≡ Some spec
      → opening_at home ≡ Some (opened_channel spec)
      → OfOpening home (λ x. IsBook of_chan x es) → IsFrontOf specs c es
  front_of_spec specs c spec home es at from book =
      subst (λ o. MatchOption o (es ≡ []) (λ s. IsBook of_chan (opened_channel s) es)) (sym at)
      (of_opening (λ x. IsBook of_chan x es) home (opened_channel spec) book from)

  -- each hand-off has its spec
  pub spec_of : (specs : List (Spec V)) (hand_offs : List (HandOff (Chan V))) (c : ℕ) (h : HandOff (Chan V))
      → map (λ (x : HandOff (Chan V)). opening_at x.home) hand_offs ≡ map (λ spec. Some (opened_channel spec)) specs
      → slice_get hand_offs c ≡ Some h → (spec : Spec V) × (slice_get specs c ≡ Some spec) × (opening_at h.home ≡ Some (opened_channel spec))
  spec_of specs [] c h opened at = absurd (cc)
  spec_of [] (x ∷ xs) c h opened at = absurd (cc)
  spec_of (s ∷ specs) (x ∷ xs) zero h opened at =
      let same : x ≡ h = cc in
      let first : opening_at x.home ≡ Some (opened_channel s) = cc in
      (s, refl, subst (λ (y : HandOff (Chan V)). opening_at y.home ≡ Some (opened_channel s)) same first)
  spec_of (s ∷ specs) (x ∷ xs) (suc c) h opened at =
      let rest : map (λ (y : HandOff (Chan V)). opening_at y.home) xs ≡ map (λ spec. Some (opened_channel spec)) specs = cc in
      spec_of specs xs c h rest at

  module _ (hand_seats : List (ChannelSeat V)) (homes : List (Home (Chan V))) (at : ℕ) (home : Home (Chan V))
      (same : map (λ (x : ChannelSeat V). x.home) hand_seats ≡ homes) (there : slice_get homes at ≡ Some home) where
    -- a seat of a desk has a `HandSeat` for each of its channels
    pub within_hand_seats : at < length hand_seats
    within_hand_seats =
        let within : at < length homes = slice_get_within homes at home there in
        omega (arith, within, ap length same, length-map hand_seats (λ (x : ChannelSeat V). x.home))

    -- that `HandSeat` is of the channel's hand-off
    pub home_at : (hand_seat : ChannelSeat V) → hand_seat ≡ get_or hand_seats at hand_seat → hand_seat.home ≡ home
    home_at hand_seat is =
        ap (λ (x : ChannelSeat V). x.home) is
        ∙ (sym (get_or-map (λ (x : ChannelSeat V). x.home) hand_seats at hand_seat hand_seat.home within_hand_seats)
        ∙ (ap (λ (hs : List (Home (Chan V))). get_or hs at hand_seat.home) same ∙ get_or_from_slice_get homes at home hand_seat.home there))

  kind_after : (x : ChanShown V) (es : List (ChanEntry V)) → channel_kind (after_all of_chan x es) ≡ channel_kind x
  kind_after x [] = refl
  kind_after x (e ∷ es) = kind_after ((of_chan {V = V}).next x e.call) es ∙ kind_stays of_broadcast of_watch x e.call

  kind_opened : (spec : Spec V) → channel_kind (opened_channel spec) ≡ spec_kind spec
  kind_opened (Broadcast capacity) = refl
  kind_opened (Watch init) = refl

  -- after any front, whether a call strays depends only on the spec
  strays_after : (spec : Spec V) (es : List (ChanEntry V)) (call : ChanCall V)
      → (of_chan {V = V}).is_straying ((of_chan {V = V}).reply_of (after_all of_chan (opened_channel spec) es) call) ≡ strays_at (spec_kind spec) call
  strays_after spec es call =
      strays_by_kind of_broadcast of_watch (after_all of_chan (opened_channel spec) es) call
      ∙ ap (λ k. strays_at k call) (kind_after (opened_channel spec) es ∙ kind_opened spec)

  -- a call of the channel's kind has no such fault
  no_stray : (spec : Spec V) (home : Home (Chan V)) (old new : Pass V) (seen now : List (ChanEntry V)) (call : ChanCall V)
      → opening_at home ≡ Some (opened_channel spec) → strays_at (spec_kind spec) call ≡ false
      → IsNotMade home old new seen now call NoChannel → ⊥
  no_stray spec home old new seen now call from stays refused =
      let strays = of_opening (λ x. IsFaultAfter x now old.clock call NoChannel) home (opened_channel spec) refused.reason from in
      true≢false (sym strays ∙ (strays_after spec now call ∙ stays))

  -- a call that strays is refused, and its seat is unchanged
  pub refused_stray : (specs : List (Spec V)) (seat : DeskSeat V) (at : ℕ) (call : ChanCall V)
      → IsTrue (stray_of strays_at (map spec_kind specs) (row_call at call)) → IsAnswered specs seat seat at call (Err NoChannel)
  refused_stray specs seat at call strays = record {
    made = record {
      seen = record { pass = refl; fronts = λ c. quiet_self author_of (seat.pass.actor ∷ []) (front_at seat.hand_seats c) };
      reason = why (slice_get specs at) (subst (λ o. IsTrue (option_map_or (λ k. strays_at k call) o true)) (slice_get-map spec_kind specs at) strays);
    };
    elsewhere = λ c other. refl;
    no_channel = ((λ no. strays), (λ t. refl));
  }
    where
      why : (o : Option (Spec V)) → IsTrue (option_map_or (λ k. strays_at k call) (option_map spec_kind o) true)
          → MatchOption o (NoChannel ≡ NoChannel) (λ spec. IsFaultAfter (opened_channel spec) (front_at seat.hand_seats at) seat.pass.clock call NoChannel)
      why None t = refl
      why (Some spec) t = strays_after spec (front_at seat.hand_seats at) call ∙ t

  -- a call strays if there is no channel; if there is one, that depends on its kind
  pub strays_past : (specs : List (Spec V)) (at : ℕ) (call : ChanCall V) → length specs ≤ at
      → IsTrue (stray_of strays_at (map spec_kind specs) (row_call at call))
  strays_past specs at call past = let none = slice_get_past specs at past in rw (slice_get-map, none) refl

  pub strays_there : (specs : List (Spec V)) (at : ℕ) (spec : Spec V) (call : ChanCall V) → slice_get specs at ≡ Some spec
      → stray_of strays_at (map spec_kind specs) (row_call at call) ≡ strays_at (spec_kind spec) call
  strays_there specs at spec call there = rw (slice_get-map, there) refl

  -- the spec that was read
  pub spec_there : (specs read : List (Spec V)) (at : ℕ) (spec : Spec V) → read ≡ specs → at < length read → spec ≡ get_or read at spec
      → slice_get specs at ≡ Some spec
  spec_there specs read at spec same within is = subst (λ ss. slice_get ss at ≡ Some spec) same (slice_get_read read (length read) at spec refl within is)

  stays_in : (specs : List (Spec V)) (at : ℕ) (spec : Spec V) (call : ChanCall V) → slice_get specs at ≡ Some spec → strays_at (spec_kind spec) call ≡ false
      → stray_of strays_at (map spec_kind specs) (row_call at call) ≡ false
  stays_in specs at spec call there stays = strays_there specs at spec call there ∙ stays

  legal_begins : (x : ChanShown V) (f rest : List (ChanEntry V)) → IsLegal of_chan x (f ++ rest) → IsLegal of_chan x f
  legal_begins x [] rest legal = tt
  legal_begins x (e ∷ f) rest legal = (legal.0, legal_begins ((of_chan {V = V}).next x e.call) f rest legal.1)

  rises_begins : (s : ℕ) (f rest : List (ChanEntry V)) → RisesFrom s (f ++ rest) → RisesFrom s f
  rises_begins s [] rest rises = tt
  rises_begins s (e ∷ f) rest rises = (rises.0, rises_begins e.stamp f rest rises.1)

  -- a prefix of a front is a front
  pub front_begins : (specs : List (Spec V)) (c : ℕ) (spec : Spec V) (f h : List (ChanEntry V)) → slice_get specs c ≡ Some spec → StartsWith h f
      → IsFrontOf specs c h → IsFrontOf specs c f
  front_begins specs c spec f h at begins front =
      let book : IsBook of_chan (opened_channel spec) (f ++ begins.0) =
      subst (IsBook of_chan (opened_channel spec)) begins.1 (subst (λ o. MatchOption o (h ≡ []) (λ s. IsBook of_chan (opened_channel s) h)) at front) in
      subst (λ o. MatchOption o (f ≡ []) (λ s. IsBook of_chan (opened_channel s) f)) (sym at) (record {
        legal = legal_begins (opened_channel spec) f begins.0 book.legal;
        ordered = rises_begins 0 f begins.0 book.ordered;
        short = omega (arith, length-append f begins.0, book.short);
      })

  -- a seat whose `HandSeat` has seen more of one channel, before its parts are put together again
  module _ (seat : DeskSeat V) (pass : Pass V) (others : List (ChannelSeat V)) (at : ℕ) (hand_seat h : ChannelSeat V) (within : at < length seat.hand_seats)
      (same : pass ≡ seat.pass) (out : others ≡ remove seat.hand_seats at)
      (is : hand_seat ≡ get_or seat.hand_seats at hand_seat) (kept : IsDeskSeat seat.pass seat.hand_seats) (number : h.number ≡ hand_seat.number)
      (on : HasGoneOn hand_seat.number hand_seat.front h.front) where
    gone_on : HasGoneOn seat.pass.actor hand_seat.front h.front
    gone_on =
        let mine : hand_seat.number ≡ seat.pass.actor = ap (λ (x : ChannelSeat V). x.number) is ∙ kept.numbers at hand_seat within in
        subst (λ (n : ℕ). HasGoneOn n hand_seat.front h.front) mine on

    pub looked_seat : IsDeskSeat pass (insert others at h)
    looked_seat = subst (λ (z : Pass V × List (ChannelSeat V)). IsDeskSeat z.0 (insert z.1 at h)) (λ i. (sym same i, sym out i))
        (seat_looked seat.hand_seats at hand_seat h within is seat.pass kept number gone_on)

    -- and after that
    pub looked : (desk : SeatDesk V) (whole : DeskSeat V) → whole ≡ record { pass = pass; hand_seats = insert others at h } → h.home ≡ hand_seat.home
        → IsFrontOf desk.specs at h.front → IsSeatOf desk seat
        → IsSeatOf desk whole × HasSeen seat whole × IsElsewhereAsBefore at seat whole × (front_at whole.hand_seats at ≡ h.front)
    looked desk whole put home front of_desk =
        let now : DeskSeat V = record { pass = pass; hand_seats = insert (remove seat.hand_seats at) at h } in
        let eq : whole ≡ now = put ∙ ap (λ (hs : List (ChannelSeat V)). record { pass = pass; hand_seats = insert hs at h }) out in
        subst (λ (w : DeskSeat V). IsSeatOf desk w × HasSeen seat w × IsElsewhereAsBefore at seat w × (front_at w.hand_seats at ≡ h.front)) (sym eq) (
          still_of desk seat.pass pass seat.hand_seats at hand_seat h within is home front of_desk,
          has_seen seat.hand_seats at hand_seat h within is seat.pass pass same gone_on,
          elsewhere seat.hand_seats at hand_seat h within is seat.pass pass,
          front_here seat.hand_seats at hand_seat h within is,
        )

  pub seen_nothing : (s : DeskSeat V) → HasSeen s s
  seen_nothing s = record { pass = refl; fronts = λ c. quiet_self author_of (s.pass.actor ∷ []) (front_at s.hand_seats c) }

  -- the invariant of a seat holds after a call
  pub seat_after : (pass new : Pass V) (hand_seats : List (ChannelSeat V)) (at : ℕ) (hand_seat h : ChannelSeat V) (home : Home (Chan V)) (call : ChanCall V)
      (answer : Result (Answered V) DeskFault) → at < length hand_seats → hand_seat ≡ get_or hand_seats at hand_seat
      → IsDeskSeat pass hand_seats → h.number ≡ hand_seat.number → IfOk answer (IsMade pass new hand_seat.front h.front at call)
      → IfErr answer (IsNotMade home pass new hand_seat.front h.front call) → IsDeskSeat new (insert (remove hand_seats at) at h)
  seat_after pass new hand_seats at hand_seat h home call (Ok a) within is seat number made refused =
      seat_called hand_seats at hand_seat h within is pass new call a seat number made
  seat_after pass new hand_seats at hand_seat h home call (Err fault) within is seat number made refused =
      subst (λ (p : Pass V). IsDeskSeat p (insert (remove hand_seats at) at h)) (sym refused.pass)
      (seat_looked hand_seats at hand_seat h within is pass seat number refused.front)

  -- what a desk returns, from the result of the `HandSeat`'s call
  pub answered : (specs : List (Spec V)) (pass new : Pass V) (hand_seats : List (ChannelSeat V)) (at : ℕ) (hand_seat h : ChannelSeat V) (home : Home (Chan V))
      (spec : Spec V) (call : ChanCall V) (answer : Result (Answered V) DeskFault)
      → at < length hand_seats → hand_seat ≡ get_or hand_seats at hand_seat → slice_get specs at ≡ Some spec → opening_at home ≡ Some (opened_channel spec)
      → strays_at (spec_kind spec) call ≡ false
      → IsDeskSeat new (insert (remove hand_seats at) at h)
      → IfOk answer (IsMade pass new hand_seat.front h.front at call) → IfErr answer (IsNotMade home pass new hand_seat.front h.front call)
      → IsAnswered specs (record { pass = pass; hand_seats = hand_seats }) (record { pass = new; hand_seats = insert (remove hand_seats at) at h }) at call
      answer
  answered specs pass new hand_seats at hand_seat h home spec call (Ok a) within is there from stays seat made refused = record {
    made = has_called hand_seats at hand_seat h within is pass new call a seat made;
    elsewhere = elsewhere hand_seats at hand_seat h within is pass new;
    no_channel = ((λ no. absurd (cc)), (λ strays. absurd (true≢false (sym strays ∙ stays_in specs at spec call there stays))));
  }
  answered specs pass new hand_seats at hand_seat h home spec call (Err fault) within is there from stays seat made refused = record {
    made = record {
      seen = has_seen hand_seats at hand_seat h within is pass new refused.pass refused.front;
      reason = subst (λ o. MatchOption o (fault ≡ NoChannel)
          (λ s. IsFaultAfter (opened_channel s) (front_at (insert (remove hand_seats at) at h) at) pass.clock call fault)) (sym there)
          (subst (λ (es : List (ChanEntry V)). IsFaultAfter (opened_channel spec) es pass.clock call fault)
          (sym (front_here hand_seats at hand_seat h within is))
          (of_opening (λ x. IsFaultAfter x h.front pass.clock call fault) home (opened_channel spec) refused.reason from));
    };
    elsewhere = elsewhere hand_seats at hand_seat h within is pass new;
    no_channel = (
      (λ no. let is_no : fault ≡ NoChannel = cc in absurd
          (no_stray spec home pass new hand_seat.front h.front call from stays (subst (IsNotMade home pass new hand_seat.front h.front call) is_no refused))),
      (λ strays. absurd (true≢false (sym strays ∙ stays_in specs at spec call there stays))),
    );
  }
