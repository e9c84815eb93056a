-- One call of a broadcast, and the track of the broadcast.
use Rattle.std.proofs.Common.{◌≡◌, ◌≢◌, ℕ, zero, suc, ◌+◌, ◌-◌, ◌<◌, ◌≤◌, ◌⊎◌, true, false, cond, List, [], ◌∷◌, ◌++◌}
use Rattle.std.proofs.Common.{length, map, get_or, set, inl, inr, refl, ap, sym, ◌∙◌, subst, arith}
use Rattle.std.specs.Prelude.{Option, Some, None, slice_get, nat_lt, nat_eq, ◌==◌, option_map, option_and_then}
use Rattle.std.proofs.lemmas.Bool.{ltb-true, ltb-false, cases_order, cases_lt, cond_both}
use Rattle.std.proofs.lemmas.Bool.Decides.{nat_tests}
use Rattle.std.proofs.lemmas.List.{length_push, map-set, map-append}
use Rattle.std.proofs.lemmas.Option.{slice_get_within}
use Rattle.rw_handles.specs.declared.kinds.Kind.{Kind}
use Rattle.rw_handles.specs.declared.kinds.Kind.TheVariants.{Sender, Receiver, Weak}
use Rattle.rw_handles.specs.declared.kinds.Slot.{Slot}
use Rattle.rw_handles.specs.declared.kinds.Slot.TheVariants.{Live, Spent}
use Rattle.rw_handles.specs.declared.kinds.Found.TheVariants.{Handle}
use Rattle.rw_handles.specs.declared.kinds.HandleFault.{HandleFault}
use Rattle.rw_handles.specs.declared.kinds.HandleFault.TheVariants as fault
use Rattle.rw_handles.specs.Slots.{lookup}
use Rattle.rw_handles.proofs.Checks.{of_checked}
use Rattle.rw_handles.proofs.SlotLaws.{found_at_is, found_at_wanted, slice_get-set}
use Rattle.rw_broadcast.specs.declared.calls.BCall.{BCall}
use Rattle.rw_broadcast.specs.declared.calls.BCall.TheVariants.{Send, Subscribe, CloneSender, Resubscribe, TryRecv, Recv, DropHandle, SenderLen}
use Rattle.rw_broadcast.specs.declared.calls.BCall.TheVariants.{ReceiverCount, ReceiverLen, Downgrade, Upgrade, CloneWeak}
use Rattle.rw_broadcast.specs.declared.calls.BReply.{BReply}
use Rattle.rw_broadcast.specs.declared.calls.BReply.TheVariants.{Sent, Value, Lagged, Empty, Waits, New, TooManyHandles}
use Rattle.rw_broadcast.specs.declared.calls.BReply.TheVariants as reply
use Rattle.rw_broadcast.specs.Channel.{Change, Keep, Append, Make, Move, Leave, handle_of, wanted_kind, makes, fault_reply}
use Rattle.rw_broadcast.specs.Channel.{is_closed, oldest, receivers, read, receive, effect_with, effect}
use Rattle.rw_broadcast.specs.Machine.{position_at}
use Rattle.rw_broadcast.specs.Shown.{Shown, channel_of, with_change, IsAllowed}
use Rattle.rw_findings.specs.declared.losses.loss.Loss.{Loss}
use Rattle.rw_findings.specs.declared.losses.loss.LossEnd.{LossEnd}
use Rattle.rw_findings.specs.declared.losses.loss.LossEnd.TheVariants.{Told, Dropped}
use Rattle.rw_findings.specs.LossTracks.{Track, position_in, lag_in, oldest_in, loss_in, loss_from, loss_by, subject}
use Rattle.rw_findings.specs.LossTracks.{first_position, next_position, with_position, with_call}

-- ---- lists

pub get-set_other : {A : Type 0} (xs : List A) (i j : ℕ) (a : A) → j ≢ i → slice_get (set xs i a) j ≡ slice_get xs j
get-set_other [] i j a apart = refl
get-set_other (x ∷ xs) zero zero a apart = absurd (apart refl)
get-set_other (x ∷ xs) zero (suc j) a apart = refl
get-set_other (x ∷ xs) (suc i) zero a apart = refl
get-set_other (x ∷ xs) (suc i) (suc j) a apart = get-set_other xs i j a (λ same. apart (ap suc same))

get-push : {A : Type 0} (xs : List A) (j : ℕ) (a b : A) → slice_get (xs ++ a ∷ []) j ≡ Some b → (slice_get xs j ≡ Some b) ⊎ (a ≡ b)
get-push [] zero a b is = inr cc
get-push [] (suc j) a b is = absurd cc
get-push (x ∷ xs) zero a b is = inl is
get-push (x ∷ xs) (suc j) a b is = get-push xs j a b is

pub get-push_before : {A : Type 0} (xs : List A) (j : ℕ) (a b : A) → slice_get xs j ≡ Some b → slice_get (xs ++ a ∷ []) j ≡ Some b
get-push_before [] j a b is = absurd cc
get-push_before (x ∷ xs) zero a b is = is
get-push_before (x ∷ xs) (suc j) a b is = get-push_before xs j a b is

-- ---- tests

some_is : (n : ℕ) → 0 < n → nat_eq n 0 ≡ false
some_is n h = grind (arith, nat_tests)

none_is : (n : ℕ) → n ≡ 0 → nat_eq n 0 ≡ true
none_is n h = grind (arith, nat_tests)

lt_is : (m n : ℕ) → m < n → nat_lt m n ≡ true
lt_is m n h = grind (arith, nat_tests)

-- ---- positions

-- the position in a slot, if it has a live receiver
abbrev pub position_of : Slot ℕ → Option ℕ
position_of slot = position_at (Some slot)

pub positions_at : (slots : List (Slot ℕ)) (h : ℕ) → get_or (map position_of slots) h None ≡ position_at (slice_get slots h)
positions_at [] h = refl
positions_at (slot ∷ slots) zero = refl
positions_at (slot ∷ slots) (suc h) = positions_at slots h

-- a position is that of a live receiver
pub receiver_there : (slots : List (Slot ℕ)) (h p : ℕ) → position_at (slice_get slots h) ≡ Some p → slice_get slots h ≡ Some (Live Receiver p)
receiver_there slots h p is = by_slot (slice_get slots h) is where
  by_slot : (o : Option (Slot ℕ)) → position_at o ≡ Some p → o ≡ Some (Live Receiver p)
  by_slot None is = absurd cc
  by_slot (Some Spent) is = absurd cc
  by_slot (Some (Live Sender q)) is = absurd cc
  by_slot (Some (Live Weak q)) is = absurd cc
  by_slot (Some (Live Receiver q)) is = cc

-- ---- one step

module _ {V : Type 0} where
  abbrev pub position : Shown V → ℕ → Option ℕ
  position x h = position_at (slice_get x.slots h)

  abbrev pub lag : Shown V → ℕ → ℕ
  lag x p = oldest (channel_of x) - p

  -- the track of a channel that shows x
  pub record IsTrackOf (x : Shown V) (t : Track) : Type 0 where
    pub capacity : t.capacity ≡ x.capacity
    pub sends : length t.sends ≡ x.sent
    pub positions : t.positions ≡ map position_of x.slots

  -- from x to y, what lagged stays where it is
  abbrev pub Stays : Shown V → Shown V → ℕ → Type 0
  Stays x y h = (p : ℕ) → position x h ≡ Some p → 0 < lag x p → position y h ≡ Some p

  -- the end of a loss: the receiver is told, or dropped
  abbrev pub EndsAt : Shown V → (h place : ℕ) → LossEnd → Type 0
  EndsAt y h place end = ((end ≡ Told place) × ((q : ℕ) × (position y h ≡ Some q) × (lag y q ≡ 0))) ⊎ ((end ≡ Dropped place) × (position y h ≡ None))

  -- this is the loss that ends from x to y
  pub record IsEnded (x y : Shown V) (t : Track) (channel place : ℕ) (loss : Loss) : Type 0 where
    pub from_position : ℕ
    pub here : position x loss.receiver ≡ Some from_position
    pub lags : 0 < lag x from_position
    pub channel_is : loss.channel ≡ channel
    pub from_is : loss.from ≡ get_or t.sends (x.sent - lag x from_position) 0
    pub lost_is : loss.lost ≡ lag x from_position
    pub end_is : EndsAt y loss.receiver place loss.end
    pub others : (h : ℕ) → h ≢ loss.receiver → Stays x y h

  abbrev pub EndsOne : Shown V → Shown V → Track → (channel place : ℕ) → Option Loss → Type 0
  EndsOne x y t channel place None = (h : ℕ) → Stays x y h
  EndsOne x y t channel place (Some loss) = IsEnded x y t channel place loss

  -- the sends are the same, or one more at this place, which moves nothing and ends no loss
  abbrev pub SendsOn : Shown V → Shown V → Track → Track → ℕ → Type 0
  SendsOn x y t u place = ((y.sent ≡ x.sent) × (u.sends ≡ t.sends)) ⊎ ((y.sent ≡ x.sent + 1) × (u.sends ≡ t.sends ++ place ∷ []) × (y.slots ≡ x.slots))

  -- what a call does to a channel and its track, by its change and its reply
  pub record Tracks (x : Shown V) (t : Track) (call : BCall V) (channel place : ℕ) (e : Change V × BReply V) : Type 0 where
    pub track : IsTrackOf (with_change x e.0) (with_call t call e.1 place)
    pub capacity : (with_change x e.0).capacity ≡ x.capacity
    pub sends : SendsOn x (with_change x e.0) t (with_call t call e.1 place) place
    -- what lags afterwards was there before
    pub behind : (h p : ℕ) → position (with_change x e.0) h ≡ Some p → 0 < lag (with_change x e.0) p → position x h ≡ Some p
    pub ended : EndsOne x (with_change x e.0) t channel place (loss_by t channel call e.1 place)

  module _ (x : Shown V) (t : Track) (channel place : ℕ) (is : IsTrackOf x t) where
    position_is : (h : ℕ) → position_in t h ≡ position x h
    position_is h = ap (λ ps. get_or ps h None) is.positions ∙ positions_at x.slots h

    -- the track says how much a receiver lags
    lag_is : (p : ℕ) → lag_in t p ≡ lag x p
    lag_is p = omega (arith, is.sends, is.capacity)

    keeps : (call : BCall V) (reply : BReply V) → with_call t call reply place ≡ t → loss_by t channel call reply place ≡ None
        → Tracks x t call channel place (Keep, reply)
    keeps call reply same none = record {
      track = subst (λ u. IsTrackOf x u) (sym same) is;
      capacity = refl;
      sends = inl (refl, ap (λ (u : Track). u.sends) same);
      behind = λ h p here lags. here;
      ended = subst (λ o. EndsOne x x t channel place o) (sym none) (λ h p here lags. here);
    }

    appends : (call : BCall V) (v : V) (n : ℕ) → Tracks x t call channel place (Append v, Sent n)
    appends call v n = record {
      track = record { capacity = is.capacity; sends = omega (arith, length_push t.sends place, is.sends); positions = is.positions };
      capacity = refl;
      sends = inr (refl, refl, refl);
      behind = λ h p here lags. here;
      ended = λ h p here lags. here;
    }

    makes_one : (call : BCall V) (kind : Kind) (start n : ℕ) → first_position t call ≡ position_of (Live kind start)
        → ((p : ℕ) → position_of (Live kind start) ≡ Some p → x.sent ≤ p)
        → Tracks x t call channel place (Make kind start, New n)
    makes_one call kind start n first fresh = record {
      track = record {
        capacity = is.capacity;
        sends = is.sends;
        positions = ap (λ ps. ps ++ first_position t call ∷ []) is.positions ∙ ap (λ o. map position_of x.slots ++ o ∷ []) first
            ∙ sym (map-append position_of x.slots (Live kind start ∷ []));
      };
      capacity = refl;
      sends = inl (refl, refl);
      behind = λ h p here lags.
          let there = receiver_there (x.slots ++ Live kind start ∷ []) h p here in
          elim (get-push x.slots h (Live kind start) (Live Receiver p) there) [
            | inl old ↦ ap position_at old
            | inr new ↦ absurd (omega (arith, fresh p (ap position_of new), lags))
          ];
      ended = λ h p here lags. ap position_at (get-push_before x.slots h (Live kind start) (Live Receiver p) (receiver_there x.slots h p here));
    }

    -- the number of the call's handle has another slot afterwards
    put_is : (h : ℕ) (slot : Slot ℕ) → set t.positions h (position_of slot) ≡ map position_of (set x.slots h slot)
    put_is h slot = ap (λ ps. set ps h (position_of slot)) is.positions ∙ sym (map-set position_of x.slots h slot)

    other : (h g : ℕ) (slot : Slot ℕ) → g ≢ h → position_at (slice_get (set x.slots h slot) g) ≡ position x g
    other h g slot apart = ap position_at (get-set_other x.slots h g slot apart)

    own : (h : ℕ) (slot was : Slot ℕ) → slice_get x.slots h ≡ Some was → position_at (slice_get (set x.slots h slot) h) ≡ position_of slot
    own h slot was here = ap position_at (slice_get-set x.slots h slot was here)

    -- what lags after a receiver has moved, where it doesn't itself, was there before
    behind_put : (h p g q : ℕ) (slot was : Slot ℕ) → slice_get x.slots h ≡ Some was → ((r : ℕ) → position_of slot ≡ Some r → lag x r ≡ 0)
        → position_at (slice_get (set x.slots h slot) g) ≡ Some q → 0 < lag x q → position x g ≡ Some q
    behind_put h p g q slot was here none there lags =
        elim (cases_order g h) [
          | inl same ↦ let at : position_of slot ≡ Some q =
              sym (own h slot was here) ∙ ap (λ k. position_at (slice_get (set x.slots h slot) k)) (sym same) ∙ there in
              absurd (omega (arith, none q at, lags))
          | inr apart ↦ sym (other h g slot (λ same. elim apart [ inl below ↦ omega (arith, same, below) | inr above ↦ omega (arith, same, above) ])) ∙ there
        ]

    stays_put : (h g : ℕ) (slot : Slot ℕ) → g ≢ h → Stays x (record x { slots = set x.slots h slot }) g
    stays_put h g slot apart p here lags = other h g slot apart ∙ here

    -- where receiver h doesn't lag, all that lag stay where they are when it moves
    all_stay_put : (h p : ℕ) (slot : Slot ℕ) → position x h ≡ Some p → lag x p ≡ 0 → (g : ℕ) → Stays x (record x { slots = set x.slots h slot }) g
    all_stay_put h p slot at none g q here lags =
        stays_put h g slot (λ same. let p_is : Some p ≡ Some q = sym at ∙ ap (λ k. position x k) (sym same) ∙ here in let e : p ≡ q = cc in
        omega (arith, e, none, lags)) q here lags

    -- the loss of a receiver at this position
    abbrev pub the_loss : (h p : ℕ) → LossEnd → Loss
    the_loss h p end = record { channel = channel; receiver = h; from = get_or t.sends (x.sent - lag x p) 0; lost = lag x p; end = end }

    loss_at : (h p : ℕ) (end : LossEnd) → position x h ≡ Some p → loss_in t channel h end ≡ cond (nat_eq (lag x p) 0) None (Some (the_loss h p end))
    loss_at h p end here =
        let with_lag = λ (n : ℕ) (m : ℕ). cond {A = Option Loss} (nat_eq n 0) None
        (Some (record { channel = channel; receiver = h; from = get_or t.sends (m - n) 0; lost = n; end = end })) in
        ap (λ o. option_and_then (loss_from t channel h end) o) (position_is h ∙ here)
        ∙ ap (λ n. with_lag n (length t.sends)) (lag_is p)
        ∙ ap (λ m. with_lag (lag x p) m) is.sends

    pub loss_found : (h p : ℕ) (end : LossEnd) → position x h ≡ Some p → 0 < lag x p → loss_in t channel h end ≡ Some (the_loss h p end)
    loss_found h p end here lags = loss_at h p end here ∙ ap (λ b. cond {A = Option Loss} b None (Some (the_loss h p end))) (some_is (lag x p) lags)

    pub loss_none : (h p : ℕ) (end : LossEnd) → position x h ≡ Some p → lag x p ≡ 0 → loss_in t channel h end ≡ None
    loss_none h p end here none = loss_at h p end here ∙ ap (λ b. cond {A = Option Loss} b None (Some (the_loss h p end))) (none_is (lag x p) none)

    pub loss_nobody : (h : ℕ) (end : LossEnd) → position x h ≡ None → loss_in t channel h end ≡ None
    loss_nobody h end nobody = ap (λ o. option_and_then (loss_from t channel h end) o) (position_is h ∙ nobody)

    -- a track with another position in it
    put_track : (h : ℕ) (slot : Slot ℕ) (u : Track) → u ≡ record t { positions = set t.positions h (position_of slot) }
        → IsTrackOf (record x { slots = set x.slots h slot }) u
    put_track h slot u same = subst (λ w. IsTrackOf (record x { slots = set x.slots h slot }) w) (sym same)
        (record { capacity = is.capacity; sends = is.sends; positions = put_is h slot })

    -- a receiver receives the value at its position
    reads : (call : BCall V) (h p : ℕ) (v : V) → subject call ≡ Some h → slice_get x.slots h ≡ Some (Live Receiver p) → lag x p ≡ 0 → p < x.sent
        → Tracks x t call channel place (Move h p (p + 1), Value v)
    reads call h p v who here none some =
        let at : position_in t h ≡ Some p = position_is h ∙ ap position_at here in
        let sent : nat_lt p (length t.sends) ≡ true = rw is.sends (lt_is p x.sent some) in
        let next : next_position t h ≡ Some (p + 1) =
        ap (λ o. option_map (λ position. cond (nat_lt position (length t.sends)) (position + 1) position) o) at ∙ ap (λ b. Some (cond b (p + 1) p)) sent in
        let same : with_call t call (Value v) place ≡ record t { positions = set t.positions h (Some (p + 1)) } =
        ap (λ o. with_position t o (option_and_then (next_position t) o)) who ∙ ap (λ o. with_position t (Some h) o) next in
        record {
          track = put_track h (Live Receiver (p + 1)) _ same;
          capacity = refl;
          sends = inl (refl, ap (λ (u : Track). u.sends) same);
          behind = λ g q there lags. behind_put h p g q (Live Receiver (p + 1)) (Live Receiver p) here
              (λ r e. let e2 : p + 1 ≡ r = cc in omega (arith, e2, none)) there lags;
          ended = all_stay_put h p (Live Receiver (p + 1)) (ap position_at here) none;
        }

    -- a receiver that lags is told
    tells : (call : BCall V) (h p n : ℕ) → subject call ≡ Some h → slice_get x.slots h ≡ Some (Live Receiver p) → 0 < lag x p
        → Tracks x t call channel place (Move h p (oldest (channel_of x)), Lagged n)
    tells call h p n who here lags =
        let to = oldest (channel_of x) in
        let slot : Slot ℕ = Live Receiver to in
        let to_is : oldest_in t ≡ to = omega (arith, is.sends, is.capacity) in
        let same : with_call t call (Lagged n) place ≡ record t { positions = set t.positions h (Some to) } =
        ap (λ o. with_position t o (Some (oldest_in t))) who ∙ ap (λ q. with_position t (Some h) (Some q)) to_is in
        let found : loss_by t channel call (Lagged n) place ≡ Some (the_loss h p (Told place)) =
        ap (λ o. option_and_then (λ g. loss_in t channel g (Told place)) o) who ∙ loss_found h p (Told place) (ap position_at here) lags in
        let y : Shown V = record x { slots = set x.slots h slot } in
        record {
          track = put_track h slot _ same;
          capacity = refl;
          sends = inl (refl, ap (λ (u : Track). u.sends) same);
          behind = λ g q there behind. behind_put h p g q slot (Live Receiver p) here (λ r e. let e2 : to ≡ r = cc in omega (arith, e2)) there behind;
          ended = subst (λ o. EndsOne x y t channel place o) (sym found) (record {
            from_position = p;
            here = ap position_at here;
            lags = lags;
            channel_is = refl;
            from_is = refl;
            lost_is = refl;
            end_is = inl (refl, (to, own h slot (Live Receiver p) here, omega arith));
            others = λ g apart. stays_put h g slot apart;
          });
        }

    -- a handle is dropped, by whether it is a receiver that lags
    leaves_behind : (h p : ℕ) → slice_get x.slots h ≡ Some (Live Receiver p) → 0 < lag x p
        → EndsOne x (record x { slots = set x.slots h Spent }) t channel place (Some (the_loss h p (Dropped place)))
    leaves_behind h p here lags = record {
      from_position = p;
      here = ap position_at here;
      lags = lags;
      channel_is = refl;
      from_is = refl;
      lost_is = refl;
      end_is = inr (refl, own h Spent (Live Receiver p) here);
      others = λ g apart. stays_put h g Spent apart;
    }

    leaves_nobody : (h : ℕ) → position x h ≡ None → (g : ℕ) → Stays x (record x { slots = set x.slots h Spent }) g
    leaves_nobody h nobody g q there lags = stays_put h g Spent
        (λ same. let e : None ≡ Some q = sym nobody ∙ ap (λ k. position x k) (sym same) ∙ there in absurd cc) q there lags

    -- a handle is dropped
    left_track : (h : ℕ) → IsTrackOf (record x { slots = set x.slots h Spent }) (record t { positions = set t.positions h None })
    left_track h = record { capacity = is.capacity; sends = is.sends; positions = put_is h Spent }

    drops_with : (h : ℕ) (kind : Kind) (p : ℕ) (was : Slot ℕ) → slice_get x.slots h ≡ Some was
        → EndsOne x (record x { slots = set x.slots h Spent }) t channel place (loss_in t channel h (Dropped place))
        → Tracks x t (DropHandle h) channel place (Leave h kind p, reply.Dropped)
    drops_with h kind p was here ended = record {
      track = left_track h;
      capacity = refl;
      sends = inl (refl, refl);
      behind = λ g q there behind. behind_put h p g q Spent was here (λ r e. absurd cc) there behind;
      ended = ended;
    }

    drops : (h : ℕ) (kind : Kind) (p : ℕ) → slice_get x.slots h ≡ Some (Live kind p) → Tracks x t (DropHandle h) channel place (Leave h kind p, reply.Dropped)
    drops h Sender p here =
        drops_with h Sender p (Live Sender p) here (subst (λ o. EndsOne x (record x { slots = set x.slots h Spent }) t channel place o)
        (sym (loss_nobody h (Dropped place) (ap position_at here))) (leaves_nobody h (ap position_at here)))
    drops h Weak p here =
        drops_with h Weak p (Live Weak p) here (subst (λ o. EndsOne x (record x { slots = set x.slots h Spent }) t channel place o)
        (sym (loss_nobody h (Dropped place) (ap position_at here))) (leaves_nobody h (ap position_at here)))
    drops h Receiver p here =
        drops_with h Receiver p (Live Receiver p) here
        (elim (cases_lt 0 (lag x p)) [
          | inl lags ↦ subst (λ o. EndsOne x (record x { slots = set x.slots h Spent }) t channel place o)
              (sym (loss_found h p (Dropped place) (ap position_at here) lags)) (leaves_behind h p here lags)
          | inr none ↦ let zero_is : lag x p ≡ 0 = omega arith in
              subst (λ o. EndsOne x (record x { slots = set x.slots h Spent }) t channel place o)
              (sym (loss_none h p (Dropped place) (ap position_at here) zero_is)) (all_stay_put h p Spent (ap position_at here) zero_is)
        ])

    module _ (ok : IsAllowed x) where
      reads_or_not : (call : BCall V) (h p : ℕ) (o : Option V) (nothing : BReply V) → subject call ≡ Some h → slice_get x.slots h ≡ Some (Live Receiver p)
          → lag x p ≡ 0
          → (channel_of x).value p ≡ o → Tracks x t call channel place (Keep, nothing) → Tracks x t call channel place (read (channel_of x) h p o nothing)
      reads_or_not call h p None nothing who here none at idle =
          cond_both (is_closed (channel_of x)) reply.Closed nothing (λ r. Tracks x t call channel place (Keep, r)) (λ _. keeps call reply.Closed refl refl)
          (λ _. idle)
      reads_or_not call h p (Some v) nothing who here none at idle =
          let within : p - oldest (channel_of x) < length x.window = slice_get_within x.window (p - oldest (channel_of x)) v at in
          reads call h p v who here none (omega (arith, ok.retained))

      receives : (call : BCall V) (h p : ℕ) (nothing : BReply V) → subject call ≡ Some h → slice_get x.slots h ≡ Some (Live Receiver p)
          → Tracks x t call channel place (Keep, nothing)
          → Tracks x t call channel place (receive (channel_of x) h p nothing)
      receives call h p nothing who here idle =
          cond_both (nat_lt 0 (lag x p)) _ _ (Tracks x t call channel place)
          (λ lags. tells call h p (lag x p) who here (ltb-true 0 (lag x p) lags))
          (λ none. let none_is : lag x p ≡ 0 = omega (arith, ltb-false 0 (lag x p) none) in
          reads_or_not call h p ((channel_of x).value p) nothing who here none_is refl idle)

      -- each call, with the handle that was found
      tracks_with : (call : BCall V) (kind : Kind) (p : ℕ) → lookup (wanted_kind call) x.slots (handle_of call) ≡ Handle kind p
          → Tracks x t call channel place (effect_with (channel_of x) call kind p)
      tracks_with (Send h v) kind p found =
          cond_both (receivers (channel_of x) == 0) _ _ (Tracks x t (Send h v) channel place) (λ _. keeps (Send h v) (reply.NoReceivers v) refl refl)
          (λ _. appends (Send h v) v (receivers (channel_of x)))
      tracks_with (Subscribe h) kind p found = makes_one (Subscribe h) Receiver x.sent (length x.slots) (ap Some is.sends)
          (λ q e. let same : x.sent ≡ q = cc in omega (arith, same))
      tracks_with (CloneSender h) kind p found = makes_one (CloneSender h) Sender 0 (length x.slots) refl (λ q e. absurd cc)
      tracks_with (Resubscribe h) kind p found = makes_one (Resubscribe h) Receiver x.sent (length x.slots) (ap Some is.sends)
          (λ q e. let same : x.sent ≡ q = cc in omega (arith, same))
      tracks_with (TryRecv h) kind p found = receives (TryRecv h) h p Empty refl (found_at_wanted Receiver _ kind p found) (keeps (TryRecv h) Empty refl refl)
      tracks_with (Recv h) kind p found = receives (Recv h) h p Waits refl (found_at_wanted Receiver _ kind p found) (keeps (Recv h) Waits refl refl)
      tracks_with (DropHandle h) kind p found = drops h kind p (found_at_is None _ kind p found)
      tracks_with (SenderLen h) kind p found = keeps (SenderLen h) _ refl refl
      tracks_with (ReceiverCount h) kind p found = keeps (ReceiverCount h) _ refl refl
      tracks_with (ReceiverLen h) kind p found = keeps (ReceiverLen h) _ refl refl
      tracks_with (Downgrade h) kind p found = makes_one (Downgrade h) Weak 0 (length x.slots) refl (λ q e. absurd cc)
      tracks_with (Upgrade h) kind p found =
          cond_both (is_closed (channel_of x)) _ _ (Tracks x t (Upgrade h) channel place) (λ _. keeps (Upgrade h) reply.NoSender refl refl)
          (λ _. makes_one (Upgrade h) Sender 0 (length x.slots) refl (λ q e. absurd cc))
      tracks_with (CloneWeak h) kind p found = makes_one (CloneWeak h) Weak 0 (length x.slots) refl (λ q e. absurd cc)

      faulty : (call : BCall V) (f : HandleFault) → Tracks x t call channel place (Keep, fault_reply f)
      faulty call fault.Unknown = keeps call reply.Unknown refl refl
      faulty call fault.Gone = keeps call reply.Gone refl refl
      faulty call fault.WrongKind = keeps call reply.WrongKind refl refl

      pub tracks : (call : BCall V) → Tracks x t call channel place (effect (channel_of x) call)
      tracks call =
          of_checked (Tracks x t call channel place) (λ f. (Keep, fault_reply f)) (Keep, TooManyHandles) (makes call) (length x.slots)
          (effect_with (channel_of x) call)
          (lookup (wanted_kind call) x.slots (handle_of call))
          (faulty call) (keeps call TooManyHandles refl refl) (λ kind p found few. tracks_with call kind p found)
