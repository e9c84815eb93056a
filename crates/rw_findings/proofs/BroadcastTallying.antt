-- One call of a broadcast, and what is kept of all its receivers.
use Rattle.std.proofs.Common.{◌≡◌, ◌≢◌, ℕ, zero, suc, ◌+◌, ◌-◌, ◌<◌, ◌≤◌, ◌⊎◌, Bool, true, false, cond, List, [], ◌∷◌}
use Rattle.std.proofs.Common.{◌++◌, length, map, get_or, set, inl, inr, refl, ap, sym, ◌∙◌, subst, arith}
use Rattle.std.specs.Prelude.{Option, Some, None, unwrap_or, slice_get, option_map, option_and_then, nat_eq, nat_lt}
use Rattle.std.proofs.lemmas.Bool.{cases_order}
use Rattle.std.proofs.lemmas.Bool.Decides.{nat_tests}
use Rattle.std.proofs.lemmas.List.{length-map, map-append, map-set, get_or_append_left}
use Rattle.std.proofs.lemmas.Option.{slice_get_within}
use Rattle.std.proofs.Math.Seq.{get_or-append_seam}
use Rattle.rw_handles.specs.declared.kinds.Kind.{Kind}
use Rattle.rw_handles.specs.declared.kinds.Kind.TheVariants.{Receiver}
use Rattle.rw_handles.specs.declared.kinds.Slot.{Slot}
use Rattle.rw_handles.specs.declared.kinds.Slot.TheVariants.{Live, Spent}
use Rattle.rw_broadcast.specs.declared.calls.BCall.{BCall}
use Rattle.rw_broadcast.specs.declared.calls.BReply.{BReply}
use Rattle.rw_broadcast.specs.declared.calls.BReply.TheVariants.{Sent, NoReceivers, Value, Lagged, Empty, Closed, Waits, New, Count}
use Rattle.rw_broadcast.specs.declared.calls.BReply.TheVariants.{Unknown, Gone, WrongKind, TooManyHandles, NoSender}
use Rattle.rw_broadcast.specs.declared.calls.BReply.TheVariants as reply
use Rattle.rw_broadcast.specs.Channel.{Change, Append, Make, Move, Leave, oldest}
use Rattle.rw_broadcast.specs.Machine.{position_at}
use Rattle.rw_broadcast.specs.Shown.{Shown, channel_of, with_change}
use Rattle.rw_world.specs.declared.channels.ChanCall.TheVariants as call_of
use Rattle.rw_world.specs.declared.channels.ChanReply.TheVariants as reply_of
use Rattle.rw_findings.specs.LossTracks.{subject}
use Rattle.rw_findings.specs.Totals.{receiver_in, receives, is_told}
use Rattle.rw_navigator.specs.Conditions.{has}
use Rattle.rw_findings.specs.declared.totals.broadcast.Reader.{Reader}
use Rattle.rw_findings.specs.BroadcastTallies.{BroadcastTally, new_reader, oldest_of, after_value, after_lag}
use Rattle.rw_findings.specs.BroadcastTallies.{after_drop, reader_in, made_reader, with_reader, with_call}
use Rattle.rw_findings.proofs.LossSteps.{position_of, position, lag as lag_at_position, positions_at}
use Rattle.rw_findings.proofs.Greatest.{lt_is}
use Rattle.rw_findings.proofs.BroadcastSteps.{IsQuiet, IsOf, StepsTo, keeps, sends, makes_receiver, makes_other, reads, tells, leaves}
use Rattle.rw_findings.proofs.BroadcastReaders.{IsSameOf, IsSentTo, IsIdle, Counted, Uncounted, IsCounted, rests, is_sent, is_made, is_read, is_dropped}
use Rattle.rw_findings.proofs.BroadcastReaders as readers

-- ---- lists

get_or-map : {A B : Type 0} (f : A → B) (xs : List A) (i : ℕ) (d : A) → get_or (map f xs) i (f d) ≡ f (get_or xs i d)
get_or-map f [] i d = refl
get_or-map f (x ∷ xs) zero d = refl
get_or-map f (x ∷ xs) (suc i) d = get_or-map f xs i d

pub get_or_past : {A : Type 0} (xs : List A) (i : ℕ) (d : A) → length xs ≤ i → get_or xs i d ≡ d
get_or_past [] i d past = refl
get_or_past (x ∷ xs) zero d past = absurd (omega arith)
get_or_past (x ∷ xs) (suc i) d past = get_or_past xs i d (omega arith)

pub get_or_push_past : {A : Type 0} (xs : List A) (i : ℕ) (a d : A) → length xs < i → get_or (xs ++ a ∷ []) i d ≡ d
get_or_push_past [] zero a d past = absurd (omega arith)
get_or_push_past [] (suc i) a d past = refl
get_or_push_past (x ∷ xs) zero a d past = absurd (omega arith)
get_or_push_past (x ∷ xs) (suc i) a d past = get_or_push_past xs i a d (omega arith)

pub get_or-set_same : {A : Type 0} (xs : List A) (i : ℕ) (a d : A) → i < length xs → get_or (set xs i a) i d ≡ a
get_or-set_same [] i a d within = absurd (omega arith)
get_or-set_same (x ∷ xs) zero a d within = refl
get_or-set_same (x ∷ xs) (suc i) a d within = get_or-set_same xs i a d (omega arith)

pub get_or-set_apart : {A : Type 0} (xs : List A) (i j : ℕ) (a d : A) → j ≢ i → get_or (set xs i a) j d ≡ get_or xs j d
get_or-set_apart [] i j a d apart = refl
get_or-set_apart (x ∷ xs) zero zero a d apart = absurd (apart refl)
get_or-set_apart (x ∷ xs) zero (suc j) a d apart = refl
get_or-set_apart (x ∷ xs) (suc i) zero a d apart = refl
get_or-set_apart (x ∷ xs) (suc i) (suc j) a d apart = get_or-set_apart xs i j a d (λ same. apart (ap suc same))

pub same_or_apart : (a b : ℕ) → (a ≡ b) ⊎ (a ≢ b)
same_or_apart a b =
    elim (cases_order a b) [
      | inl same ↦ inl same
      | inr (inl below) ↦ inr (λ same. omega (arith, same, below))
      | inr (inr above) ↦ inr (λ same. omega (arith, same, above))
    ]

pub eq_is : (a b : ℕ) → a ≡ b → nat_eq a b ≡ true
eq_is a b h = grind (arith, nat_tests)

pub eq_not : (a b : ℕ) → a ≢ b → nat_eq a b ≡ false
eq_not a b apart = by_test (nat_eq a b) refl where
  by_test : (t : Bool) → nat_eq a b ≡ t → t ≡ false
  by_test false is = refl
  by_test true is = let same : a ≡ b = grind (arith, nat_tests) in absurd (apart same)

abbrev pub reader_position : Option Reader → Option ℕ
reader_position o = option_and_then (λ (r : Reader). r.position) o

module _ {V : Type 0} where
  -- the tally of a channel that shows x at place n
  pub record IsTallyOf (x : Shown V) (t : BroadcastTally) (n : ℕ) : Type 0 where
    pub capacity : t.capacity ≡ x.capacity
    pub sent : t.sent ≡ x.sent
    pub few : t.sent ≤ n
    pub positions : map reader_position t.readers ≡ map position_of x.slots

  pub made_same : (x : Shown V) (t : BroadcastTally) (n : ℕ) → IsTallyOf x t n → length t.readers ≡ length x.slots
  made_same x t n is = sym (length-map t.readers reader_position) ∙ ap length is.positions ∙ length-map x.slots position_of

  pub position_is : (x : Shown V) (t : BroadcastTally) (n : ℕ) → IsTallyOf x t n → (h : ℕ) → reader_position (reader_in t h) ≡ position x h
  position_is x t n is h = sym (get_or-map reader_position t.readers h None) ∙ ap (λ ps. get_or ps h None) is.positions ∙ positions_at x.slots h

  -- what a quiet reply leaves
  quiet_call : (t : BroadcastTally) (call : BCall V) (r : BReply V) (place : ℕ) → IsQuiet r → with_call t call r place ≡ t
  quiet_call t call (Sent n) place quiet = absurd quiet
  quiet_call t call (Value v) place quiet = absurd quiet
  quiet_call t call (Lagged n) place quiet = absurd quiet
  quiet_call t call (New h) place quiet = absurd quiet
  quiet_call t call reply.Dropped place quiet = absurd quiet
  quiet_call t call _ place quiet = refl

  quiet_receives : (h : ℕ) (call : BCall V) (r : BReply V) → IsQuiet r → receives h (call_of.B call) (reply_of.B r) ≡ false
  quiet_receives h call (Value v) quiet = absurd quiet
  quiet_receives h call _ quiet = refl

  quiet_told : (h : ℕ) (call : BCall V) (r : BReply V) → IsQuiet r → is_told h (call_of.B call) (reply_of.B r) ≡ false
  quiet_told h call (Lagged n) quiet = absurd quiet
  quiet_told h call _ quiet = refl

  -- where these are the lags at each place, and the counts of entries
  module _ (lag : (h place : ℕ) → Option ℕ) (received told : (h place : ℕ) → ℕ) where
    -- the tally and its receivers at place m
    pub record AreCounted (m : ℕ) (x : Shown V) (t : BroadcastTally) : Type 0 where
      pub tally : IsTallyOf x t m
      pub counted : (h : ℕ) → IsCounted (lag h) (received h) (told h) m t (reader_in t h)

    abbrev pub LagsAs : (place : ℕ) → Shown V → Type 0
    LagsAs place x = (h : ℕ) → lag h place ≡ option_map (λ p. lag_at_position x p) (position x h)

  module _ (lag : (h place : ℕ) → Option ℕ) (received told : (h place : ℕ) → ℕ) (n : ℕ) where
    module _ (x : Shown V) (t : BroadcastTally) (call : BCall V) (are : AreCounted lag received told n x t) (now : LagsAs lag received told n x) where
      -- the counts of entries after a call with this reply
      pub record Counts (r : BReply V) : Type 0 where
        pub received_is : (h : ℕ) → received h (n + 1) ≡ cond (receives h (call_of.B call) (reply_of.B r)) (received h n + 1) (received h n)
        pub told_is : (h : ℕ) → told h (n + 1) ≡ cond (is_told h (call_of.B call) (reply_of.B r)) (told h n + 1) (told h n)

      idle : (r : BReply V) → Counts r → (h : ℕ) → receives h (call_of.B call) (reply_of.B r) ≡ false → is_told h (call_of.B call) (reply_of.B r) ≡ false
          → IsIdle (lag h) (received h) (told h) n
      idle r counts h one other = record {
        received_is = counts.received_is h ∙ ap (λ b. cond b (received h n + 1) (received h n)) one;
        told_is = counts.told_is h ∙ ap (λ b. cond b (told h n + 1) (told h n)) other;
      }

      few_on : t.sent ≤ n + 1
      few_on = omega (arith, are.tally.few)

      -- a handle of its own has a receiver or none
      on_keep : (r : BReply V) → IsQuiet r → Counts r → LagsAs lag received told (n + 1) x → AreCounted lag received told (n + 1) x (with_call t call r (n + 1))
      on_keep r quiet counts then =
          subst (λ u. AreCounted lag received told (n + 1) x u) (sym (quiet_call t call r (n + 1) quiet)) (record {
            tally = record { capacity = are.tally.capacity; sent = are.tally.sent; few = few_on; positions = are.tally.positions };
            counted = λ h. rests (lag h) (received h) (told h) n t t (reader_in t h) (record { capacity = refl; sent = refl; last_send = refl })
                (idle r counts h (quiet_receives h call r quiet) (quiet_told h call r quiet)) (then h ∙ sym (now h)) (are.counted h);
          })

      on_send : (v : V) (k : ℕ) → Counts (Sent k) → LagsAs lag received told (n + 1) (with_change x (Append v))
          → AreCounted lag received told (n + 1) (with_change x (Append v)) (with_call t call (Sent k) (n + 1))
      on_send v k counts then =
          let y = with_change x (Append v) in
          let u = with_call t call (Sent k) (n + 1) in
          let old : oldest_of u ≡ oldest (channel_of y) = omega (arith, are.tally.sent, are.tally.capacity) in
          let lags : (h : ℕ) → lag h (n + 1) ≡ option_map (λ p. oldest_of u - p) (reader_position (reader_in t h)) =
          λ h. then h ∙ ap (λ o. option_map (λ p. oldest (channel_of y) - p) o) (sym (position_is x t n are.tally h))
          ∙ ap (λ k. option_map (λ p. k - p) (reader_position (reader_in t h))) (sym old) in
          record {
            tally = record {
              capacity = are.tally.capacity;
              sent = omega (arith, are.tally.sent);
              few = omega (arith, are.tally.few);
              positions = are.tally.positions;
            };
            counted = λ h. is_sent (lag h) (received h) (told h) n t u (reader_in t h) (record { capacity = refl; sent = refl; last_send = refl })
                (idle (Sent k) counts h refl refl)
                (λ r here. lags h ∙ ap (λ o. option_map (λ p. oldest_of u - p) (reader_position o)) here)
                (λ none. lags h ∙ ap (λ o. option_map (λ p. oldest_of u - p) (reader_position o)) none) (are.counted h);
          }

      -- a receiver of which nothing changes
      untouched : (y : Shown V) (u : BroadcastTally) (h : ℕ) → IsSameOf t u → IsTallyOf y u (n + 1) → reader_in u h ≡ reader_in t h
          → IsIdle (lag h) (received h) (told h) n
          → lag h (n + 1) ≡ option_map (λ p. lag_at_position x p) (position y h) → IsCounted (lag h) (received h) (told h) (n + 1) u (reader_in u h)
      untouched y u h same tally here quiet then =
          let there : position y h ≡ position x h = sym (position_is y u (n + 1) tally h) ∙ ap reader_position here ∙ position_is x t n are.tally h in
          subst (λ o. IsCounted (lag h) (received h) (told h) (n + 1) u o) (sym here)
          (rests (lag h) (received h) (told h) n t u (reader_in t h) same quiet (then ∙ ap (λ o. option_map (λ p. lag_at_position x p) o) there ∙ sym (now h))
          (are.counted h))

      -- a handle is made, with this receiver or none
      module _ (kind : Kind) (start k : ℕ) (reader : Option Reader) (made_is : made_reader t call ≡ reader)
          (fits : reader_position reader ≡ position_of (Live kind start)) (counts : Counts (New k))
          (then : LagsAs lag received told (n + 1) (with_change x (Make kind start)))
          (makes : (h : ℕ) → IsIdle (lag h) (received h) (told h) n → lag h (n + 1) ≡ option_map (λ p. oldest_of t - p) (reader_position reader)
          → Uncounted (lag h) (received h) (told h) n
          → IsCounted (lag h) (received h) (told h) (n + 1) (with_call t call (New k) (n + 1)) reader) where
        abbrev made_shown : Shown V
        made_shown = with_change x (Make kind start)

        abbrev made_tally : BroadcastTally
        made_tally = with_call t call (New k) (n + 1)

        tally_made : IsTallyOf made_shown made_tally (n + 1)
        tally_made = record {
          capacity = are.tally.capacity;
          sent = are.tally.sent;
          few = few_on;
          positions =
              map-append reader_position t.readers (made_reader t call ∷ []) ∙ ap (λ ps. ps ++ reader_position (made_reader t call) ∷ []) are.tally.positions
              ∙ ap (λ o. map position_of x.slots ++ reader_position o ∷ []) made_is ∙ ap (λ o. map position_of x.slots ++ o ∷ []) fits
              ∙ sym (map-append position_of x.slots (Live kind start ∷ []));
        }

        counted_made : (h : ℕ) → IsCounted (lag h) (received h) (told h) (n + 1) made_tally (reader_in made_tally h)
        counted_made h =
            let quiet = idle (New k) counts h refl refl in
            let same : IsSameOf t made_tally = record { capacity = refl; sent = refl; last_send = refl } in
            elim (cases_order h (length t.readers)) [
              | inl last ↦ let before : reader_in t h ≡ None = get_or_past t.readers h None (omega (arith, last)) in
                  let after : reader_in made_tally h ≡ reader =
                  ap (λ j. get_or (t.readers ++ made_reader t call ∷ []) j None) last ∙ get_or-append_seam t.readers (made_reader t call) [] None
                  ∙ made_is in
                  let old : oldest (channel_of x) ≡ oldest_of t = omega (arith, are.tally.sent, are.tally.capacity) in
                  let lag_is : lag h (n + 1) ≡ option_map (λ p. oldest_of t - p) (reader_position reader) =
                  then h ∙ ap (λ o. option_map (λ p. oldest (channel_of x) - p) o)
                  (sym (position_is made_shown made_tally (n + 1) tally_made h) ∙ ap reader_position after)
                  ∙ ap (λ k. option_map (λ p. k - p) (reader_position reader)) old in
                  subst (λ o. IsCounted (lag h) (received h) (told h) (n + 1) made_tally o) (sym after)
                  (makes h quiet lag_is (subst (λ o. IsCounted (lag h) (received h) (told h) n t o) before (are.counted h)))
              | inr (inl below) ↦ untouched made_shown made_tally h same tally_made (get_or_append_left t.readers (made_reader t call ∷ []) None h below) quiet
                  (then h)
              | inr (inr above) ↦ untouched made_shown made_tally h same tally_made
                  (get_or_push_past t.readers h (made_reader t call) None above ∙ sym (get_or_past t.readers h None (omega (arith, above)))) quiet (then h)
            ]

        on_make : AreCounted lag received told (n + 1) made_shown made_tally
        on_make = record { tally = tally_made; counted = counted_made }

      -- what is under a number changes
      module _ (g : ℕ) (slot was : Slot ℕ) (after : Option Reader) (here : slice_get x.slots g ≡ Some was) (fits : reader_position after ≡ position_of slot)
          (then : LagsAs lag received told (n + 1) (record x { slots = set x.slots g slot }))
          (others : (h : ℕ) → h ≢ g → IsIdle (lag h) (received h) (told h) n)
          (own : lag g (n + 1) ≡ option_map (λ p. oldest_of t - p) (reader_position after)
          → IsCounted (lag g) (received g) (told g) (n + 1) (record t { readers = set t.readers g after }) after) where
        abbrev set_shown : Shown V
        set_shown = record x { slots = set x.slots g slot }

        abbrev set_tally : BroadcastTally
        set_tally = record t { readers = set t.readers g after }

        tally_set : IsTallyOf set_shown set_tally (n + 1)
        tally_set = record {
          capacity = are.tally.capacity;
          sent = are.tally.sent;
          few = few_on;
          positions = map-set reader_position t.readers g after ∙ ap (λ ps. set ps g (reader_position after)) are.tally.positions
              ∙ ap (λ o. set (map position_of x.slots) g o) fits
              ∙ sym (map-set position_of x.slots g slot);
        }

        counted_set : (h : ℕ) → IsCounted (lag h) (received h) (told h) (n + 1) set_tally (reader_in set_tally h)
        counted_set h =
            elim (same_or_apart h g) [
              | inl same ↦ let within : g < length t.readers = omega (arith, made_same x t n are.tally, slice_get_within x.slots g was here) in
                  let there : reader_in set_tally g ≡ after = get_or-set_same t.readers g after None within in
                  let old : oldest (channel_of x) ≡ oldest_of t = omega (arith, are.tally.sent, are.tally.capacity) in
                  let lag_is : lag g (n + 1) ≡ option_map (λ p. oldest_of t - p) (reader_position after) =
                  then g ∙ ap (λ o. option_map (λ p. oldest (channel_of x) - p) o)
                  (sym (position_is set_shown set_tally (n + 1) tally_set g) ∙ ap reader_position there)
                  ∙ ap (λ k. option_map (λ p. k - p) (reader_position after)) old in
                  subst (λ j. IsCounted (lag j) (received j) (told j) (n + 1) set_tally (reader_in set_tally j)) (sym same)
                  (subst (λ o. IsCounted (lag g) (received g) (told g) (n + 1) set_tally o) (sym there) (own lag_is))
              | inr apart ↦ untouched set_shown set_tally h (record { capacity = refl; sent = refl; last_send = refl }) tally_set
                  (get_or-set_apart t.readers g h after None apart) (others h apart) (then h)
            ]

        on_set : AreCounted lag received told (n + 1) set_shown set_tally
        on_set = record { tally = tally_set; counted = counted_set }

      -- the receiver at this position
      reader_there : (g p : ℕ) → position x g ≡ Some p → (r : Reader) × (reader_in t g ≡ Some r) × (r.position ≡ Some p)
      reader_there g p at = by_reader (reader_in t g) refl (position_is x t n are.tally g ∙ at) where
        by_reader : (o : Option Reader) → reader_in t g ≡ o → reader_position o ≡ Some p → (r : Reader) × (reader_in t g ≡ Some r) × (r.position ≡ Some p)
        by_reader None found at = absurd cc
        by_reader (Some r) found at = (r, found, at)

      -- a reply to handle g isn't one to another
      to_others : (g : ℕ) → IsOf call g → (r : BReply V) → Counts r → (h : ℕ) → h ≢ g
          → (has (λ k. nat_eq k h) (receiver_in call) ≡ false → receives h (call_of.B call) (reply_of.B r) ≡ false)
          → (has (λ k. nat_eq k h) (receiver_in call) ≡ false → is_told h (call_of.B call) (reply_of.B r) ≡ false) → IsIdle (lag h) (received h) (told h) n
      to_others g of r counts h apart one other =
          let not_h : has (λ k. nat_eq k h) (receiver_in call) ≡ false =
          ap (λ o. has (λ k. nat_eq k h) o) of.receiver ∙ eq_not g h (λ same. apart (sym same)) in
          idle r counts h (one not_h) (other not_h)

      on_read : (g p : ℕ) (v : V) → IsOf call g → slice_get x.slots g ≡ Some (Live Receiver p) → lag_at_position x p ≡ 0 → p < x.sent → Counts (Value v)
          → LagsAs lag received told (n + 1) (with_change x (Move g p (p + 1)))
          → AreCounted lag received told (n + 1) (with_change x (Move g p (p + 1))) (with_call t call (Value v) (n + 1))
      on_read g p v of here none some counts then =
          let found = reader_there g p (ap position_at here) in
          let r : Reader = found.0 in
          let old : oldest_of t - p ≡ 0 = omega (arith, are.tally.sent, are.tally.capacity, none) in
          let counted : Counted (lag g) (received g) (told g) n t r = subst (λ o. IsCounted (lag g) (received g) (told g) n t o) found.1 (are.counted g) in
          let call_is : with_call t call (Value v) (n + 1) ≡ record t { readers = set t.readers g (Some (after_value t r)) } =
          ap (λ o. with_reader t o (option_map (after_value t) (option_and_then (λ h. reader_in t h) o))) of.subject
          ∙ ap (λ o. with_reader t (Some g) (option_map (after_value t) o)) found.1 in
          let sent_test : nat_lt p t.sent ≡ true = lt_is p t.sent (omega (arith, are.tally.sent, some)) in
          let moved : reader_position (Some (after_value t r)) ≡ Some (p + 1) =
          ap (λ o. option_map (λ position. cond (nat_lt position t.sent) (position + 1) position) o) found.2 ∙ ap (λ b. Some (cond b (p + 1) p)) sent_test in
          let own_test : has (λ k. nat_eq k g) (receiver_in call) ≡ true = ap (λ o. has (λ k. nat_eq k g) o) of.receiver ∙ eq_is g g refl in
          subst (λ u. AreCounted lag received told (n + 1) (with_change x (Move g p (p + 1))) u) (sym call_is)
          (on_set g (Live Receiver (p + 1)) (Live Receiver p) (Some (after_value t r)) here moved then
          (λ h apart. to_others g of (Value v) counts h apart (λ not_h. not_h) (λ not_h. refl))
          (λ lag_is. let at_next : lag g (n + 1) ≡ Some (oldest_of t - (p + 1)) = lag_is ∙ ap (λ o. option_map (λ q. oldest_of t - q) o) moved in
          is_read (lag g) (received g) (told g) n t (record t { readers = set t.readers g (Some (after_value t r)) }) r
          (record { capacity = refl; sent = refl; last_send = refl }) counted p found.2 old
          (counts.received_is g ∙ ap (λ b. cond b (received g n + 1) (received g n)) own_test) (counts.told_is g)
          (ap (λ o. unwrap_or o 0) at_next ∙ omega (arith, old))))

      on_tell : (g p k : ℕ) → IsOf call g → slice_get x.slots g ≡ Some (Live Receiver p) → Counts (Lagged k)
          → LagsAs lag received told (n + 1) (with_change x (Move g p (oldest (channel_of x))))
          → AreCounted lag received told (n + 1) (with_change x (Move g p (oldest (channel_of x)))) (with_call t call (Lagged k) (n + 1))
      on_tell g p k of here counts then =
          let found = reader_there g p (ap position_at here) in
          let r : Reader = found.0 in
          let old : oldest_of t ≡ oldest (channel_of x) = omega (arith, are.tally.sent, are.tally.capacity) in
          let counted : Counted (lag g) (received g) (told g) n t r = subst (λ o. IsCounted (lag g) (received g) (told g) n t o) found.1 (are.counted g) in
          let call_is : with_call t call (Lagged k) (n + 1) ≡ record t { readers = set t.readers g (Some (after_lag t r)) } =
          ap (λ o. with_reader t o (option_map (after_lag t) (option_and_then (λ h. reader_in t h) o))) of.subject
          ∙ ap (λ o. with_reader t (Some g) (option_map (after_lag t) o)) found.1 in
          let own_test : has (λ k. nat_eq k g) (receiver_in call) ≡ true = ap (λ o. has (λ k. nat_eq k g) o) of.receiver ∙ eq_is g g refl in
          subst (λ u. AreCounted lag received told (n + 1) (with_change x (Move g p (oldest (channel_of x)))) u) (sym call_is)
          (on_set g (Live Receiver (oldest (channel_of x))) (Live Receiver p) (Some (after_lag t r)) here (ap Some old) then
          (λ h apart. to_others g of (Lagged k) counts h apart (λ not_h. refl) (λ not_h. not_h))
          (λ lag_is. readers.is_told (lag g) (received g) (told g) n t (record t { readers = set t.readers g (Some (after_lag t r)) }) r
          (record { capacity = refl; sent = refl; last_send = refl }) counted
          (counts.received_is g) (counts.told_is g ∙ ap (λ b. cond b (told g n + 1) (told g n)) own_test)
          (ap (λ o. unwrap_or o 0) lag_is ∙ omega arith)))

      on_leave : (g : ℕ) (kind : Kind) (p : ℕ) → subject call ≡ Some g → slice_get x.slots g ≡ Some (Live kind p) → Counts reply.Dropped
          → LagsAs lag received told (n + 1) (with_change x (Leave g kind p))
          → AreCounted lag received told (n + 1) (with_change x (Leave g kind p)) (with_call t call reply.Dropped (n + 1))
      on_leave g kind p of here counts then =
          let call_is : with_call t call reply.Dropped (n + 1) ≡ record t { readers = set t.readers g (option_map (after_drop t) (reader_in t g)) } =
          ap (λ o. with_reader t o (option_map (after_drop t) (option_and_then (λ h. reader_in t h) o))) of in
          let quiet : (h : ℕ) → IsIdle (lag h) (received h) (told h) n = λ h. idle reply.Dropped counts h refl refl in
          subst (λ u. AreCounted lag received told (n + 1) (with_change x (Leave g kind p)) u) (sym call_is)
          (on_set g Spent (Live kind p) (option_map (after_drop t) (reader_in t g)) here (gone (reader_in t g)) then (λ h apart. quiet h)
          (λ lag_is. ended (record t { readers = set t.readers g (option_map (after_drop t) (reader_in t g)) }) (reader_in t g)
          (record { capacity = refl; sent = refl; last_send = refl })
          (lag_is ∙ ap (λ o. option_map (λ q. oldest_of t - q) o) (gone (reader_in t g))) (quiet g) (are.counted g))) where
            gone : (o : Option Reader) → reader_position (option_map (after_drop t) o) ≡ None
            gone None = refl
            gone (Some r) = refl

            ended : (u : BroadcastTally) (o : Option Reader) → IsSameOf t u → lag g (n + 1) ≡ None → IsIdle (lag g) (received g) (told g) n
                → IsCounted (lag g) (received g) (told g) n t o
                → IsCounted (lag g) (received g) (told g) (n + 1) u (option_map (after_drop t) o)
            ended u None same none quiet counted = rests (lag g) (received g) (told g) n t u None same quiet (none ∙ sym (counted.absent n (omega arith)))
                counted
            ended u (Some r) same none quiet counted = is_dropped (lag g) (received g) (told g) n t u r same counted quiet (ap (λ o. unwrap_or o 0) none)

    -- any call
    pub counted_on : (x : Shown V) (t : BroadcastTally) (call : BCall V) (change : Change V) (r : BReply V) → AreCounted lag received told n x t
        → LagsAs lag received told n x → StepsTo x call change r
        → ((h : ℕ) → received h (n + 1) ≡ cond (receives h (call_of.B call) (reply_of.B r)) (received h n + 1) (received h n))
        → ((h : ℕ) → told h (n + 1) ≡ cond (is_told h (call_of.B call) (reply_of.B r)) (told h n + 1) (told h n))
        → LagsAs lag received told (n + 1) (with_change x change) → AreCounted lag received told (n + 1) (with_change x change) (with_call t call r (n + 1))
    counted_on x t call change r are now steps one other then = by_step steps (record { received_is = one; told_is = other }) then where
      by_step : {call : BCall V} {change : Change V} {r : BReply V} → StepsTo x call change r → Counts x t call are now r
          → LagsAs lag received told (n + 1) (with_change x change) → AreCounted lag received told (n + 1) (with_change x change) (with_call t call r (n + 1))
      by_step (keeps {call = call} {reply = r} quiet) counts then = on_keep x t call are now r quiet counts then
      by_step (sends {call = call} {v = v} {n = k}) counts then = on_send x t call are now v k counts then
      by_step (makes_receiver {call = call} {n = k} makes) counts then =
          on_make x t call are now Receiver x.sent k (Some (new_reader t.sent)) (makes t) (ap Some are.tally.sent) counts then
          (λ h quiet lag_is uncounted. is_made (lag h) (received h) (told h) n (with_call t call (New k) (n + 1)) quiet lag_is uncounted)
      by_step (makes_other {call = call} {kind = kind} {n = k} nobody makes) counts then =
          on_make x t call are now kind 0 k None (makes t) (sym nobody) counts then
          (λ h quiet lag_is uncounted. rests (lag h) (received h) (told h) n t (with_call t call (New k) (n + 1)) None
          (record { capacity = refl; sent = refl; last_send = refl }) quiet
          (lag_is ∙ sym (uncounted.absent n (omega arith))) uncounted)
      by_step (reads {call = call} {h = g} {p = p} {v = v} of here none some) counts then = on_read x t call are now g p v of here none some counts then
      by_step (tells {call = call} {h = g} {p = p} {n = k} of here lags) counts then = on_tell x t call are now g p k of here counts then
      by_step (leaves {call = call} {h = g} {kind = kind} {p = p} of here) counts then = on_leave x t call are now g kind p of here counts then
