-- A step on what is shown is the documented step of the record.
use Rattle.std.proofs.Common.{◌≡◌, ℕ, ◌+◌, ◌-◌, ◌<◌, min, Bool, true, false, cond, List, [], ◌∷◌, ◌++◌, length}
use Rattle.std.proofs.Common.{drop, refl, ap, sym, ◌∙◌, subst, arith, length-drop, length-append}
use Rattle.std.specs.Prelude.{Option, slice_get, ◌&&◌, nat_lt, nat_le, replicate}
use Rattle.std.proofs.lemmas.Bool.{ltb-false}
use Rattle.std.proofs.Math.Seq.{drop-append_seam, drop-nil}
use Rattle.std.proofs.lemmas.List.{length_push, length-replicate}
use Rattle.std.proofs.lemmas.List.Elements.{All-push, All-nil}
use Rattle.rw_handles.specs.declared.kinds.Kind.{Kind}
use Rattle.rw_handles.specs.declared.kinds.Kind.TheVariants.{Sender, Receiver}
use Rattle.rw_handles.specs.declared.kinds.Slot.{Slot}
use Rattle.rw_handles.specs.declared.kinds.Slot.TheVariants.{Live}
use Rattle.rw_handles.specs.declared.kinds.Found.{Found}
use Rattle.rw_handles.specs.declared.kinds.Found.TheVariants.{Fault, Handle}
use Rattle.rw_handles.specs.Slots.{lookup}
use Rattle.rw_handles.specs.declared.table.TheConstants.{MOST_HANDLES}
use Rattle.rw_law.proofs.Lists.{slice_get-drop}
use Rattle.rw_broadcast.specs.declared.calls.BCall.{BCall}
use Rattle.rw_broadcast.specs.declared.calls.BCall.TheVariants.{TryRecv, Recv}
use Rattle.rw_broadcast.specs.declared.calls.BReply.{BReply}
use Rattle.rw_broadcast.specs.declared.calls.BReply.TheVariants.{Empty, Waits, TooManyHandles}
use Rattle.rw_broadcast.specs.Arithmetic.{lag}
use Rattle.rw_broadcast.specs.Channel.{Channel, Change, Keep, Append, Make, Move, Leave, oldest, read, receive}
use Rattle.rw_broadcast.specs.Channel.{effect_with, effect_found, effect, handle_of, wanted_kind, makes}
use Rattle.rw_broadcast.specs.Record.{Record, opening_record, after, step}
use Rattle.rw_broadcast.specs.Record as of_record
use Rattle.rw_broadcast.specs.Shown.{Shown, shown, IsAllowed, IsPlaced, next}
use Rattle.rw_broadcast.specs.Shown as of_shown
use Rattle.rw_broadcast.specs.Laws.{shown_after, ShowsItsSteps, ShowsItsRecord, RepliesByRecord, ShowsAllowed, IsShownBySome, IsDocumented}
use Rattle.rw_ring.specs.Windows.{window_after, window_after-drop}
use Rattle.rw_broadcast.specs.Soundness.{broadcast_laws}
use Rattle.rw_broadcast.proofs.Powers.{retained-bounds}

module _ {V : Type 0} (r : Record V) where
  -- the record, and what it shows, as calls read them
  abbrev whole : Channel V
  whole = of_record.channel_of r

  abbrev rest : Channel V
  rest = of_shown.channel_of (shown r)

  -- a retained value is shown
  value_is : (position : ℕ) → lag (oldest whole) position ≡ 0 → rest.value position ≡ whole.value position
  value_is position none =
      let here : oldest whole + (position - oldest whole) ≡ position = omega arith in
      slice_get-drop (oldest whole) r.sent (position - oldest whole) ∙ ap (slice_get r.sent) here

  -- calls read the same from both
  same_receive : (h position : ℕ) (nothing : BReply V) → receive rest h position nothing ≡ receive whole h position nothing
  same_receive h position nothing =
      by_test (nat_lt 0 (lag (oldest whole) position)) _ (rest.value position) (whole.value position)
      (λ none. value_is position (omega (arith, ltb-false 0 (lag (oldest whole) position) none))) where
        by_test : (b : Bool) (e : Change V × BReply V) (o p : Option V) → (b ≡ false → o ≡ p)
            → cond b e (read rest h position o nothing) ≡ cond b e (read whole h position p nothing)
        by_test true e o p same = refl
        by_test false e o p same = ap (λ o. read whole h position o nothing) (same refl)

  same_with : (call : BCall V) (kind : Kind) (position : ℕ) → effect_with rest call kind position ≡ effect_with whole call kind position
  same_with (TryRecv h) kind position = same_receive h position Empty
  same_with (Recv h) kind position = same_receive h position Waits
  same_with _ kind position = refl

  same_found : (call : BCall V) (f : Found ℕ) → effect_found rest call f ≡ effect_found whole call f
  same_found call (Fault f) = refl
  same_found call (Handle kind position) = ap (λ e. cond (makes call && nat_le MOST_HANDLES (length r.slots)) (Keep, TooManyHandles) e)
      (same_with call kind position)

  same_effect : (call : BCall V) → effect rest call ≡ effect whole call
  same_effect call = same_found call (lookup (wanted_kind call) r.slots (handle_of call))

  -- what is shown after a change is what the record after that change shows
  shows_its_change : 0 < r.capacity → (change : Change V) → of_shown.with_change (shown r) change ≡ shown (of_record.with_change r change)
  shows_its_change some Keep = refl
  shows_its_change some (Append v) =
      ap (λ n. record (shown r) { sent = n; window = window_after r.capacity (shown r).window v }) (sym (length_push r.sent v))
      ∙ ap (λ w. record (shown r) { sent = length (r.sent ++ v ∷ []); window = w }) (window_after-drop r.capacity r.sent v some)
  shows_its_change some (Make kind position) = refl
  shows_its_change some (Move h from to) = refl
  shows_its_change some (Leave h kind position) = refl

pub shows_its_steps : (V : Type 0) → ShowsItsSteps V
shows_its_steps V r call some =
    let same = same_effect r call in
    (ap (λ e. e.1) same, ap (λ e. of_shown.with_change (shown r) e.0) same ∙ shows_its_change r some (effect (of_record.channel_of r) call).0)

-- the same for any record that shows x
pub documented : {V : Type 0} (x : Shown V) (call : BCall V) → 0 < x.capacity → IsDocumented x call (of_shown.reply_of x call) (next x call)
documented {V} x call some r shows =
    let here = shows_its_steps V r call (omega (arith, ap (λ (y : Shown V). y.capacity) shows)) in
    let P = λ (y : Shown V). (of_shown.reply_of y call ≡ (step r call).1) × (next y call ≡ shown (step r call).0) in
    subst P shows here

-- what an opening shows is allowed
pub allowed_opening : {V : Type 0} (asked : ℕ) → IsAllowed (shown (opening_record {V = V} asked))
allowed_opening {V} asked = record {
  some_capacity = (retained-bounds asked).0;
  small_capacity = (retained-bounds asked).1;
  retained = omega (arith, length-drop {A = V} (oldest (of_record.channel_of (opening_record {V = V} asked))) []);
  few_slots = omega arith;
  placed = All-push (IsPlaced 0) (Live Sender 0 ∷ []) (Live Receiver 0) (All-push (IsPlaced 0) [] (Live Sender 0) (All-nil (IsPlaced 0)) refl) (omega arith);
}

allowed_after : {V : Type 0} (r : Record V) (calls : List (BCall V)) → IsAllowed (shown r) → IsAllowed (shown (after r calls))
allowed_after r [] ok = ok
allowed_after {V} r (call ∷ calls) ok =
    let here = (shows_its_steps V r call ok.some_capacity).1 in
    let P = λ (x : Shown V). IsAllowed x in
    allowed_after (step r call).0 calls (subst P here ((broadcast_laws {V = V}).next_allowed (shown r) call ok))

pub shows_allowed : (V : Type 0) → ShowsAllowed V
shows_allowed V asked calls = allowed_after (opening_record asked) calls (allowed_opening asked)

shows_after : {V : Type 0} (r : Record V) (calls : List (BCall V)) → IsAllowed (shown r) → shown_after (shown r) calls ≡ shown (after r calls)
shows_after r [] ok = refl
shows_after {V} r (call ∷ calls) ok =
    let here = (shows_its_steps V r call ok.some_capacity).1 in
    let P = λ (x : Shown V). IsAllowed x in
    ap (λ x. shown_after x calls) here ∙ shows_after (step r call).0 calls (subst P here ((broadcast_laws {V = V}).next_allowed (shown r) call ok))

pub shows_its_record : (V : Type 0) → ShowsItsRecord V
shows_its_record V asked calls = shows_after (opening_record asked) calls (allowed_opening asked)

pub replies_by_record : (V : Type 0) → RepliesByRecord V
replies_by_record V asked calls call =
    ap (λ (x : Shown V). of_shown.reply_of x call) (shows_its_record V asked calls)
    ∙ (shows_its_steps V (after (opening_record asked) calls) call (shows_allowed V asked calls).some_capacity).0

-- what a record with these sent values shows
shown_is : {V : Type 0} (capacity sent : ℕ) (all window : List V) (slots : List (Slot ℕ)) → length all ≡ sent → drop (sent - capacity) all ≡ window
    → shown (record { capacity = capacity; sent = all; slots = slots }) ≡ record { capacity = capacity; sent = sent; window = window; slots = slots }
shown_is capacity sent all window slots count last =
    ap (λ n. record { capacity = capacity; sent = n; window = drop (n - capacity) all; slots = slots }) count
    ∙ ap (λ w. record { capacity = capacity; sent = sent; window = w; slots = slots }) last

-- a record that sent the oldest retained value over and over, and then all retained ones
some_record : {V : Type 0} (capacity sent : ℕ) (window : List V) (slots : List (Slot ℕ)) → 0 < capacity → length window ≡ min sent capacity
    → (r : Record V) × (0 < r.capacity) × (shown r ≡ record { capacity = capacity; sent = sent; window = window; slots = slots })
some_record {V} capacity sent [] slots some is =
    let none : List V = [] in
    (record { capacity = capacity; sent = none; slots = slots }, some, shown_is capacity sent none none slots (omega (arith, is)) (drop-nil (sent - capacity)))
some_record {V} capacity sent (v ∷ window) slots some is =
    let before : List V = replicate (sent - capacity) v in
    let many : length before ≡ sent - capacity = length-replicate (sent - capacity) v in
    let last : drop (sent - capacity) (before ++ v ∷ window) ≡ v ∷ window =
    ap (λ n. drop n (before ++ v ∷ window)) (sym many) ∙ drop-append_seam before (v ∷ window) in
    let count : length (before ++ v ∷ window) ≡ sent = omega (arith, length-append before (v ∷ window), is) in (
      record { capacity = capacity; sent = before ++ v ∷ window; slots = slots },
      some,
      shown_is capacity sent (before ++ v ∷ window) (v ∷ window) slots count last,
    )

pub is_shown_by_some : (V : Type 0) → IsShownBySome V
is_shown_by_some V x ok = some_record x.capacity x.sent x.window x.slots ok.some_capacity ok.retained
