-- The search for closings over a run: its beginning, its entries and its lists.
use Rattle.std.proofs.Common.{◌≡◌, ◌≢◌, ℕ, zero, suc, ◌+◌, ◌-◌, ◌<◌, ◌≤◌, ◌^◌, ◌⊎◌, Bool, true, false, cond, List, [], ◌∷◌, ◌++◌}
use Rattle.std.proofs.Common.{length, get_or, set, length-set, take, inl, inr, refl, ap, sym, ◌∙◌, subst, arith}
use Rattle.std.specs.Prelude.{Option, Some, None, MatchOption, is_some, is_none, slice_get, option_map, option_and_then, nat_eq, ◌&&◌, ◌||◌}
use Rattle.std.specs.List.{Contains}
use Rattle.std.proofs.lemmas.Bool.{cases_lt, cases_order}
use Rattle.std.proofs.lemmas.List.{length_push, get_or_append_left, take-take}
use Rattle.std.proofs.lemmas.List.Elements.{All-get_or}
use Rattle.std.proofs.lemmas.List.Sums.{sum_by-take-drop}
use Rattle.std.proofs.lemmas.Option.{slice_get_past, slice_get-map}
use Rattle.std.proofs.Math.Seq.{get_or-append_seam}
use Rattle.rw_handles.specs.declared.table.TheConstants.{MOST_HANDLES}
use Rattle.rw_broadcast.specs.Machine.{position_at}
use Rattle.rw_watch.specs.Machine.{is_seen_at}
use Rattle.rw_world.specs.Kinds.{broadcast_shown, watch_shown}
use Rattle.rw_world.specs.Machines.{ChanShown, of_chan, of_world}
use Rattle.rw_world.specs.Specified.{WorldEntry}
use Rattle.rw_world.specs.Openings.{opening_row, opened_channel}
use Rattle.rw_world.specs.declared.opening.Spec.{Spec}
use Rattle.rw_world.specs.declared.opening.Spec.TheVariants as spec
use Rattle.rw_world.specs.declared.opening.TheConstants.{MOST_CHANNELS}
use Rattle.rw_world.specs.declared.channels.ChanCall.{ChanCall}
use Rattle.rw_world.specs.declared.channels.ChanReply.{ChanReply}
use Rattle.rw_world.proofs.Modifying.{get-modified_other}
use Rattle.rw_navigator.specs.Conditions.{has, closed_at, is_closed, as_watch}
use Rattle.rw_findings.specs.Totals.{count_on}
use Rattle.rw_findings.specs.Closings.{got_by, told_by, gets, is_told_closed, is_there, count_between, IsClosing, IsFirst, IsLate, AreClosingsOf}
use Rattle.rw_findings.specs.declared.closings.closing.Closing.{Closing}
use Rattle.rw_findings.specs.declared.closings.closing.LateReader.{LateReader}
use Rattle.rw_findings.specs.declared.closings.closed_channel.Reader.{Reader}
use Rattle.rw_findings.specs.LateReaders.{ClosedChannel, HasRoom, HaveRoom, HaveFewHandles, opened, new_reader, reader_in, after_receipt}
use Rattle.rw_findings.specs.LateReaders.{after_told, with_change, made_by, readers_there, closed_now, after_entry, with_entry, with_closing}
use Rattle.rw_findings.specs.LateReaders.{with_closings, with_reader, with_readers, with_readers_of, with_all_readers}
use Rattle.rw_findings.proofs.LossSteps.{lag as lag_at_position}
use Rattle.rw_findings.proofs.LossPasses.{lag_in_channel}
use Rattle.rw_findings.proofs.LossEntries.{get-modified, each_at}
use Rattle.rw_findings.proofs.Listed.{IsListed, none_listed, skipped, pushed, next_channel}
use Rattle.rw_findings.proofs.BroadcastTallying.{get_or_past, get_or-set_apart, same_or_apart, eq_is, eq_not}
use Rattle.rw_findings.proofs.TallyRuns.{count_next}
use Rattle.rw_findings.proofs.TallyRooms.{past_end}

-- whether a receiver of a watch has seen its value
abbrev seen_in_channel : {V : Type 0} → Option (ChanShown V) → ℕ → Option Bool
seen_in_channel o h = option_and_then (λ y. is_seen_at y.version (slice_get y.slots h)) (option_and_then as_watch o)

set_map : (change : Reader → Reader) (rs : List (Option Reader)) (g : ℕ)
    → get_or (set rs g (option_map change (get_or rs g None))) g None ≡ option_map change (get_or rs g None)
set_map change [] g = refl
set_map change (x ∷ rs) zero = refl
set_map change (x ∷ rs) (suc g) = set_map change rs g

-- a reader after a change of the one that is named, if one is
changed_reader : (change : Reader → Reader) (k : ClosedChannel) (o : Option ℕ) (h : ℕ)
    → reader_in (with_change change k o) h ≡ cond (has (λ g. nat_eq g h) o) (option_map change (reader_in k h)) (reader_in k h)
changed_reader change k None h = refl
changed_reader change k (Some g) h =
    elim (same_or_apart g h) [
      | inl same ↦ subst (λ j. reader_in (with_change change k (Some g)) j ≡ cond (nat_eq g j) (option_map change (reader_in k j)) (reader_in k j)) same
          (set_map change k.readers g ∙ ap (λ b. cond b (option_map change (reader_in k g)) (reader_in k g)) (sym (eq_is g g refl)))
      | inr apart ↦ get_or-set_apart k.readers g h (option_map change (reader_in k g)) None (λ same. apart (sym same))
          ∙ ap (λ b. cond b (option_map change (reader_in k h)) (reader_in k h)) (sym (eq_not g h apart))
    ]

module _ {V : Type 0} (at : ℕ → List (ChanShown V)) (es : List (WorldEntry V)) where
  abbrev pub got_on : (channel receiver place : ℕ) → ℕ
  got_on c h place = count_on c (gets h) (take place es)

  abbrev pub told_on : (channel receiver place : ℕ) → ℕ
  told_on c h place = count_on c (is_told_closed h) (take place es)

  -- ---- one receiver

  -- where it was first told since the closing
  abbrev pub IsToldBy : (c h closing n : ℕ) → Option ℕ → Type 0
  IsToldBy c h closing n None = told_on c h n ≡ told_on c h closing
  IsToldBy c h closing n (Some p) = (closing < p) × (p ≤ n) × (told_on c h (p - 1) ≡ told_on c h closing) × (told_on c h p ≡ told_on c h closing + 1)

  pub record IsReader (c h closing n : ℕ) (r : Reader) : Type 0 where
    pub there : is_there (at closing) c h ≡ true
    pub read_on : r.read_on + got_on c h closing ≡ got_on c h n
    pub few : r.read_on ≤ n
    pub told : IsToldBy c h closing n r.told

  abbrev pub IsReaderOf : (c h closing n : ℕ) → Option Reader → Type 0
  IsReaderOf c h closing n None = is_there (at closing) c h ≡ false
  IsReaderOf c h closing n (Some r) = IsReader c h closing n r

  told_next : (c h closing n : ℕ) (o : Option ℕ) (b : Bool) → closing ≤ n → told_on c h (n + 1) ≡ cond b (told_on c h n + 1) (told_on c h n)
      → IsToldBy c h closing n o
      → IsToldBy c h closing (n + 1) (cond b (cond (is_none o) (Some (n + 1)) o) o)
  told_next c h closing n None true within next is =
      let back : n + 1 - 1 ≡ n = omega arith in (omega (arith, within), omega arith, ap (λ p. told_on c h p) back ∙ is, next ∙ ap (λ k. k + 1) is)
  told_next c h closing n None false within next is = next ∙ is
  told_next c h closing n (Some p) true within next is = (is.0, omega (arith, is.1), is.2, is.3)
  told_next c h closing n (Some p) false within next is = (is.0, omega (arith, is.1), is.2, is.3)

  -- one receiver and one entry
  reader_next : (c h closing n place : ℕ) (o : Option Reader) (got told : Bool) → place ≡ n + 1 → closing ≤ n
      → got_on c h (n + 1) ≡ cond got (got_on c h n + 1) (got_on c h n) → told_on c h (n + 1) ≡ cond told (told_on c h n + 1) (told_on c h n)
      → IsReaderOf c h closing n o
      → IsReaderOf c h closing (n + 1) (cond told (option_map (after_told place) (cond got (option_map after_receipt o) o))
      (cond got (option_map after_receipt o) o))
  reader_next c h closing n place None true true place_is within gets tells is = is
  reader_next c h closing n place None true false place_is within gets tells is = is
  reader_next c h closing n place None false true place_is within gets tells is = is
  reader_next c h closing n place None false false place_is within gets tells is = is
  reader_next c h closing n place (Some r) true true place_is within gets tells is = record {
    there = is.there;
    read_on = omega (arith, is.read_on, gets);
    few = omega (arith, is.few);
    told = subst (λ p. IsToldBy c h closing (n + 1) (cond (is_none r.told) (Some p) r.told)) (sym place_is)
        (told_next c h closing n r.told true within tells is.told);
  }
  reader_next c h closing n place (Some r) true false place_is within gets tells is = record {
    there = is.there;
    read_on = omega (arith, is.read_on, gets);
    few = omega (arith, is.few);
    told = told_next c h closing n r.told false within tells is.told;
  }
  reader_next c h closing n place (Some r) false true place_is within gets tells is = record {
    there = is.there;
    read_on = is.read_on ∙ sym gets;
    few = omega (arith, is.few);
    told = subst (λ p. IsToldBy c h closing (n + 1) (cond (is_none r.told) (Some p) r.told)) (sym place_is)
        (told_next c h closing n r.told true within tells is.told);
  }
  reader_next c h closing n place (Some r) false false place_is within gets tells is = record {
    there = is.there;
    read_on = is.read_on ∙ sym gets;
    few = omega (arith, is.few);
    told = told_next c h closing n r.told false within tells is.told;
  }

  -- ---- one channel

  -- a channel that is closed
  pub record IsClosed (c n : ℕ) (k : ClosedChannel) : Type 0 where
    pub within : k.place ≤ n
    pub closed : closed_at (at k.place) c ≡ Some true
    pub before : (place : ℕ) → place < k.place → closed_at (at place) c ≡ Some false
    pub few : length k.readers ≤ MOST_HANDLES
    pub readers : (h : ℕ) → IsReaderOf c h k.place n (reader_in k h)

  -- what is kept of channel c at place n, if it is there
  abbrev pub IsKept : (c n : ℕ) → Option (ChanShown V) → Option (Option ClosedChannel) → Type 0
  IsKept c n (Some x) (Some None) = (place : ℕ) → place ≤ n → closed_at (at place) c ≡ Some false
  IsKept c n (Some x) (Some (Some k)) = IsClosed c n k
  IsKept c n None None = Unit {0}
  IsKept c n _ _ = ⊥

  abbrev pub AreKept : ℕ → List (Option ClosedChannel) → Type 0
  AreKept n ks = (c : ℕ) → IsKept c n (slice_get (at n) c) (slice_get ks c)

  below_next : (P : ℕ → Type 0) (n : ℕ) → ((place : ℕ) → place ≤ n → P place) → P (n + 1) → (place : ℕ) → place ≤ n + 1 → P place
  below_next P n before here place within =
      elim (cases_lt place (n + 1)) [
        | inl inside ↦ before place (omega (arith, inside))
        | inr past ↦ let same : n + 1 ≡ place = omega (arith, within, past) in subst P same here
      ]

  -- how a channel's receivers count an entry
  pub record AreCountsOf (c n : ℕ) (got told : Option ℕ) : Type 0 where
    pub got_is : (h : ℕ) → got_on c h (n + 1) ≡ cond (has (λ g. nat_eq g h) got) (got_on c h n + 1) (got_on c h n)
    pub told_is : (h : ℕ) → told_on c h (n + 1) ≡ cond (has (λ g. nat_eq g h) told) (told_on c h n + 1) (told_on c h n)

  closed_next : (c n place : ℕ) (k : ClosedChannel) (got told : Option ℕ) → place ≡ n + 1 → AreCountsOf c n got told → IsClosed c n k
      → IsClosed c (n + 1) (with_change (after_told place) (with_change after_receipt k got) told)
  closed_next c n place k got told place_is counts is =
      let first = with_change after_receipt k got in
      let second = with_change (after_told place) first told in
      let same_first : first.place ≡ k.place = place_same after_receipt k got in
      let same : second.place ≡ k.place = place_same (after_told place) first told ∙ same_first in
      record {
        within = omega (arith, same, is.within);
        closed = ap (λ p. closed_at (at p) c) same ∙ is.closed;
        before = λ p below. is.before p (omega (arith, same, below));
        few = omega (arith, length_same (after_told place) first told, length_same after_receipt k got, is.few);
        readers = λ h.
            let reader_is : reader_in second h ≡ cond (has (λ g. nat_eq g h) told)
            (option_map (after_told place) (cond (has (λ g. nat_eq g h) got) (option_map after_receipt (reader_in k h)) (reader_in k h)))
            (cond (has (λ g. nat_eq g h) got) (option_map after_receipt (reader_in k h)) (reader_in k h)) =
            changed_reader (after_told place) first told h
            ∙ ap (λ o. cond (has (λ g. nat_eq g h) told) (option_map (after_told place) o) o) (changed_reader after_receipt k got h) in
            subst (λ p. IsReaderOf c h p (n + 1) (reader_in second h)) (sym same)
            (subst (λ o. IsReaderOf c h k.place (n + 1) o) (sym reader_is)
            (reader_next c h k.place n place (reader_in k h) (has (λ g. nat_eq g h) got) (has (λ g. nat_eq g h) told) place_is is.within (counts.got_is h)
            (counts.told_is h) (is.readers h)));
      } where
        place_same : (change : Reader → Reader) (k : ClosedChannel) (o : Option ℕ) → (with_change change k o).place ≡ k.place
        place_same change k None = refl
        place_same change k (Some h) = refl

        length_same : (change : Reader → Reader) (k : ClosedChannel) (o : Option ℕ) → length (with_change change k o).readers ≡ length k.readers
        length_same change k None = refl
        length_same change k (Some h) = length-set k.readers h (option_map change (reader_in k h))

  -- the receivers that are there when the channel closes
  length_there : (xs : List (ChanShown V)) (c made : ℕ) → length (readers_there xs c made) ≡ made
  length_there xs c zero = refl
  length_there xs c (suc made) = omega (arith, length_push (readers_there xs c made) (cond (is_there xs c made) (Some new_reader) None), length_there xs c made)

  there_below : (xs : List (ChanShown V)) (c made h : ℕ) → h < made → get_or (readers_there xs c made) h None ≡ cond (is_there xs c h) (Some new_reader) None
  there_below xs c zero h below = absurd (omega (arith, below))
  there_below xs c (suc made) h below =
      let one : Option Reader = cond (is_there xs c made) (Some new_reader) None in
      elim (cases_lt h made) [
        | inl before ↦ get_or_append_left (readers_there xs c made) (one ∷ []) None h (omega (arith, length_there xs c made, before))
            ∙ there_below xs c made h before
        | inr last ↦ let same : h ≡ length (readers_there xs c made) = omega (arith, length_there xs c made, last, below) in
            let same_made : made ≡ h = omega (arith, last, below) in
            ap (λ j. get_or (readers_there xs c made ++ one ∷ []) j None) same ∙ get_or-append_seam (readers_there xs c made) one [] None
            ∙ ap (λ j. cond (is_there xs c j) (Some new_reader) None) same_made
      ]

  -- a number that wasn't made is no receiver
  not_made : (xs : List (ChanShown V)) (c h : ℕ) → made_by (slice_get xs c) ≤ h → is_there xs c h ≡ false
  not_made xs c h past = by_channel (slice_get xs c) refl past where
    by_channel : (o : Option (ChanShown V)) → slice_get xs c ≡ o → made_by o ≤ h → is_there xs c h ≡ false
    by_channel None here past = ap (λ o. is_some (lag_in_channel o h) || is_some (seen_in_channel o h)) here
    by_channel (Some (broadcast_shown x)) here past =
        ap (λ o. is_some (lag_in_channel o h) || is_some (seen_in_channel o h)) here
        ∙ ap (λ s. is_some (option_map (λ p. lag_at_position x p) (position_at s)) || false) (slice_get_past x.slots h past)
    by_channel (Some (watch_shown y)) here past =
        ap (λ o. is_some (lag_in_channel o h) || is_some (seen_in_channel o h)) here
        ∙ ap (λ s. is_some (is_seen_at y.version s)) (slice_get_past y.slots h past)

  -- a channel that closes at this place
  closes_now : (c n : ℕ) → ((place : ℕ) → place ≤ n → closed_at (at place) c ≡ Some false) → closed_at (at (n + 1)) c ≡ Some true
      → made_by (slice_get (at (n + 1)) c) ≤ MOST_HANDLES → IsClosed c (n + 1) (closed_now (at (n + 1)) c (n + 1))
  closes_now c n earlier closed few = record {
    within = omega arith;
    closed = closed;
    before = λ p below. earlier p (omega (arith, below));
    few = omega (arith, length_there (at (n + 1)) c (made_by (slice_get (at (n + 1)) c)), few);
    readers = λ h.
        elim (cases_lt h (made_by (slice_get (at (n + 1)) c))) [
          | inl made ↦ subst (λ o. IsReaderOf c h (n + 1) (n + 1) o) (sym (there_below (at (n + 1)) c (made_by (slice_get (at (n + 1)) c)) h made))
              (by_there h (is_there (at (n + 1)) c h) refl)
          | inr past ↦ subst (λ o. IsReaderOf c h (n + 1) (n + 1) o)
              (sym (get_or_past (readers_there (at (n + 1)) c (made_by (slice_get (at (n + 1)) c))) h None
              (omega (arith, length_there (at (n + 1)) c (made_by (slice_get (at (n + 1)) c)), past))))
              (not_made (at (n + 1)) c h past)
        ];
  } where
    by_there : (h : ℕ) (b : Bool) → is_there (at (n + 1)) c h ≡ b → IsReaderOf c h (n + 1) (n + 1) (cond b (Some new_reader) None)
    by_there h true there = record { there = there; read_on = omega arith; few = omega arith; told = refl }
    by_there h false there = there

  -- ---- an entry

  -- a channel that stays as it is, and that no entry counts for
  idle_kept : (c n : ℕ) (o : Option (ChanShown V)) (k : Option (Option ClosedChannel)) → slice_get (at n) c ≡ o → slice_get (at (n + 1)) c ≡ o
      → AreCountsOf c n None None → IsKept c n o k → IsKept c (n + 1) o k
  idle_kept c n (Some x) (Some None) now then counts kept =
      below_next (λ place. closed_at (at place) c ≡ Some false) n kept (ap (option_map is_closed) (then ∙ sym now) ∙ kept n (omega arith))
  idle_kept c n (Some x) (Some (Some k)) now then counts kept = record {
    within = omega (arith, kept.within);
    closed = kept.closed;
    before = kept.before;
    few = kept.few;
    readers = λ h. by_reader h (reader_in k h) (kept.readers h);
  } where
    by_reader : (h : ℕ) (o : Option Reader) → IsReaderOf c h k.place n o → IsReaderOf c h k.place (n + 1) o
    by_reader h o is = reader_next c h k.place n (n + 1) o false false refl kept.within (counts.got_is h) (counts.told_is h) is
  idle_kept c n (Some x) None now then counts kept = absurd kept
  idle_kept c n None (Some k) now then counts kept = absurd kept
  idle_kept c n None None now then counts kept = tt

  step_kept : (c n place : ℕ) (e : WorldEntry V) (o u : Option (ChanShown V)) (k : Option (Option ClosedChannel)) → place ≡ n + 1 → c ≡ e.call.channel
      → slice_get (at n) c ≡ o → slice_get (at (n + 1)) c ≡ u → is_some u ≡ is_some o
      → made_by u ≤ MOST_HANDLES → AreCountsOf c n (got_by e.call.call e.reply) (told_by e.call.call e.reply) → IsKept c n o k
      → IsKept c (n + 1) u (option_map (after_entry (at (n + 1)) e place) k)
  step_kept c n place e (Some x) (Some z) (Some None) place_is channel now then both few counts kept =
      by_test (closed_at (at (n + 1)) c) refl (ap (option_map is_closed) then) where
        closes : Bool → Option ClosedChannel
        closes b = cond b (Some (closed_now (at (n + 1)) e.call.channel place)) None

        by_test : (o : Option Bool) → closed_at (at (n + 1)) c ≡ o → o ≡ Some (is_closed z)
            → IsKept c (n + 1) (Some z) (Some (after_entry (at (n + 1)) e place None))
        by_test None is some = absurd cc
        by_test (Some true) is some =
            let test : has (λ b. b) (closed_at (at (n + 1)) e.call.channel) ≡ true =
            ap (λ d. has (λ b. b) (closed_at (at (n + 1)) d)) (sym channel) ∙ ap (has (λ b. b)) is in
            let made : made_by (slice_get (at (n + 1)) c) ≤ MOST_HANDLES = subst (λ o. made_by o ≤ MOST_HANDLES) (sym then) few in
            subst (λ k. IsKept c (n + 1) (Some z) (Some k))
            (sym (ap closes test ∙ ap (λ d. Some (closed_now (at (n + 1)) d place)) (sym channel) ∙ ap (λ p. Some (closed_now (at (n + 1)) c p)) place_is))
            (closes_now c n kept is made)
        by_test (Some false) is some =
            let test : has (λ b. b) (closed_at (at (n + 1)) e.call.channel) ≡ false =
            ap (λ d. has (λ b. b) (closed_at (at (n + 1)) d)) (sym channel) ∙ ap (has (λ b. b)) is in
            subst (λ k. IsKept c (n + 1) (Some z) (Some k)) (sym (ap closes test)) (below_next (λ p. closed_at (at p) c ≡ Some false) n kept is)
  step_kept c n place e (Some x) (Some z) (Some (Some k)) place_is channel now then both few counts kept =
      closed_next c n place k (got_by e.call.call e.reply) (told_by e.call.call e.reply) place_is counts kept
  step_kept c n place e (Some x) (Some z) None place_is channel now then both few counts kept = absurd kept
  step_kept c n place e None None None place_is channel now then both few counts kept = tt
  step_kept c n place e None None (Some k) place_is channel now then both few counts kept = absurd kept
  step_kept c n place e (Some x) None k place_is channel now then both few counts kept = absurd cc
  step_kept c n place e None (Some z) k place_is channel now then both few counts kept = absurd cc

  pub kept_on : (n place : ℕ) (e : WorldEntry V) (ks : List (Option ClosedChannel)) → place ≡ n + 1 → n < length es → e ≡ get_or es n e
      → (of_world {V = V}).allowed (at (n + 1)) → at (n + 1) ≡ (of_world {V = V}).next (at n) e.call
      → AreKept n ks → AreKept (n + 1) (with_entry (at (n + 1)) ks e place)
  kept_on n place e ks place_is within read allowed next kept c =
      elim (same_or_apart e.call.channel c) [
        | inl same ↦ subst (λ k. IsKept k (n + 1) (slice_get (at (n + 1)) k) (slice_get (with_entry (at (n + 1)) ks e place) k)) same own
        | inr apart ↦ other c apart
      ] where
        step_of : ChanShown V → ChanShown V
        step_of x = (of_chan {V = V}).next x e.call.call

        counted : (c : ℕ) (test : ChanCall V → ChanReply V → Bool) (b : Bool) → nat_eq e.call.channel c ≡ b
            → count_on c test (take (n + 1) es) ≡ cond (b && test e.call.call e.reply) (count_on c test (take n es) + 1) (count_on c test (take n es))
        counted c test b is = count_next c n test es e within read
            ∙ ap (λ b. cond (b && test e.call.call e.reply) (count_on c test (take n es) + 1) (count_on c test (take n es))) is

        own : IsKept e.call.channel (n + 1) (slice_get (at (n + 1)) e.call.channel) (slice_get (with_entry (at (n + 1)) ks e place) e.call.channel)
        own =
            let k = e.call.channel in
            let shown : slice_get (at (n + 1)) k ≡ option_map step_of (slice_get (at n) k) = ap (λ xs. slice_get xs k) next ∙ get-modified step_of (at n) k in
            let same_test : nat_eq k k ≡ true = eq_is k k refl in
            subst (λ o. IsKept k (n + 1) (slice_get (at (n + 1)) k) o) (sym (get-modified (after_entry (at (n + 1)) e place) ks k))
            (step_kept k n place e (slice_get (at n) k) (slice_get (at (n + 1)) k) (slice_get ks k) place_is refl refl refl
            (ap (λ o. is_some o) shown ∙ some_map step_of (slice_get (at n) k))
            (few_made (slice_get (at (n + 1)) k) (each_at (of_chan {V = V}).allowed (at (n + 1)) k allowed))
            (record { got_is = λ h. counted k (gets h) true same_test; told_is = λ h. counted k (is_told_closed h) true same_test }) (kept k)) where
              some_map : (f : ChanShown V → ChanShown V) (o : Option (ChanShown V)) → is_some (option_map f o) ≡ is_some o
              some_map f None = refl
              some_map f (Some x) = refl

              few_made : (o : Option (ChanShown V)) → MatchOption o (Unit {0}) (of_chan {V = V}).allowed → made_by o ≤ MOST_HANDLES
              few_made None ok = omega arith
              few_made (Some (broadcast_shown x)) ok = let few : length x.slots ≤ MOST_HANDLES = ok.few_slots in few
              few_made (Some (watch_shown y)) ok = let few : length y.slots ≤ MOST_HANDLES = ok.few_slots in few

        other : (c : ℕ) → e.call.channel ≢ c → IsKept c (n + 1) (slice_get (at (n + 1)) c) (slice_get (with_entry (at (n + 1)) ks e place) c)
        other c apart =
            let shown : slice_get (at (n + 1)) c ≡ slice_get (at n) c =
            ap (λ xs. slice_get xs c) next ∙ get-modified_other step_of (at n) e.call.channel c apart in
            let tally : slice_get (with_entry (at (n + 1)) ks e place) c ≡ slice_get ks c =
            get-modified_other (after_entry (at (n + 1)) e place) ks e.call.channel c apart in
            let test : nat_eq e.call.channel c ≡ false = eq_not e.call.channel c apart in
            subst (λ o. IsKept c (n + 1) o (slice_get (with_entry (at (n + 1)) ks e place) c)) (sym shown)
            (subst (λ o. IsKept c (n + 1) (slice_get (at n) c) o) (sym tally)
            (idle_kept c n (slice_get (at n) c) (slice_get ks c) refl shown
            (record { got_is = λ h. counted c (gets h) false test; told_is = λ h. counted c (is_told_closed h) false test }) (kept c)))

  -- ---- lists

  pub between : (c : ℕ) (test : ChanCall V → ChanReply V → Bool) (from to : ℕ) → from ≤ to
      → count_on c test (take from es) + count_between at es c test from to ≡ count_on c test (take to es)
  between c test from to within =
      ap (λ fs. count_on c test fs + count_between at es c test from to) (sym (take-take from to es within)) ∙ sum_by-take-drop _ (take to es) from

  -- the first closing is the only one
  pub one_closing : (c a b : ℕ) → IsClosing at es c a → IsClosing at es c b → a ≡ b
  one_closing c a b first second =
      elim (cases_order a b) [
        | inl same ↦ same
        | inr (inl below) ↦ let e : Some true ≡ Some false = sym first.closed ∙ second.before a below in absurd cc
        | inr (inr above) ↦ let e : Some true ≡ Some false = sym second.closed ∙ first.before b above in absurd cc
      ]

  abbrev last : ℕ
  last = length es

  is_closing : (c : ℕ) (k : ClosedChannel) → IsClosed c last k → IsClosing at es c k.place
  is_closing c k is = record { within = is.within; closed = is.closed; before = is.before }

  -- a receiver that was there
  is_late : (c h : ℕ) (k : ClosedChannel) (r : Reader) → IsClosed c last k → IsReader c h k.place last r
      → IsLate at es (record { channel = c; receiver = h; told = r.told; read_on = r.read_on })
  is_late c h k r is reader = record {
    closing = k.place;
    closes = is_closing c k is;
    there = reader.there;
    told = by_told r.told reader.told;
    read_on = omega (arith, reader.read_on, between c (gets h) k.place last is.within);
  } where
    by_told : (o : Option ℕ) → IsToldBy c h k.place last o → IsFirst at es c (is_told_closed h) k.place o
    by_told None told = omega (arith, told, between c (is_told_closed h) k.place last is.within)
    by_told (Some p) told = (
      told.0,
      omega (arith, told.2, between c (is_told_closed h) k.place (p - 1) (omega (arith, told.0))),
      omega (arith, told.3, between c (is_told_closed h) k.place p (omega (arith, told.0))),
    )

  -- ---- all channels

  module _ (ks : List (Option ClosedChannel)) (kept : AreKept last ks)
      (same_channels : (place c : ℕ) → slice_get (at last) c ≡ None → slice_get (at place) c ≡ None) where
    never_closes : (c place : ℕ) → slice_get (at last) c ≡ None → IsClosing at es c place → ⊥
    never_closes c place none is =
        let e : ◌≡◌ {A = Option Bool} None (Some true) = sym (ap (option_map is_closed) (same_channels place c none)) ∙ is.closed in absurd cc

    stays_open : (c place : ℕ) → ((p : ℕ) → p ≤ last → closed_at (at p) c ≡ Some false) → IsClosing at es c place → ⊥
    stays_open c place earlier is = let e : Some false ≡ Some true = sym (earlier place is.within) ∙ is.closed in absurd cc

    -- why nothing of a channel is in the lists
    not_closed : (c place : ℕ) (o : Option (ChanShown V)) → slice_get (at last) c ≡ o → (k : Option (Option ClosedChannel)) → IsKept c last o k
        → (k ≡ None) ⊎ (k ≡ Some None) → IsClosing at es c place → ⊥
    not_closed c place None here k kept none is = never_closes c place here is
    not_closed c place (Some x) here None kept none is = absurd kept
    not_closed c place (Some x) here (Some None) kept none is = stays_open c place kept is
    not_closed c place (Some x) here (Some (Some k)) kept (inl none) is = absurd cc
    not_closed c place (Some x) here (Some (Some k)) kept (inr none) is = absurd cc

    closed_of : (c : ℕ) (o : Option (ChanShown V)) (k : ClosedChannel) → IsKept c last o (Some (Some k)) → IsClosed c last k
    closed_of c (Some x) k kept = kept
    closed_of c None k kept = absurd kept

    -- the closings
    abbrev channel_of : Closing → ℕ
    channel_of t = t.channel

    abbrev place_of : Closing → ℕ
    place_of t = t.place

    abbrev Closes : Closing → Type 0
    Closes t = IsClosing at es t.channel t.place

    abbrev AreClosed : (c h : ℕ) → List Closing → Type 0
    AreClosed c h list = IsListed channel_of place_of Closes (IsClosing at es) c h list

    skip_to : (c h : ℕ) (list : List Closing) → ((g : ℕ) → g < h → IsClosing at es c g → ⊥) → AreClosed c 0 list → AreClosed c h list
    skip_to c zero list nobody is = is
    skip_to c (suc h) list nobody is = skipped channel_of place_of Closes (IsClosing at es) c h list (nobody h (omega arith))
        (skip_to c h list (λ g below. nobody g (omega (arith, below))) is)

    closing_of : (c : ℕ) (k : Option (Option ClosedChannel)) (list : List Closing) → IsKept c last (slice_get (at last) c) k → AreClosed c 0 list
        → AreClosed (suc c) 0 (with_closing list c k)
    closing_of c None list kept is = next_channel channel_of place_of Closes (IsClosing at es) c 0 list
        (λ g past closing. not_closed c g (slice_get (at last) c) refl None kept (inl refl) closing) is
    closing_of c (Some None) list kept is = next_channel channel_of place_of Closes (IsClosing at es) c 0 list
        (λ g past closing. not_closed c g (slice_get (at last) c) refl (Some None) kept (inr refl) closing) is
    closing_of c (Some (Some k)) list kept is =
        let closing : IsClosing at es c k.place = is_closing c k (closed_of c (slice_get (at last) c) k kept) in
        next_channel channel_of place_of Closes (IsClosing at es) c (suc k.place) (list ++ record { channel = c; place = k.place } ∷ [])
        (λ g past other. omega (arith, past, one_closing c g k.place other closing))
        (pushed channel_of place_of Closes (IsClosing at es) c k.place list (record { channel = c; place = k.place }) refl refl closing
        (skip_to c k.place list (λ g below other. omega (arith, below, one_closing c g k.place other closing)) is))

    more_closings : (c : ℕ) → AreClosed c 0 (with_closings [] ks c)
    more_closings zero = none_listed channel_of place_of Closes (IsClosing at es)
    more_closings (suc c) = closing_of c (slice_get ks c) (with_closings [] ks c) (kept c) (more_closings c)

    -- the receivers
    abbrev reader_channel : LateReader → ℕ
    reader_channel t = t.channel

    abbrev reader_number : LateReader → ℕ
    reader_number t = t.receiver

    abbrev IsWanted : (channel receiver : ℕ) → Type 0
    IsWanted c h = (closing : ℕ) × IsClosing at es c closing × (is_there (at closing) c h ≡ true)

    abbrev AreLate : (c h : ℕ) → List LateReader → Type 0
    AreLate c h list = IsListed reader_channel reader_number (IsLate at es) IsWanted c h list

    one_reader : (c h : ℕ) (k : ClosedChannel) (list : List LateReader) (o : Option Reader) → IsClosed c last k → IsReaderOf c h k.place last o
        → AreLate c h list → AreLate c (suc h) (with_reader list c h o)
    one_reader c h k list None closed nobody is =
        skipped reader_channel reader_number (IsLate at es) IsWanted c h list
        (λ wanted. let same : wanted.0 ≡ k.place = one_closing c wanted.0 k.place wanted.1 (is_closing c k closed) in
        let e : false ≡ true = sym nobody ∙ ap (λ p. is_there (at p) c h) (sym same) ∙ wanted.2 in absurd cc) is
    one_reader c h k list (Some r) closed reader is =
        pushed reader_channel reader_number (IsLate at es) IsWanted c h list (record { channel = c; receiver = h; told = r.told; read_on = r.read_on }) refl
        refl (is_late c h k r closed reader) is

    more_readers : (c : ℕ) (k : ClosedChannel) (list : List LateReader) → IsClosed c last k → AreLate c 0 list → (h : ℕ) → AreLate c h (with_readers list k c h)
    more_readers c k list closed is zero = is
    more_readers c k list closed is (suc h) = one_reader c h k (with_readers list k c h) (reader_in k h) closed (closed.readers h)
        (more_readers c k list closed is h)

    past_readers : (c g : ℕ) (k : ClosedChannel) → IsClosed c last k → length k.readers ≤ g → IsWanted c g → ⊥
    past_readers c g k closed past wanted =
        let same : wanted.0 ≡ k.place = one_closing c wanted.0 k.place wanted.1 (is_closing c k closed) in
        let nobody : is_there (at k.place) c g ≡ false = subst (λ o. IsReaderOf c g k.place last o) (get_or_past k.readers g None past) (closed.readers g) in
        let e : false ≡ true = sym nobody ∙ ap (λ p. is_there (at p) c g) (sym same) ∙ wanted.2 in absurd cc

    readers_of : (c : ℕ) (k : Option (Option ClosedChannel)) (list : List LateReader) → IsKept c last (slice_get (at last) c) k → AreLate c 0 list
        → AreLate (suc c) 0 (with_readers_of list k c)
    readers_of c None list kept is = next_channel reader_channel reader_number (IsLate at es) IsWanted c 0 list
        (λ g past wanted. not_closed c wanted.0 (slice_get (at last) c) refl None kept (inl refl) wanted.1) is
    readers_of c (Some None) list kept is = next_channel reader_channel reader_number (IsLate at es) IsWanted c 0 list
        (λ g past wanted. not_closed c wanted.0 (slice_get (at last) c) refl (Some None) kept (inr refl) wanted.1) is
    readers_of c (Some (Some k)) list kept is =
        let closed : IsClosed c last k = closed_of c (slice_get (at last) c) k kept in
        next_channel reader_channel reader_number (IsLate at es) IsWanted c (length k.readers) (with_readers list k c (length k.readers))
        (λ g past wanted. past_readers c g k closed past wanted) (more_readers c k list closed is (length k.readers))

    all_readers_to : (c : ℕ) → AreLate c 0 (with_all_readers [] ks c)
    all_readers_to zero = none_listed reader_channel reader_number (IsLate at es) IsWanted
    all_readers_to (suc c) = readers_of c (slice_get ks c) (with_all_readers [] ks c) (kept c) (all_readers_to c)

    -- a channel that closes has its place in the list
    within_channels : (c place : ℕ) → IsClosing at es c place → c < length ks
    within_channels c place is =
        elim (cases_lt c (length ks)) [
          | inl inside ↦ inside
          | inr past ↦ absurd (not_closed c place (slice_get (at last) c) refl (slice_get ks c) (kept c) (inl (slice_get_past ks c past)) is)
        ]

    pub all_closings : AreClosingsOf at es (with_closings [] ks (length ks)) (with_all_readers [] ks (length ks))
    all_closings =
        let closings = more_closings (length ks) in
        let readers = all_readers_to (length ks) in
        record {
          each = closings.each;
          all = λ channel place is.
              let found = closings.all channel place (inl (within_channels channel place is)) is in
              subst (λ d. Contains (with_closings [] ks (length ks)) (record { channel = d; place = place })) found.2
              (subst (λ p. Contains (with_closings [] ks (length ks)) (record { channel = found.0.channel; place = p })) found.3 found.1);
          ordered = λ i j d below within.
              by_order (get_or (with_closings [] ks (length ks)) i d) (get_or (with_closings [] ks (length ks)) j d) (closings.ordered i j d below within)
              (All-get_or Closes (with_closings [] ks (length ks)) i d (omega (arith, below, within)) closings.each)
              (All-get_or Closes (with_closings [] ks (length ks)) j d within closings.each);
          each_reader = readers.each;
          all_readers = λ channel receiver closing is there.
              let found = readers.all channel receiver (inl (within_channels channel closing is)) (closing, is, there) in (
                found.0.told,
                found.0.read_on,
                subst (λ d. Contains (with_all_readers [] ks (length ks))
                    (record { channel = d; receiver = receiver; told = found.0.told; read_on = found.0.read_on })) found.2
                    (subst (λ g. Contains (with_all_readers [] ks (length ks))
                    (record { channel = found.0.channel; receiver = g; told = found.0.told; read_on = found.0.read_on })) found.3 found.1),
              );
          ordered_readers = readers.ordered;
        } where
          by_order : (a b : Closing) → (a.channel < b.channel) ⊎ ((a.channel ≡ b.channel) × (a.place < b.place)) → Closes a → Closes b → a.channel < b.channel
          by_order a b (inl smaller) first second = smaller
          by_order a b (inr this) first second =
              let same : a.place ≡ b.place = one_closing b.channel a.place b.place (subst (λ c. IsClosing at es c a.place) this.0 first) second in
              absurd (omega (arith, same, this.1))

  -- ---- the beginning

  pub first_kept : (specs : List (Spec V)) → at 0 ≡ opening_row specs → AreKept 0 (opened specs)
  first_kept specs opening c = by_spec (slice_get specs c) refl where
    at_0 : (P : ℕ → Type 0) → P 0 → (place : ℕ) → place ≤ 0 → P place
    at_0 P here place within = let same : 0 ≡ place = omega (arith, within) in subst P same here

    is_open : (spec : Spec V) → is_closed (opened_channel spec) ≡ false
    is_open (spec.Broadcast capacity) = refl
    is_open (spec.Watch init) = refl

    by_spec : (o : Option (Spec V)) → slice_get specs c ≡ o → IsKept c 0 (slice_get (at 0) c) (slice_get (opened specs) c)
    by_spec (Some spec) found =
        let shown : slice_get (at 0) c ≡ Some (opened_channel spec) =
        ap (λ xs. slice_get xs c) opening ∙ slice_get-map opened_channel specs c ∙ ap (option_map opened_channel) found in
        let channel : slice_get (opened specs) c ≡ Some None = slice_get-map (λ s. None) specs c ∙ ap (option_map (λ s. None)) found in
        subst (λ o. IsKept c 0 o (slice_get (opened specs) c)) (sym shown)
        (subst (λ k. IsKept c 0 (Some (opened_channel spec)) k) (sym channel)
        (at_0 (λ place. closed_at (at place) c ≡ Some false) (ap (option_map is_closed) shown ∙ ap Some (is_open spec))))
    by_spec None found =
        let shown : slice_get (at 0) c ≡ None = ap (λ xs. slice_get xs c) opening ∙ slice_get-map opened_channel specs c
        ∙ ap (option_map opened_channel) found in
        let channel : slice_get (opened specs) c ≡ None = slice_get-map (λ s. None) specs c ∙ ap (option_map (λ s. None)) found in
        subst (λ o. IsKept c 0 o (slice_get (opened specs) c)) (sym shown) (subst (λ k. IsKept c 0 None k) (sym channel) tt)

  -- ---- room

  pub have_room : (n : ℕ) (ks : List (Option ClosedChannel)) → n < 2 ^ 60 → AreKept n ks → HaveRoom ks
  have_room n ks few kept c o there = room_of (slice_get (at n) c) o (subst (λ k. IsKept c n (slice_get (at n) c) k) there (kept c)) where
    room_of : (x : Option (ChanShown V)) (o : Option ClosedChannel) → IsKept c n x (Some o) → HasRoom o
    room_of x None kept = tt
    room_of (Some x) (Some k) kept = λ h r found. by_reader h r (reader_in k h) found (kept.readers h) where
      by_reader : (h : ℕ) (r : Reader) (o : Option Reader) → o ≡ Some r → IsReaderOf c h k.place n o → r.read_on < 2 ^ 63
      by_reader h r None found is = absurd cc
      by_reader h r (Some s) found is = let same : s ≡ r = cc in let small : s.read_on < 2 ^ 63 = omega (arith, is.few, few) in
          subst (λ (q : Reader). q.read_on < 2 ^ 63) same small
    room_of None (Some k) kept = absurd kept

  pub few_handles : (n : ℕ) (ks : List (Option ClosedChannel)) → AreKept n ks → HaveFewHandles ks
  few_handles n ks kept c k there = few_of (slice_get (at n) c) (subst (λ o. IsKept c n (slice_get (at n) c) o) there (kept c)) where
    few_of : (x : Option (ChanShown V)) → IsKept c n x (Some (Some k)) → length k.readers ≤ MOST_HANDLES
    few_of (Some x) kept = kept.few
    few_of None kept = absurd kept

  pub few_channels : (n : ℕ) (ks : List (Option ClosedChannel)) → length (at n) ≤ MOST_CHANNELS → AreKept n ks → length ks ≤ MOST_CHANNELS
  few_channels n ks channels kept = by_channel (slice_get (at n) (length (at n))) (slice_get ks (length (at n)))
      (slice_get_past (at n) (length (at n)) (omega arith)) refl (kept (length (at n))) where
        by_channel : (o : Option (ChanShown V)) (k : Option (Option ClosedChannel)) → o ≡ None → slice_get ks (length (at n)) ≡ k → IsKept (length (at n)) n o k
            → length ks ≤ MOST_CHANNELS
        by_channel None None none there kept = omega (arith, past_end ks (length (at n)) there, channels)
        by_channel None (Some t) none there kept = absurd kept
        by_channel (Some x) k none there kept = absurd cc
