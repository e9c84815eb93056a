-- The search for losses over a run: its beginning, its entries, its end, and the order of the list.
use Rattle.std.proofs.Common.{◌≡◌, ◌≢◌, ℕ, zero, suc, ◌+◌, ◌-◌, ◌<◌, ◌≤◌, ◌⊎◌, Bool, true, false, cond, List, [], ◌∷◌, length}
use Rattle.std.proofs.Common.{get_or, set, length-set, take, inl, inr, refl, ap, sym, ◌∙◌, subst, arith}
use Rattle.std.specs.Prelude.{Option, Some, None, MatchOption, unwrap_or, slice_get, option_map, nat_eq, nat_lt}
use Rattle.std.specs.List as lists
use Rattle.std.specs.List.{All}
use Rattle.std.specs.List.Sorted.{IsPermutation, IsNonDecreasingBy}
use Rattle.std.proofs.lemmas.Bool.{cases_order, cases_eq, ltb-false}
use Rattle.std.proofs.lemmas.List.{length-map}
use Rattle.std.proofs.lemmas.List.Edits.{Swapped, swapped_from_swap}
use Rattle.std.proofs.lemmas.List.Elements.{All-get_or, All-weaker}
use Rattle.std.proofs.lemmas.List.Sorted.{IsPermutation-keeps, All-permutation, Contains-permutation}
use Rattle.std.proofs.lemmas.Option.{slice_get_within, slice_get-get_or}
use Rattle.rw_handles.specs.declared.table.TheConstants.{MOST_HANDLES}
use Rattle.rw_journal.specs.Run.{Run}
use Rattle.rw_law.specs.Journal.{after_all, after, IsLegal, IsStep}
use Rattle.rw_law.proofs.Journals.{after_more, step_at, after_all-allowed}
use Rattle.rw_world.specs.Channel.{no_channel}
use Rattle.rw_world.specs.Kinds.{broadcast_shown, watch_shown}
use Rattle.rw_world.specs.Machines.{ChanShown, of_chan, of_world}
use Rattle.rw_world.specs.Openings.{opening_row, opened_channel, refusal}
use Rattle.rw_world.specs.Records.{ShowsAtPlaces}
use Rattle.rw_world.specs.RowLaws.{row_laws}
use Rattle.rw_world.specs.Specified.{WorldEntry}
use Rattle.rw_world.specs.declared.opening.TheConstants.{MOST_CHANNELS}
use Rattle.rw_world.specs.declared.opening.OpenFault.{OpenFault}
use Rattle.rw_world.specs.declared.opening.OpenFault.TheVariants.{NoChannels, TooManyChannels}
use Rattle.rw_world.specs.declared.opening.Spec.{Spec}
use Rattle.rw_world.specs.declared.opening.Spec.TheVariants.{Broadcast, Watch}
use Rattle.rw_world.proofs.Documenting.{chan_laws, AreAllowed, allowed_opened, shows_opened}
use Rattle.rw_world.proofs.Modifying.{length-modified}
use Rattle.rw_navigator.specs.Conditions.{lag_at}
use Rattle.rw_navigator.specs.Places.{last_place, shown_at}
use Rattle.rw_findings.specs.declared.losses.loss.Loss.{Loss}
use Rattle.rw_findings.specs.declared.losses.loss.LossEnd.{LossEnd}
use Rattle.rw_findings.specs.declared.losses.loss.LossEnd.TheVariants.{Told, Dropped, Open}
use Rattle.rw_findings.specs.Losses.{stop_of, lag_of, EndsAs, IsStretch, IsLoss, ComesBefore, AreLosses, order_of}
use Rattle.rw_findings.specs.LossTracks.{Track, opened_tracks, with_entry, loss_of_entry, with_loss, with_open, HasFewHandles}
use Rattle.rw_findings.proofs.LossSteps.{position_of, position, lag}
use Rattle.rw_findings.proofs.LossStretches.{IsDistinct, same_stretch, AreThose, none_of}
use Rattle.rw_findings.proofs.LossPasses.{lag_in_channel, IsTracked, Since}
use Rattle.rw_findings.proofs.LossEntries.{lags_at, IsPassed, passed_on, each_at}
use Rattle.rw_findings.proofs.LossEndings.{within_slots, all_found}

-- ---- lists whose elements all differ, in another order

abbrev Differ : {X : Type 0} → List X → Type 0
Differ {X} xs = (d : X) (i j : ℕ) → i < length xs → j < length xs → i ≢ j → get_or xs i d ≢ get_or xs j d

differ_from : {X : Type 0} (xs : List X) → IsDistinct xs → Differ xs
differ_from xs distinct d i j one other apart same =
    elim (cases_order i j) [
      | inl equal ↦ apart equal
      | inr (inl below) ↦ distinct i j d below other same
      | inr (inr above) ↦ distinct j i d above one (sym same)
    ]

-- where the element at k was before two changed places
abbrev WasAt : (a b k j : ℕ) → Type 0
WasAt a b k j = ((k ≡ a) × (j ≡ b)) ⊎ (((k ≡ b) × (j ≡ a)) ⊎ ((k ≢ a) × (k ≢ b) × (j ≡ k)))

was_at : {X : Type 0} (f g : ℕ → X) (n a b k : ℕ) → Swapped f g a b → a < n → b < n → k < n → (j : ℕ) × (j < n) × (g k ≡ f j) × WasAt a b k j
was_at f g n a b k swapped first second within =
    elim (cases_eq k a) [
      | inl at_a ↦ (b, second, ap g at_a ∙ swapped.0, inl (at_a, refl))
      | inr not_a ↦ elim (cases_eq k b) [
        | inl at_b ↦ (a, first, ap g at_b ∙ swapped.1, inr (inl (at_b, refl)))
        | inr not_b ↦ (k, within, swapped.2 k not_a not_b, inr (inr (not_a, not_b, refl)))
      ]
    ]

one_place : (a b k l i j : ℕ) → WasAt a b k i → WasAt a b l j → i ≡ j → k ≡ l
one_place a b k l i j (inl p) (inl q) same = omega (arith, p.0, q.0)
one_place a b k l i j (inl p) (inr (inl q)) same = omega (arith, p.0, p.1, q.0, q.1, same)
one_place a b k l i j (inl p) (inr (inr q)) same = absurd (q.1 (omega (arith, p.1, q.2, same)))
one_place a b k l i j (inr (inl p)) (inl q) same = omega (arith, p.0, p.1, q.0, q.1, same)
one_place a b k l i j (inr (inl p)) (inr (inl q)) same = omega (arith, p.0, q.0)
one_place a b k l i j (inr (inl p)) (inr (inr q)) same = absurd (q.0 (omega (arith, p.1, q.2, same)))
one_place a b k l i j (inr (inr p)) (inl q) same = absurd (p.1 (omega (arith, p.2, q.1, same)))
one_place a b k l i j (inr (inr p)) (inr (inl q)) same = absurd (p.0 (omega (arith, p.2, q.1, same)))
one_place a b k l i j (inr (inr p)) (inr (inr q)) same = omega (arith, p.2, q.2, same)

differ_swapped : {X : Type 0} (xs : List X) (a b : ℕ) → a < length xs → b < length xs → Differ xs → length (lists.swap xs a b) ≡ length xs
    → Differ (lists.swap xs a b)
differ_swapped xs a b first second differ long d i j one other apart same =
    let swapped = swapped_from_swap xs (lists.swap xs a b) a b d first second refl in
    let k = was_at (λ n. get_or xs n d) (λ n. get_or (lists.swap xs a b) n d) (length xs) a b i swapped first second (omega (arith, one, long)) in
    let l = was_at (λ n. get_or xs n d) (λ n. get_or (lists.swap xs a b) n d) (length xs) a b j swapped first second (omega (arith, other, long)) in
    differ d k.0 l.0 k.1 l.1 (λ equal. apart (one_place a b i j k.0 l.0 k.3 l.3 equal)) (sym k.2 ∙ same ∙ l.2)

length_swap : {X : Type 0} (xs : List X) (a b : ℕ) → length (lists.swap xs a b) ≡ length xs
length_swap [] a b = refl
length_swap (x ∷ xs) a b = length-set (set (x ∷ xs) a (get_or (x ∷ xs) b x)) b (get_or (x ∷ xs) a x) ∙ length-set (x ∷ xs) a (get_or (x ∷ xs) b x)

-- where the lags are the same, so are the stretches
again : (of og : (channel receiver place : ℕ) → Option ℕ) (last : ℕ) → ((c h p : ℕ) → of c h p ≡ og c h p) → (loss : Loss) → IsStretch of last loss
    → IsStretch og last loss
again of og last same loss is =
    let lag_same : (c h p : ℕ) → lag_of of c h p ≡ lag_of og c h p = λ c h p. ap (λ o. unwrap_or o 0) (same c h p) in
    record {
      before = sym (lag_same loss.channel loss.receiver (loss.from - 1)) ∙ is.before;
      some = is.some;
      lags = λ place above below. subst (λ n. 0 < n) (lag_same loss.channel loss.receiver place) (is.lags place above below);
      ends = by_end loss.end is.ends;
      lost = sym (lag_same loss.channel loss.receiver (stop_of last loss.end - 1)) ∙ is.lost;
    } where
      by_end : (end : LossEnd) → EndsAs of last loss.channel loss.receiver end → EndsAs og last loss.channel loss.receiver end
      by_end (Told place) ends = (ends.0, sym (same loss.channel loss.receiver place) ∙ ends.1)
      by_end (Dropped place) ends = (ends.0, sym (same loss.channel loss.receiver place) ∙ ends.1)
      by_end Open ends = tt

-- ---- the world of a run

module _ {V : Type 0} where
  length_after : (xs : List (ChanShown V)) (es : List (WorldEntry V)) → length (after_all of_world xs es) ≡ length xs
  length_after xs [] = refl
  length_after xs (e ∷ es) = length_after ((of_world {V = V}).next xs e.call) es ∙ length-modified (λ x. (of_chan {V = V}).next x e.call.call) xs e.call.channel

  -- what is shown at the places of a run
  abbrev pub at_place : Run V → ℕ → List (ChanShown V)
  at_place run n = after of_world (opening_row run.specs) run.entries n

  pub length_at : (run : Run V) (n : ℕ) → length (at_place run n) ≡ length run.specs
  length_at run n = length_after (opening_row run.specs) (take n run.entries) ∙ length-map run.specs opened_channel

  pub allowed_at : (run : Run V) (n : ℕ) → (of_world {V = V}).allowed (at_place run n)
  allowed_at run n =
      let opening : (of_world {V = V}).allowed (opening_row run.specs) = subst (λ xs. AreAllowed xs) (shows_opened run.specs) (allowed_opened run.specs) in
      after_all-allowed of_world (row_laws of_chan no_channel chan_laws) (opening_row run.specs) (take n run.entries) opening

  pub few_specs : (specs : List (Spec V)) → refusal specs ≡ None → length specs ≤ MOST_CHANNELS
  few_specs specs opens = ltb-false MOST_CHANNELS (length specs) (not_many (nat_eq (length specs) 0) (nat_lt MOST_CHANNELS (length specs)) _ opens) where
    not_many : (a b : Bool) (rest : Option OpenFault) → cond a (Some NoChannels) (cond b (Some TooManyChannels) rest) ≡ None → b ≡ false
    not_many true b rest h = absurd cc
    not_many false true rest h = absurd cc
    not_many false false rest h = refl

  -- ---- the beginning

  tracked_first : (specs : List (Spec V)) (c : ℕ) → IsTracked (slice_get (opening_row specs) c) (slice_get (opened_tracks specs) c)
  tracked_first [] c = tt
  tracked_first (Broadcast capacity ∷ specs) zero = record { capacity = refl; sends = refl; positions = refl }
  tracked_first (Watch init ∷ specs) zero = tt
  tracked_first (spec ∷ specs) (suc c) = tracked_first specs c

  since_first : (of : (channel receiver place : ℕ) → Option ℕ) (last c : ℕ) (specs : List (Spec V)) (k : ℕ)
      → Since of last c 0 (slice_get (opening_row specs) k) (slice_get (opened_tracks specs) k)
  since_first of last c [] k = tt
  since_first of last c (Broadcast capacity ∷ specs) zero = λ h p here lags. absurd (omega (arith, lags))
  since_first of last c (Watch init ∷ specs) zero = tt
  since_first of last c (spec ∷ specs) (suc k) = since_first of last c specs k

  pub passed_first : (run : Run V) (ts : List (Option Track)) → ts ≡ opened_tracks run.specs → IsPassed (at_place run) (last_place run) 0 ts []
  passed_first run ts opened =
      let last = last_place run in
      subst (λ us. IsPassed (at_place run) last 0 us []) (sym opened) (record {
        tracked = λ c. tracked_first run.specs c;
        since = λ c. since_first (lags_at (at_place run) last) last c run.specs c;
        found = none_of (lags_at (at_place run) last) last (λ loss. stop_of last loss.end ≤ 0) (λ loss is done. omega (arith, is.some, done));
      })

  -- ---- an entry

  pub passed_entry : (run : Run V) (n : ℕ) (e : WorldEntry V) (ts : List (Option Track)) (losses : List Loss)
      → IsLegal of_world (opening_row run.specs) run.entries → n < length run.entries → e ≡ get_or run.entries n e
      → IsPassed (at_place run) (last_place run) n ts losses
      → IsPassed (at_place run) (last_place run) (n + 1) (with_entry ts e (n + 1)) (with_loss losses (loss_of_entry ts e (n + 1)))
  passed_entry run n e ts losses legal within read passed =
      let next : at_place run (n + 1) ≡ (of_world {V = V}).next (at_place run n) e.call =
      after_more of_world (opening_row run.specs) run.entries n e within
      ∙ ap (λ (f : WorldEntry V). (of_world {V = V}).next (at_place run n) f.call) (sym read) in
      let step : IsStep of_world (at_place run n) e =
      subst (λ f. IsStep of_world (at_place run n) f) (sym read) (step_at of_world (opening_row run.specs) run.entries n e legal within) in
      passed_on (at_place run) (last_place run) n ts losses e.call e.reply (omega (arith, within)) (allowed_at run n) next step.reply passed

  -- ---- the end

  module _ (run : Run V) (ts : List (Option Track)) (losses : List Loss) (opens : refusal run.specs ≡ None)
      (passed : IsPassed (at_place run) (last_place run) (last_place run) ts losses) where
    -- each track is that of a channel
    few_tracks_of : (n : ℕ) → length ts ≡ n → n ≤ MOST_CHANNELS
    few_tracks_of zero long = omega arith
    few_tracks_of (suc n) long =
        let there : n < length (at_place run (last_place run)) =
        by_channel (slice_get (at_place run (last_place run)) n) (slice_get ts n) refl refl (passed.tracked n) in
        omega (arith, there, length_at run (last_place run), few_specs run.specs opens) where
          by_channel : (o : Option (ChanShown V)) (to : Option (Option Track)) → slice_get (at_place run (last_place run)) n ≡ o → slice_get ts n ≡ to
              → IsTracked o to → n < length (at_place run (last_place run))
          by_channel (Some x) to here there is = slice_get_within (at_place run (last_place run)) n x here
          by_channel None (Some to) here there is = absurd is
          by_channel None None here there is =
              let found : slice_get ts n ≡ Some (get_or ts n None) = slice_get-get_or ts n None (omega (arith, long)) in
              let e : ◌≡◌ {A = Option (Option Track)} None (Some (get_or ts n None)) = sym there ∙ found in
              absurd cc

    pub few_tracks : length ts ≤ MOST_CHANNELS
    few_tracks = few_tracks_of (length ts) refl

    pub few_handles : HasFewHandles ts
    few_handles c t there = by_channel (slice_get (at_place run (last_place run)) c) (slice_get ts c) there (passed.tracked c)
        (each_at (of_chan {V = V}).allowed (at_place run (last_place run)) c (allowed_at run (last_place run))) where
          by_channel : (o : Option (ChanShown V)) (to : Option (Option Track)) → to ≡ Some (Some t) → IsTracked o to
              → MatchOption o (Unit {0}) (of_chan {V = V}).allowed → length t.positions ≤ MOST_HANDLES
          by_channel (Some (broadcast_shown x)) (Some (Some u)) same is ok =
              let u_is : u ≡ t = cc in
              let many : length u.positions ≡ length x.slots = ap length is.positions ∙ length-map x.slots position_of in
              let few : length x.slots ≤ MOST_HANDLES = ok.few_slots in
              subst (λ v. length v.positions ≤ MOST_HANDLES) u_is (omega (arith, many, few))
          by_channel (Some (broadcast_shown x)) (Some None) same is ok = absurd is
          by_channel (Some (broadcast_shown x)) None same is ok = absurd is
          by_channel (Some (watch_shown y)) (Some (Some u)) same is ok = absurd is
          by_channel (Some (watch_shown y)) (Some None) same is ok = absurd cc
          by_channel (Some (watch_shown y)) None same is ok = absurd is
          by_channel None (Some u) same is ok = absurd is
          by_channel None None same is ok = absurd cc

    -- the channel and the receiver of a loss are there
    there_at : (c h p : ℕ) → 0 < lag_of (lags_at (at_place run) (last_place run)) c h p → (c < MOST_CHANNELS) × (h < MOST_HANDLES)
    there_at c h p lags = by_channel (slice_get (at_place run p) c) refl (each_at (of_chan {V = V}).allowed (at_place run p) c (allowed_at run p)) where
      by_channel : (o : Option (ChanShown V)) → slice_get (at_place run p) c ≡ o → MatchOption o (Unit {0}) (of_chan {V = V}).allowed
          → (c < MOST_CHANNELS) × (h < MOST_HANDLES)
      by_channel (Some (broadcast_shown x)) here ok =
          let lags_here : 0 < unwrap_or (option_map (λ q. lag x q) (position x h)) 0 = subst (λ o. 0 < unwrap_or (lag_in_channel o h) 0) here lags in
          let few : length x.slots ≤ MOST_HANDLES = ok.few_slots in (
            omega (arith, slice_get_within (at_place run p) c (broadcast_shown x) here, length_at run p, few_specs run.specs opens),
            omega (arith, within_slots x h lags_here, few),
          )
      by_channel (Some (watch_shown y)) here ok = let none : lag_of (lags_at (at_place run) (last_place run)) c h p ≡ 0 =
          ap (λ o. unwrap_or (lag_in_channel o h) 0) here in absurd (omega (arith, none, lags))
      by_channel None here ok = let none : lag_of (lags_at (at_place run) (last_place run)) c h p ≡ 0 = ap (λ o. unwrap_or (lag_in_channel o h) 0) here in
          absurd (omega (arith, none, lags))

    -- ---- the order

    -- losses that are sorted in order and differ
    comes_before : (a b : Loss) → IsStretch (lags_at (at_place run) (last_place run)) (last_place run) a
        → IsStretch (lags_at (at_place run) (last_place run)) (last_place run) b
        → order_of a ≤ order_of b → a ≢ b → ComesBefore a b
    comes_before a b is_a is_b order apart =
        let a_there = there_at a.channel a.receiver a.from (is_a.lags a.from (omega arith) is_a.some) in
        let b_there = there_at b.channel b.receiver b.from (is_b.lags b.from (omega arith) is_b.some) in
        elim (cases_order a.from b.from) [
          | inr (inl below) ↦ inl below
          | inr (inr above) ↦ absurd (omega (arith, order, above, a_there.0, a_there.1, b_there.0, b_there.1))
          | inl from ↦ elim (cases_order a.channel b.channel) [
            | inr (inl below) ↦ inr (from, inl below)
            | inr (inr above) ↦ absurd (omega (arith, order, above, from, a_there.1, b_there.1))
            | inl channel ↦ elim (cases_order a.receiver b.receiver) [
              | inr (inl below) ↦ inr (from, inr (channel, below))
              | inr (inr above) ↦ absurd (omega (arith, order, above, from, channel))
              | inl receiver ↦ absurd (apart (same_stretch (lags_at (at_place run) (last_place run)) (last_place run) a b is_a is_b channel receiver from))
            ]
          ]
        ]

    -- the documented states are those that are shown
    module _ (shows : ShowsAtPlaces V) where
      abbrev documented : (channel receiver place : ℕ) → Option ℕ
      documented channel receiver place = lag_at (shown_at run place) channel receiver

      lag_same : (c h p : ℕ) → lags_at (at_place run) (last_place run) c h p ≡ documented c h p
      lag_same c h p = ap (λ xs. lag_at xs c h) (shows run.specs run.entries p)

      is_loss : (loss : Loss) → IsStretch (lags_at (at_place run) (last_place run)) (last_place run) loss → IsLoss run loss
      is_loss loss is = again (lags_at (at_place run) (last_place run)) documented (last_place run) lag_same loss is

      is_stretch : (loss : Loss) → IsLoss run loss → IsStretch (lags_at (at_place run) (last_place run)) (last_place run) loss
      is_stretch loss is = again documented (lags_at (at_place run) (last_place run)) (last_place run) (λ c h p. sym (lag_same c h p)) loss is

      -- what the search found, sorted
      pub are_losses : (found sorted : List Loss) → found ≡ with_open losses ts (length ts) → IsPermutation found sorted → IsNonDecreasingBy order_of sorted
          → AreLosses run sorted
      are_losses found sorted found_is moved order =
          let are : AreThose (lags_at (at_place run) (last_place run)) (last_place run) (λ loss. Unit {0}) found =
          subst (AreThose (lags_at (at_place run) (last_place run)) (last_place run) (λ loss. Unit {0})) (sym found_is)
          (all_found (at_place run) (last_place run) ts losses passed) in
          let each : All (λ loss. IsStretch (lags_at (at_place run) (last_place run)) (last_place run) loss) sorted =
          All-permutation (λ loss. IsStretch (lags_at (at_place run) (last_place run)) (last_place run) loss) found sorted moved are.each in
          let differ : Differ sorted =
          IsPermutation-keeps found (λ xs. Differ xs) (differ_from found are.distinct)
          (λ xs a b first second apart. differ_swapped xs a b first second apart (length_swap xs a b)) sorted moved in
          record {
            each = All-weaker (λ loss. IsStretch (lags_at (at_place run) (last_place run)) (last_place run) loss) (λ loss. IsLoss run loss) is_loss sorted each;
            all = λ loss is. Contains-permutation found sorted loss moved (are.all loss (is_stretch loss is) tt);
            ordered = λ i j d below within.
                comes_before (get_or sorted i d) (get_or sorted j d)
                (All-get_or (λ loss. IsStretch (lags_at (at_place run) (last_place run)) (last_place run) loss) sorted i d (omega (arith, below, within)) each)
                (All-get_or (λ loss. IsStretch (lags_at (at_place run) (last_place run)) (last_place run) loss) sorted j d within each)
                (order i j d (omega (arith, below)) within)
                (differ d i j (omega (arith, below, within)) within (λ same. omega (arith, same, below)));
          }
