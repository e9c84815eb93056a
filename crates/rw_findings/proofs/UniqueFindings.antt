-- The findings of a run are its only ones.
use Rattle.std.proofs.Common.{◌≡◌, ℕ, suc, ◌-◌, ◌<◌, ◌≤◌, ◌⊎◌, Bool, List, length, take, drop, take_all, inl, inr, refl, ap, sym, ◌∙◌, subst, arith}
use Rattle.std.specs.Prelude.{Option, Some, None, IsSome, slice_get, option_map, option_and_then}
use Rattle.std.specs.List.{Contains}
use Rattle.std.proofs.lemmas.Bool.{cases_lt, cases_order}
use Rattle.std.proofs.lemmas.List.Elements.{All-contains}
use Rattle.std.proofs.lemmas.Option.{slice_get-map}
use Rattle.rw_journal.specs.Run.{Run}
use Rattle.rw_world.specs.declared.channels.ChanCall.{ChanCall}
use Rattle.rw_world.specs.declared.channels.ChanReply.{ChanReply}
use Rattle.rw_world.specs.declared.kinds.ChannelKind.TheVariants as kind
use Rattle.rw_world.specs.Channel.{no_channel, strays_at}
use Rattle.rw_world.specs.ChannelLaws.{kind_stays}
use Rattle.rw_world.specs.Kinds.{broadcast_shown, watch_shown, channel_kind}
use Rattle.rw_world.specs.Machines.{ChanShown, of_broadcast, of_chan, of_watch}
use Rattle.rw_world.specs.Openings.{opening_row}
use Rattle.rw_world.specs.Specified.{WorldEntry}
use Rattle.rw_world.proofs.Places.{shows_at_places}
use Rattle.rw_world.proofs.Shaping.{keeps_shape_throughout}
use Rattle.rw_navigator.specs.Conditions.{lag_at, as_watch, watch_at}
use Rattle.rw_navigator.specs.Places.{last_place, shown_at}
use Rattle.rw_watch.specs.Machine.{mark_at}
use Rattle.rw_findings.specs.Closings.{AreClosingsOf, ComesFirst as IsFirstReader, IsClosing, IsFirst, IsLate, count_between, gets, is_told_closed}
use Rattle.rw_findings.specs.Laws.{ClosingsAreUnique, LossesAreUnique, PeaksAreUnique, TotalsAreUnique}
use Rattle.rw_findings.specs.Losses.{ComesBefore, IsLoss}
use Rattle.rw_findings.specs.Peaks.{IsGreatest as IsPeak}
use Rattle.rw_findings.specs.Totals.{AreBroadcastCounts, AreCounts, AreTotalsOf, AreWatchCounts, ComesFirst, WasThere, mark_there}
use Rattle.rw_findings.specs.Totals.{IsCount, IsGreatest, count_on, none, one, other}
use Rattle.rw_findings.specs.declared.closings.closing.Closing.{Closing}
use Rattle.rw_findings.specs.declared.closings.closing.LateReader.{LateReader}
use Rattle.rw_findings.specs.declared.losses.loss.Loss.{Loss}
use Rattle.rw_findings.specs.declared.totals.total.BroadcastCounts.{BroadcastCounts}
use Rattle.rw_findings.specs.declared.totals.total.Counts.{Counts}
use Rattle.rw_findings.specs.declared.totals.total.Counts.TheVariants.{Broadcast, Watch}
use Rattle.rw_findings.specs.declared.totals.total.Totals.{Totals}
use Rattle.rw_findings.specs.declared.totals.total.WatchCounts.{WatchCounts}
use Rattle.rw_findings.proofs.ClosingRuns.{between, one_closing}
use Rattle.rw_findings.proofs.LossPasses.{lag_in_channel}
use Rattle.rw_findings.proofs.LossRuns.{at_place}
use Rattle.rw_findings.proofs.OneList.{one_list}

-- by channel, then by receiver
abbrev IsEarlier : (a b c d : ℕ) → Type 0
IsEarlier a b c d = (a < c) ⊎ ((a ≡ c) × (b < d))

pair_one_way : (a b c d : ℕ) → IsEarlier a b c d → IsEarlier c d a b → ⊥
pair_one_way a b c d first second =
    elim first [
      | inl p ↦ elim second [ inl q ↦ omega (arith, p, q) | inr q ↦ omega (arith, p, q.0) ]
      | inr p ↦ elim second [ inl q ↦ omega (arith, p.0, q) | inr q ↦ omega (arith, p.1, q.1) ]
    ]

-- ---- losses

loss_one_way : (a b : Loss) → ComesBefore a b → ComesBefore b a → ⊥
loss_one_way a b first second =
    elim first [
      | inl p ↦ elim second [ inl q ↦ omega (arith, p, q) | inr q ↦ omega (arith, p, q.0) ]
      | inr p ↦ elim second [ inl q ↦ omega (arith, p.0, q) | inr q ↦ pair_one_way a.channel a.receiver b.channel b.receiver p.1 q.1 ]
    ]

pub losses_are_unique : (V : Type 0) → LossesAreUnique V
losses_are_unique V run these those is are =
    one_list ComesBefore loss_one_way these those is.ordered are.ordered
    (λ loss there. are.all loss (All-contains (λ l. IsLoss run l) these loss is.each there))
    (λ loss there. is.all loss (All-contains (λ l. IsLoss run l) those loss are.each there))

-- ---- totals

greatest_once : (at : ℕ → ℕ) (last a b p q : ℕ) → IsGreatest at last a p → IsGreatest at last b q → (a ≡ b) × (p ≡ q)
greatest_once at last a b p q first second =
    let low : a ≤ b = subst (λ n. n ≤ b) first.reached (second.most p first.within) in
    let high : b ≤ a = subst (λ n. n ≤ a) second.reached (first.most q second.within) in
    let place : p ≡ q = elim (cases_order p q) [
      | inl same ↦ same
      | inr (inl below) ↦ absurd (omega (arith, second.first p below, first.reached, low, high))
      | inr (inr above) ↦ absurd (omega (arith, first.first q above, second.reached, low, high))
    ] in
    (omega (arith, low, high), place)

count_once : {P : ℕ → Type 0} {n a b : ℕ} → IsCount P n a → IsCount P n b → a ≡ b
count_once none none = refl
count_once (one first here) (one second there) = ap suc (count_once first second)
count_once (one first here) (other second not_there) = absurd (not_there here)
count_once (other first not_here) (one second there) = absurd (not_here there)
count_once (other first not_here) (other second not_there) = count_once first second

module _ {V : Type 0} (at : ℕ → List (ChanShown V)) (entries : List (WorldEntry V)) (last : ℕ) where
  broadcast_once : (c h : ℕ) (x y : BroadcastCounts) → AreBroadcastCounts at entries last c h x → AreBroadcastCounts at entries last c h y → x ≡ y
  broadcast_once c h x y first second =
      let worst = greatest_once _ last x.worst y.worst x.worst_place y.worst_place first.worst second.worst in
      ap (λ n. record x { received = n }) (first.received ∙ sym second.received)
      ∙ ap (λ n. record x { received = y.received; told = n }) (first.told ∙ sym second.told)
      ∙ ap (λ n. record x { received = y.received; told = y.told; lost = n }) (first.lost ∙ sym second.lost)
      ∙ ap (λ n. record y { worst = n; worst_place = x.worst_place; unread = x.unread }) worst.0
      ∙ ap (λ n. record y { worst_place = n; unread = x.unread }) worst.1
      ∙ ap (λ o. record y { unread = o }) (first.unread ∙ sym second.unread)

  watch_once : (c h : ℕ) (x y : WatchCounts) → AreWatchCounts at entries last c h x → AreWatchCounts at entries last c h y → x ≡ y
  watch_once c h x y first second =
      ap (λ n. record x { changes = n }) (first.changes ∙ sym second.changes)
      ∙ ap (λ n. record x { changes = y.changes; missed = n }) (count_once first.missed second.missed)
      ∙ ap (λ n. record y { unlooked = n }) (count_once first.unlooked second.unlooked)

  -- where no receiver of a broadcast is also one of a watch
  module _ (apart : (c h p q : ℕ) → IsSome (lag_at (at p) c h) → IsSome (mark_there at c h q) → ⊥) where
    counts_once : (c h : ℕ) (x y : Counts) → AreCounts at entries last c h x → AreCounts at entries last c h y → x ≡ y
    counts_once c h (Broadcast x) (Broadcast y) first second = ap Broadcast (broadcast_once c h x y first second)
    counts_once c h (Broadcast x) (Watch y) first second = absurd (apart c h first.there.0 second.there.0 first.there.2 second.there.2)
    counts_once c h (Watch x) (Broadcast y) first second = absurd (apart c h second.there.0 first.there.0 second.there.2 first.there.2)
    counts_once c h (Watch x) (Watch y) first second = ap Watch (watch_once c h x y first second)

    was_there : (c h : ℕ) (counts : Counts) → AreCounts at entries last c h counts → WasThere at entries last c h
    was_there c h (Broadcast x) is = (is.there.0, is.there.1, inl is.there.2)
    was_there c h (Watch x) is = (is.there.0, is.there.1, inr is.there.2)

    has_totals : (these those : List Totals) → AreTotalsOf at entries last these → AreTotalsOf at entries last those
        → (t : Totals) → Contains these t → Contains those t
    has_totals these those is others t there =
        let counts = All-contains (λ (u : Totals). AreCounts at entries last u.channel u.receiver u.counts) these t is.each there in
        let found = others.all t.channel t.receiver (was_there t.channel t.receiver t.counts counts) in
        let same : found.0 ≡ t.counts = counts_once t.channel t.receiver found.0 t.counts
        (All-contains (λ (u : Totals). AreCounts at entries last u.channel u.receiver u.counts) those _ others.each found.1) counts in
        subst (λ k. Contains those (record { channel = t.channel; receiver = t.receiver; counts = k })) same found.1

    one_totals : (these those : List Totals) → AreTotalsOf at entries last these → AreTotalsOf at entries last those → these ≡ those
    one_totals these those is others =
        one_list ComesFirst (λ a b. pair_one_way a.channel a.receiver b.channel b.receiver) these those is.ordered others.ordered
        (has_totals these those is others) (has_totals those these others is)

-- ---- the kinds of channels at the places of a run

module _ {V : Type 0} where
  lag_of_broadcast : (o : Option (ChanShown V)) (h : ℕ) → IsSome (lag_in_channel o h) → option_map channel_kind o ≡ Some kind.Broadcast
  lag_of_broadcast None h some = absurd cc
  lag_of_broadcast (Some (broadcast_shown x)) h some = refl
  lag_of_broadcast (Some (watch_shown y)) h some = absurd cc

  mark_of_watch : (o : Option (ChanShown V)) (h : ℕ)
      → IsSome (option_and_then (λ y. mark_at (slice_get y.slots h)) (option_and_then as_watch o)) → option_map channel_kind o ≡ Some kind.Watch
  mark_of_watch None h some = absurd cc
  mark_of_watch (Some (broadcast_shown x)) h some = absurd cc
  mark_of_watch (Some (watch_shown y)) h some = refl

  same_kinds : (run : Run V) (p q c : ℕ) → option_map channel_kind (slice_get (at_place run p) c) ≡ option_map channel_kind (slice_get (at_place run q) c)
  same_kinds run p q c =
      let stays = λ (n : ℕ). keeps_shape_throughout of_chan channel_kind strays_at no_channel (kind_stays of_broadcast of_watch) (opening_row run.specs)
      (take n run.entries) in
      sym (slice_get-map channel_kind (at_place run p) c) ∙ ap (λ ks. slice_get ks c) (stays p ∙ sym (stays q))
      ∙ slice_get-map channel_kind (at_place run q) c

  kinds_apart : (run : Run V) (c h p q : ℕ) → IsSome (lag_at (at_place run p) c h) → IsSome (mark_there (at_place run) c h q) → ⊥
  kinds_apart run c h p q lags marks =
      let e : Some kind.Broadcast ≡ Some kind.Watch =
      sym (lag_of_broadcast (slice_get (at_place run p) c) h lags) ∙ same_kinds run p q c ∙ mark_of_watch (slice_get (at_place run q) c) h marks in
      absurd cc

  shown_apart : (run : Run V) (c h p q : ℕ) → IsSome (lag_at (shown_at run p) c h) → IsSome (mark_there (shown_at run) c h q) → ⊥
  shown_apart run c h p q lags marks =
      let at = shows_at_places V run.specs run.entries in
      kinds_apart run c h p q (subst (λ xs. IsSome (lag_at xs c h)) (sym (at p)) lags)
      (subst (λ xs. IsSome (option_and_then (λ y. mark_at (slice_get y.slots h)) (watch_at xs c))) (sym (at q)) marks)

pub totals_are_unique : (V : Type 0) → TotalsAreUnique V
totals_are_unique V run these those is others = one_totals (shown_at run) run.entries (last_place run) (shown_apart run) these those is others

-- ---- closings

module _ {V : Type 0} (at : ℕ → List (ChanShown V)) (es : List (WorldEntry V)) where
  rises : (c : ℕ) (test : ChanCall V → ChanReply V → Bool) (from m n : ℕ) → from ≤ m → m ≤ n
      → count_between at es c test from m ≤ count_between at es c test from n
  rises c test from m n within below =
      omega (
        arith,
        between at es c test from m within,
        between at es c test m n below,
        between at es c test from n (omega (arith, within, below)),
      )

  -- as many as up to the last place, where it is after that
  rises_to_last : (c : ℕ) (test : ChanCall V → ChanReply V → Bool) (from n : ℕ) → from ≤ n → from ≤ length es
      → count_between at es c test from n ≤ count_between at es c test from (length es)
  rises_to_last c test from n within inside =
      elim (cases_lt (length es) n) [
        | inl past ↦ let whole : take n es ≡ take (length es) es = take_all n es (omega (arith, past)) ∙ sym (take_all (length es) es (omega arith)) in
            let same : count_between at es c test from n ≡ count_between at es c test from (length es) = ap (λ fs. count_on c test (drop from fs)) whole in
            omega (arith, same)
        | inr below ↦ rises c test from n (length es) within below
      ]

  first_once : (c : ℕ) (test : ChanCall V → ChanReply V → Bool) (from : ℕ) (a b : Option ℕ) → from ≤ length es
      → IsFirst at es c test from a → IsFirst at es c test from b → a ≡ b
  first_once c test from None None inside first second = refl
  first_once c test from None (Some q) inside first second =
      absurd (omega (arith, first, second.2, rises_to_last c test from q (omega (arith, second.0)) inside))
  first_once c test from (Some p) None inside first second =
      absurd (omega (arith, second, first.2, rises_to_last c test from p (omega (arith, first.0)) inside))
  first_once c test from (Some p) (Some q) inside first second =
      elim (cases_order p q) [
        | inl same ↦ ap Some same
        | inr (inl below) ↦ absurd (omega (arith, first.2, second.1, rises c test from p (q - 1) (omega (arith, first.0)) (omega (arith, below))))
        | inr (inr above) ↦ absurd (omega (arith, second.2, first.1, rises c test from q (p - 1) (omega (arith, second.0)) (omega (arith, above))))
      ]

  has_closings : (these those : List Closing) (readers others : List LateReader) → AreClosingsOf at es these readers → AreClosingsOf at es those others
      → (k : Closing) → Contains these k → Contains those k
  has_closings these those readers others is are k there =
      are.all k.channel k.place (All-contains (λ (c : Closing). IsClosing at es c.channel c.place) these k is.each there)

  has_readers : (these those : List Closing) (readers others : List LateReader) → AreClosingsOf at es these readers → AreClosingsOf at es those others
      → (r : LateReader) → Contains readers r → Contains others r
  has_readers these those readers others is are r there =
      let late = All-contains (IsLate at es) readers r is.each_reader there in
      let found = are.all_readers r.channel r.receiver late.closing late.closes late.there in
      let same = All-contains (IsLate at es) others _ are.each_reader found.2 in
      let closing : same.closing ≡ late.closing = one_closing at es r.channel same.closing late.closing same.closes late.closes in
      let first = subst (λ p. IsFirst at es r.channel (is_told_closed r.receiver) p found.0) closing same.told in
      let told : found.0 ≡ r.told = first_once r.channel (is_told_closed r.receiver) late.closing found.0 r.told late.closes.within first late.told in
      let read_on : found.1 ≡ r.read_on =
      same.read_on ∙ ap (λ p. count_between at es r.channel (gets r.receiver) p (length es)) closing ∙ sym late.read_on in
      subst (λ n. Contains others (record r { read_on = n })) read_on
      (subst (λ o. Contains others (record r { told = o; read_on = found.1 })) told found.2)

  one_closings : (these those : List Closing) (readers others : List LateReader) → AreClosingsOf at es these readers → AreClosingsOf at es those others
      → (these ≡ those) × (readers ≡ others)
  one_closings these those readers others is are = (
    one_list (λ (a b : Closing). a.channel < b.channel) (λ a b first second. omega (arith, first, second)) these those is.ordered are.ordered
        (has_closings these those readers others is are) (has_closings those these others readers are is),
    one_list IsFirstReader (λ a b. pair_one_way a.channel a.receiver b.channel b.receiver) readers others is.ordered_readers are.ordered_readers
        (has_readers these those readers others is are) (has_readers those these others readers are is),
  )

pub closings_are_unique : (V : Type 0) → ClosingsAreUnique V
closings_are_unique V run these those readers others is are = one_closings (shown_at run) run.entries these those readers others is are

-- ---- peaks

peak_once : (at : ℕ → ℕ) (last from to a b : ℕ) → IsPeak at last from to a → IsPeak at last from to b → a ≤ b
peak_once at last from to a b first second =
    elim first.reached [
      | inl nothing ↦ omega (arith, nothing)
      | inr found ↦ subst (λ n. n ≤ b) found.4 (second.most found.0 found.1 found.2 found.3)
    ]

pub peaks_are_unique : (V : Type 0) → PeaksAreUnique V
peaks_are_unique V run channel measure stretches these those is are receiver stretch within =
    let first = is receiver stretch within in
    let second = are receiver stretch within in
    omega (arith, peak_once _ _ _ _ _ _ first second, peak_once _ _ _ _ _ _ second first)
