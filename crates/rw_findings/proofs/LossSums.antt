-- What a receiver lost in all is the sum of its losses.
use Rattle.std.proofs.Common.{◌≡◌, ◌≢◌, ℕ, zero, suc, ◌+◌, ◌-◌, ◌<◌, ◌≤◌, ◌⊎◌, min, Bool}
use Rattle.std.proofs.Common.{true, false, cond, List, [], ◌∷◌, length, get_or, inl, inr, refl, ap, sym}
use Rattle.std.proofs.Common.{◌∙◌, subst, arith}
use Rattle.std.specs.Prelude.{Option, Some, None, ◌&&◌, nat_eq, nat_le, unwrap_or}
use Rattle.std.specs.List.{sum_by}
use Rattle.std.proofs.lemmas.Bool.{cases_eq, cases_lt, cases_order}
use Rattle.std.proofs.lemmas.Bool.Decides.{nat_tests}
use Rattle.std.proofs.lemmas.List.Elements.{All-contains, All-get_or}
use Rattle.std.proofs.lemmas.List.Sums.{sum_by-cons}
use Rattle.rw_journal.specs.Run.{Run}
use Rattle.rw_world.specs.Kinds.{broadcast_shown}
use Rattle.rw_world.proofs.Places.{shows_at_places}
use Rattle.rw_navigator.specs.Conditions.{lag_at}
use Rattle.rw_navigator.specs.Places.{last_place, shown_at}
use Rattle.rw_findings.specs.Laws.{TotalsAddUp, lost_by}
use Rattle.rw_findings.specs.Losses.{AreLosses, ComesBefore, EndsAs, IsLoss, stop_of}
use Rattle.rw_findings.specs.Totals.{AreCounts, growth}
use Rattle.rw_findings.specs.Values.{oldest_in}
use Rattle.rw_findings.specs.declared.losses.loss.Loss.{Loss}
use Rattle.rw_findings.specs.declared.losses.loss.LossEnd.{LossEnd}
use Rattle.rw_findings.specs.declared.losses.loss.LossEnd.TheVariants.{Dropped, Open, Told}
use Rattle.rw_findings.specs.declared.totals.total.Totals.{Totals}
use Rattle.rw_findings.proofs.LossLaws.{Goes, LagsAt, goes, lag_is, lags_at, left, on, tells}
use Rattle.rw_findings.proofs.LossSteps.{lag}
use Rattle.rw_findings.proofs.LossStretches.{IsOpenSince, open_at, open_on, opens_now, same_start, stops}
use Rattle.rw_findings.proofs.ValuePlaces.{opened_is}

-- ---- sums

sum_same : {X : Type 0} (f g : X → ℕ) (xs : List X) → ((j : ℕ) (z : X) → j < length xs → f (get_or xs j z) ≡ g (get_or xs j z)) → sum_by f xs ≡ sum_by g xs
sum_same f g [] same = refl
sum_same f g (x ∷ xs) same =
    let first : f x ≡ g x = same 0 x (omega arith) in
    let rest : sum_by f xs ≡ sum_by g xs = sum_same f g xs (λ j z within. same (suc j) z (omega (arith, within))) in
    omega (arith, sum_by-cons f x xs, sum_by-cons g x xs, first, rest)

sum_none : {X : Type 0} (f : X → ℕ) (xs : List X) → ((j : ℕ) (z : X) → j < length xs → f (get_or xs j z) ≡ 0) → sum_by f xs ≡ 0
sum_none f [] none = refl
sum_none f (x ∷ xs) none =
    let first : f x ≡ 0 = none 0 x (omega arith) in
    let rest : sum_by f xs ≡ 0 = sum_none f xs (λ j z within. none (suc j) z (omega (arith, within))) in
    omega (arith, sum_by-cons f x xs, first, rest)

-- where one element alone adds more
sum_once : {X : Type 0} (f g : X → ℕ) (d : ℕ) (xs : List X) (k : ℕ) → k < length xs
    → ((j : ℕ) (z : X) → j < length xs → j ≢ k → f (get_or xs j z) ≡ g (get_or xs j z))
    → ((z : X) → f (get_or xs k z) ≡ g (get_or xs k z) + d) → sum_by f xs ≡ sum_by g xs + d
sum_once f g d [] k within others one = absurd (omega (arith, within))
sum_once f g d (x ∷ xs) zero within others one =
    let rest : sum_by f xs ≡ sum_by g xs = sum_same f g xs (λ j z inside. others (suc j) z (omega (arith, inside)) (λ same. omega (arith, same))) in
    let first : f x ≡ g x + d = one x in
    omega (arith, sum_by-cons f x xs, sum_by-cons g x xs, first, rest)
sum_once f g d (x ∷ xs) (suc k) within others one =
    let first : f x ≡ g x = others 0 x (omega arith) (λ same. omega (arith, same)) in
    let rest : sum_by f xs ≡ sum_by g xs + d =
    sum_once f g d xs k (omega (arith, within)) (λ j z inside apart. others (suc j) z (omega (arith, inside)) (λ same. apart (omega (arith, same)))) one in
    omega (arith, sum_by-cons f x xs, sum_by-cons g x xs, first, rest)

default_is : {X : Type 0} (xs : List X) (i : ℕ) (d e : X) → i < length xs → get_or xs i d ≡ get_or xs i e
default_is [] i d e within = absurd (omega (arith, within))
default_is (x ∷ xs) zero d e within = refl
default_is (x ∷ xs) (suc i) d e within = default_is xs i d e (omega (arith, within))

and_false : (b : Bool) → (b && false) ≡ false
and_false true = refl
and_false false = refl

not_apart : (a b : Loss) → a.from ≡ b.from → a.channel ≡ b.channel → a.receiver ≡ b.receiver → ComesBefore a b → ⊥
not_apart a b from channel receiver before =
    elim before [
      | inl below ↦ omega (arith, from, below)
      | inr same ↦ elim same.1 [ inl below ↦ omega (arith, channel, below) | inr rest ↦ omega (arith, receiver, rest.1) ]
    ]

-- ---- one receiver

module _ {V : Type 0} (run : Run V) (c h : ℕ) where
  abbrev lags : (channel receiver place : ℕ) → Option ℕ
  lags channel receiver place = lag_at (shown_at run place) channel receiver

  abbrev at : ℕ → ℕ
  at p = unwrap_or (lag_at (shown_at run p) c h) 0

  abbrev last : ℕ
  last = last_place run

  rests_first : at 0 ≡ 0
  rests_first =
      elim (cases_lt 0 (at 0)) [
        | inl lagged ↦
            let there = lags_at run c h 0 lagged in
            let opened : oldest_in (broadcast_shown there.x) ≡ 0 = (opened_is (shows_at_places V) run c (broadcast_shown there.x) there.here).1 in
            absurd (omega (arith, opened, there.lags))
        | inr none ↦ omega (arith, none)
      ]

  -- a receiver that lags began to
  begins : (n : ℕ) → 0 < at n → (from : ℕ) × IsOpenSince lags c h from n
  begins zero lagged = absurd (omega (arith, rests_first, lagged))
  begins (suc n) lagged =
      let e : n + 1 ≡ suc n = omega arith in
      let then : 0 < at (n + 1) = subst (λ m. 0 < at m) (sym e) lagged in
      elim (cases_lt 0 (at n)) [
        | inl before ↦ let begun = begins n before in
            (begun.0, subst (λ m. IsOpenSince lags c h begun.0 m) e (open_on lags c h begun.0 n begun.1 then))
        | inr none ↦ (n + 1, subst (λ m. IsOpenSince lags c h (n + 1) m) e (opens_now lags c h n (omega (arith, none)) then))
      ]

  -- a loss of this receiver that began here and goes on at place n
  record IsThrough (from n : ℕ) (loss : Loss) : Type 0 where
    channel : loss.channel ≡ c
    receiver : loss.receiver ≡ h
    from_is : loss.from ≡ from
    there : n < stop_of last loss.end
    is : IsLoss run loss

  abbrev Through : (from n : ℕ) → Type 0
  Through from n = (loss : Loss) × IsThrough from n loss

  ended : (n from : ℕ) → IsOpenSince lags c h from n → (end : LossEnd) → stop_of last end ≡ n + 1 → EndsAs lags last c h end → Through from n
  ended n from begun end stop ends = (
    record { channel = c; receiver = h; from = from; lost = at n; end = end },
    record {
      channel = refl;
      receiver = refl;
      from_is = refl;
      there = omega (arith, stop);
      is = record {
        before = begun.before;
        some = omega (arith, begun.within, stop);
        lags = λ p above below. begun.lags p above (omega (arith, below, stop));
        ends = ends;
        lost = let back : stop_of last end - 1 ≡ n = omega (arith, stop) in ap at back;
      };
    },
  )

  -- it goes on from place to place, up to its end
  through_next : (n from : ℕ) → n + 1 ≤ last → IsOpenSince lags c h from n → (IsOpenSince lags c h from (n + 1) → Through from (n + 1)) → (o : Option ℕ)
      → lags c h (n + 1) ≡ o → Through from n
  through_next n from within begun next None here = ended n from begun (Dropped (n + 1)) refl (within, here)
  through_next n from within begun next (Some zero) here = ended n from begun (Told (n + 1)) refl (within, here)
  through_next n from within begun next (Some (suc m)) here =
      let more : at (n + 1) ≡ suc m = ap (λ o. unwrap_or o 0) here in
      let rest = next (open_on lags c h from n begun (omega (arith, more))) in (
        rest.0,
        record {
          channel = rest.1.channel;
          receiver = rest.1.receiver;
          from_is = rest.1.from_is;
          there = omega (arith, rest.1.there);
          is = rest.1.is;
        },
      )

  through : (k n from : ℕ) → n + k ≡ last → IsOpenSince lags c h from n → Through from n
  through zero n from is begun = ended n from begun Open (omega (arith, is)) tt
  through (suc k) n from is begun =
      through_next n from (omega (arith, is)) begun (through k (n + 1) from (omega (arith, is))) (lags c h (n + 1)) refl

  -- a lag doesn't fall while there is one
  rises : (n : ℕ) → n + 1 ≤ last → 0 < at n → 0 < at (n + 1) → at n ≤ at (n + 1)
  rises n within lagged then = by_going (lags_at run c h n lagged) (goes run c h (shows_at_places V) n (lags_at run c h n lagged) (omega (arith, within))) where
    by_going : (there : LagsAt run c h n) → Goes run c h n there → at n ≤ at (n + 1)
    by_going there (on next position more) =
        let first : at n ≡ lag there.x there.position = ap (λ o. unwrap_or o 0) (lag_is run c h n there) in
        let second : at (n + 1) ≡ lag next.x next.position = ap (λ o. unwrap_or o 0) (lag_is run c h (n + 1) next) in
        omega (arith, first, second, more)
    by_going there (left gone) = let none : at (n + 1) ≡ 0 = ap (λ o. unwrap_or o 0) gone in absurd (omega (arith, none, then))
    by_going there (tells e read here call is who reply rested) =
        let none : at (n + 1) ≡ 0 = ap (λ o. unwrap_or o 0) rested in absurd (omega (arith, none, then))

  -- ---- how much a loss has grown up to a place

  abbrev is_own : Loss → Bool
  is_own loss = nat_eq loss.channel c && nat_eq loss.receiver h

  abbrev grown : (n : ℕ) → Loss → ℕ
  grown n loss = cond (nat_le loss.from n) (at (min n (stop_of last loss.end - 1))) 0

  abbrev part : (n : ℕ) → Loss → ℕ
  part n loss = cond (is_own loss) (grown n loss) 0

  own_or_not : (loss : Loss) → ((loss.channel ≡ c) × (loss.receiver ≡ h)) ⊎ (is_own loss ≡ false)
  own_or_not loss =
      elim (cases_eq loss.channel c) [
        | inl channel ↦ elim (cases_eq loss.receiver h) [
          | inl receiver ↦ inl (channel, receiver)
          | inr apart ↦ let no : nat_eq loss.receiver h ≡ false = grind (arith, nat_tests) in
              inr (ap (λ k. nat_eq loss.channel c && k) no ∙ and_false (nat_eq loss.channel c))
        ]
        | inr apart ↦ let no : nat_eq loss.channel c ≡ false = grind (arith, nat_tests) in inr (ap (λ k. k && nat_eq loss.receiver h) no)
      ]

  own_is : (loss : Loss) → loss.channel ≡ c → loss.receiver ≡ h → is_own loss ≡ true
  own_is loss channel receiver =
      let one : nat_eq loss.channel c ≡ true = grind (arith, nat_tests) in
      let two : nat_eq loss.receiver h ≡ true = grind (arith, nat_tests) in
      ap (λ k. k && nat_eq loss.receiver h) one ∙ two

  begun_is : (loss : Loss) (n : ℕ) → loss.from ≤ n → nat_le loss.from n ≡ true
  begun_is loss n begun = grind (arith, nat_tests)

  later_is : (loss : Loss) (n : ℕ) → n < loss.from → nat_le loss.from n ≡ false
  later_is loss n later = grind (arith, nat_tests)

  -- the same loss, by its receiver's number
  abbrev as_own : Loss → Loss
  as_own loss = record { channel = c; receiver = h; from = loss.from; lost = loss.lost; end = loss.end }

  own_loss : (loss : Loss) → loss.channel ≡ c → loss.receiver ≡ h → IsLoss run loss → IsLoss run (as_own loss)
  own_loss loss channel receiver is =
      subst (λ k. IsLoss run (record { channel = c; receiver = k; from = loss.from; lost = loss.lost; end = loss.end })) receiver
      (subst (λ k. IsLoss run (record { channel = k; receiver = loss.receiver; from = loss.from; lost = loss.lost; end = loss.end })) channel is)

  module _ (n : ℕ) (loss : Loss) (is : IsLoss run loss) where
    -- it has grown where it goes on at the next place alone
    still : (loss.from ≤ n + 1 → n + 1 < stop_of last loss.end → ⊥) → grown (n + 1) loss ≡ grown n loss
    still not_there =
        elim (cases_lt n loss.from) [
          | inl later ↦ elim (cases_lt (n + 1) loss.from) [
            | inl past ↦ ap (λ b. cond b (at (min (n + 1) (stop_of last loss.end - 1))) 0) (later_is loss (n + 1) past)
                ∙ sym (ap (λ b. cond b (at (min n (stop_of last loss.end - 1))) 0) (later_is loss n later))
            | inr now ↦ absurd (not_there (omega (arith, now)) (omega (arith, is.some, now, later)))
          ]
          | inr begun ↦ elim (cases_lt (n + 1) (stop_of last loss.end)) [
            | inl there ↦ absurd (not_there (omega (arith, begun)) there)
            | inr over ↦
                let same : min (n + 1) (stop_of last loss.end - 1) ≡ min n (stop_of last loss.end - 1) = omega (arith, over) in
                ap (λ b. cond b (at (min (n + 1) (stop_of last loss.end - 1))) 0) (begun_is loss (n + 1) (omega (arith, begun)))
                ∙ ap at same ∙ sym (ap (λ b. cond b (at (min n (stop_of last loss.end - 1))) 0) (begun_is loss n (omega (arith, begun))))
          ]
        ]

    quiet : (loss.channel ≡ c → loss.receiver ≡ h → loss.from ≤ n + 1 → n + 1 < stop_of last loss.end → ⊥) → part (n + 1) loss ≡ part n loss
    quiet not_there =
        elim (own_or_not loss) [
          | inl own ↦ ap (λ k. cond (is_own loss) k 0) (still (not_there own.0 own.1))
          | inr other ↦ ap (λ b. cond b (grown (n + 1) loss) 0) other ∙ sym (ap (λ b. cond b (grown n loss) 0) other)
        ]

    grows : n + 1 ≤ last → loss.channel ≡ c → loss.receiver ≡ h → loss.from ≤ n + 1 → n + 1 < stop_of last loss.end
        → part (n + 1) loss ≡ part n loss + (at (n + 1) - at n)
    grows within channel receiver begun there =
        let own = own_loss loss channel receiver is in
        let yes_own : is_own loss ≡ true = own_is loss channel receiver in
        let now : min (n + 1) (stop_of last loss.end - 1) ≡ n + 1 = omega (arith, there) in
        let then : part (n + 1) loss ≡ at (n + 1) =
        ap (λ b. cond b (grown (n + 1) loss) 0) yes_own
        ∙ ap (λ b. cond b (at (min (n + 1) (stop_of last loss.end - 1))) 0) (begun_is loss (n + 1) begun) ∙ ap at now in
        let before : part n loss ≡ grown n loss = ap (λ b. cond b (grown n loss) 0) yes_own in
        elim (cases_lt n loss.from) [
          | inl later ↦
              let none : grown n loss ≡ 0 = ap (λ b. cond b (at (min n (stop_of last loss.end - 1))) 0) (later_is loss n later) in
              let back : loss.from - 1 ≡ n = omega (arith, later, begun) in
              let rested : at n ≡ 0 = ap at (sym back) ∙ own.before in
              omega (arith, then, before, none, rested)
          | inr earlier ↦
              let here : min n (stop_of last loss.end - 1) ≡ n = omega (arith, there) in
              let grew : grown n loss ≡ at n =
              ap (λ b. cond b (at (min n (stop_of last loss.end - 1))) 0) (begun_is loss n (omega (arith, earlier))) ∙ ap at here in
              let first : 0 < at n = own.lags n (omega (arith, earlier)) (omega (arith, there)) in
              let second : 0 < at (n + 1) = own.lags (n + 1) begun there in
              omega (arith, then, before, grew, rises n within first second)
        ]

    none_at_first : part 0 loss ≡ 0
    none_at_first =
        elim (own_or_not loss) [
          | inr other ↦ ap (λ b. cond b (grown 0 loss) 0) other
          | inl own_is_it ↦
              let own = own_loss loss own_is_it.0 own_is_it.1 is in
              let yes_own : is_own loss ≡ true = own_is loss own_is_it.0 own_is_it.1 in
              elim (cases_lt 0 loss.from) [
                | inl later ↦ ap (λ b. cond b (grown 0 loss) 0) yes_own
                    ∙ ap (λ b. cond b (at (min 0 (stop_of last loss.end - 1))) 0) (later_is loss 0 later)
                | inr first ↦
                    let lagged : 0 < at 0 = own.lags 0 (omega (arith, first)) (omega (arith, own.some)) in
                    absurd (omega (arith, lagged, rests_first))
              ]
        ]

    all_at_last : part last loss ≡ lost_by c h loss
    all_at_last =
        elim (own_or_not loss) [
          | inr other ↦ ap (λ b. cond b (grown last loss) 0) other ∙ sym (ap (λ b. cond b loss.lost 0) other)
          | inl own_is_it ↦
              let own = own_loss loss own_is_it.0 own_is_it.1 is in
              let yes_own : is_own loss ≡ true = own_is loss own_is_it.0 own_is_it.1 in
              let bound : stop_of last loss.end ≤ last + 1 = stops lags last c h loss.end own.ends in
              let begun : loss.from ≤ last = omega (arith, own.some, bound) in
              let here : min last (stop_of last loss.end - 1) ≡ stop_of last loss.end - 1 = omega (arith, bound) in
              ap (λ b. cond b (grown last loss) 0) yes_own
              ∙ ap (λ b. cond b (at (min last (stop_of last loss.end - 1))) 0) (begun_is loss last begun)
              ∙ ap at here ∙ own.lost ∙ sym (ap (λ b. cond b loss.lost 0) yes_own)
        ]

  -- ---- all its losses

  module _ (losses : List Loss) (are : AreLosses run losses) where
    is_loss : (j : ℕ) (z : Loss) → j < length losses → IsLoss run (get_or losses j z)
    is_loss j z within = All-get_or (λ l. IsLoss run l) losses j z within are.each

    -- of two places in the list one alone has a loss that goes on here
    one_alone : (n j k from : ℕ) (z : Loss) → j < length losses → k < length losses → j ≢ k → IsOpenSince lags c h from (n + 1)
        → (get_or losses k z).channel ≡ c → (get_or losses k z).receiver ≡ h → (get_or losses k z).from ≡ from
        → (get_or losses j z).channel ≡ c → (get_or losses j z).receiver ≡ h → (get_or losses j z).from ≤ n + 1
        → n + 1 < stop_of last (get_or losses j z).end → ⊥
    one_alone n j k from z inside within apart begun channel receiver from_is channel_too receiver_too above below =
        let other = own_loss (get_or losses j z) channel_too receiver_too (is_loss j z inside) in
        let same : (get_or losses j z).from ≡ from =
        same_start lags c h (get_or losses j z).from from (n + 1) (open_at lags last (as_own (get_or losses j z)) (n + 1) other above below) begun in
        elim (cases_order j k) [
          | inl equal ↦ apart equal
          | inr (inl before) ↦ not_apart (get_or losses j z) (get_or losses k z) (same ∙ sym from_is) (channel_too ∙ sym channel)
              (receiver_too ∙ sym receiver) (are.ordered j k z before within)
          | inr (inr after) ↦ not_apart (get_or losses k z) (get_or losses j z) (from_is ∙ sym same) (channel ∙ sym channel_too)
              (receiver ∙ sym receiver_too) (are.ordered k j z after inside)
        ]

    one_more : (n : ℕ) → n + 1 ≤ last → sum_by (part (n + 1)) losses ≡ sum_by (part n) losses + (at (n + 1) - at n)
    one_more n within =
        elim (cases_lt 0 (at (n + 1))) [
          | inr none ↦
              let same : sum_by (part (n + 1)) losses ≡ sum_by (part n) losses =
              sum_same (part (n + 1)) (part n) losses (λ j z inside.
              quiet n (get_or losses j z) (is_loss j z inside) (λ channel receiver above below.
              let lagged : 0 < at (n + 1) = (own_loss (get_or losses j z) channel receiver (is_loss j z inside)).lags (n + 1) above below in
              omega (arith, none, lagged))) in
              omega (arith, same, none)
          | inl lagged ↦
              let begun = begins (n + 1) lagged in
              let found = through (last - (n + 1)) (n + 1) begun.0 (omega (arith, within)) begun.1 in
              let there = are.all found.0 found.1.is in
              let is_it = λ (z : Loss). default_is losses there.0 z found.0 there.1 ∙ there.2 in
              sum_once (part (n + 1)) (part n) (at (n + 1) - at n) losses there.0 there.1
              (λ j z inside apart. quiet n (get_or losses j z) (is_loss j z inside)
              (one_alone n j there.0 begun.0 z inside there.1 apart begun.1 (ap (λ l. l.channel) (is_it z) ∙ found.1.channel)
              (ap (λ l. l.receiver) (is_it z) ∙ found.1.receiver)
              (ap (λ l. l.from) (is_it z) ∙ found.1.from_is)))
              (λ z. subst (λ l. part (n + 1) l ≡ part n l + (at (n + 1) - at n)) (sym (is_it z))
              (grows n found.0 found.1.is within found.1.channel found.1.receiver (omega (arith, found.1.from_is, begun.1.within)) found.1.there))
        ]

    grown_to : (n : ℕ) → n ≤ last → growth at n ≡ sum_by (part n) losses
    grown_to zero within = sym (sum_none (part 0) losses (λ j z inside. none_at_first 0 (get_or losses j z) (is_loss j z inside)))
    grown_to (suc n) within =
        let before : growth at n ≡ sum_by (part n) losses = grown_to n (omega (arith, within)) in
        let e : n + 1 ≡ suc n = omega arith in
        subst (λ m. growth at n + (at m - at n) ≡ sum_by (part m) losses) e (omega (arith, before, one_more n (omega (arith, within))))

    lost_in_all : growth at last ≡ sum_by (lost_by c h) losses
    lost_in_all =
        grown_to last (omega arith)
        ∙ sum_same (part last) (lost_by c h) losses (λ j z inside. all_at_last 0 (get_or losses j z) (is_loss j z inside))

pub totals_add_up : (V : Type 0) → TotalsAddUp V
totals_add_up V run losses totals are those t counts there is =
    let of_it = All-contains (λ (u : Totals). AreCounts (shown_at run) run.entries (last_place run) u.channel u.receiver u.counts) totals t those.each there in
    let broadcast = subst (λ k. AreCounts (shown_at run) run.entries (last_place run) t.channel t.receiver k) is of_it in
    broadcast.lost ∙ lost_in_all run t.channel t.receiver losses are
