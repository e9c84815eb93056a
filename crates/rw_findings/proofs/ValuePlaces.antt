-- The values of a channel, from place to place.
use Rattle.std.proofs.Common.{◌≡◌, ◌≢◌, ℕ, zero, suc, ◌+◌, ◌-◌, ◌<◌, ◌≤◌, ◌⊎◌, true, false, cond, List, [], ◌∷◌}
use Rattle.std.proofs.Common.{◌++◌, length, get_or, inl, inr, refl, ap, sym, ◌∙◌, subst, arith}
use Rattle.std.specs.Prelude.{Option, Some, None, nat_eq, nat_lt, option_and_then, option_map, slice_get}
use Rattle.std.specs.Option.{option_map_or}
use Rattle.std.proofs.lemmas.Bool.{cases_eq, cases_lt, cond_both}
use Rattle.std.proofs.lemmas.Bool.Decides.{nat_tests}
use Rattle.std.proofs.lemmas.List.{length_push}
use Rattle.std.proofs.lemmas.Option.{slice_get_within, slice_get-map}
use Rattle.rw_broadcast.specs.Channel as b
use Rattle.rw_broadcast.specs.Shown as bs
use Rattle.rw_watch.specs.Channel as w
use Rattle.rw_watch.specs.Shown as ws
use Rattle.rw_journal.specs.Run.{Run}
use Rattle.rw_world.specs.Kinds.{broadcast_shown, watch_shown}
use Rattle.rw_world.specs.Lists.{map_at}
use Rattle.rw_world.specs.Machines.{ChanShown, of_chan}
use Rattle.rw_world.specs.Openings.{opened_channel}
use Rattle.rw_world.specs.Records.{ShowsAtPlaces}
use Rattle.rw_world.specs.Specified.{WorldEntry}
use Rattle.rw_world.specs.declared.channels.ChanCall.{ChanCall}
use Rattle.rw_world.specs.declared.channels.ChanCall.TheVariants as call_of
use Rattle.rw_world.specs.declared.opening.Spec.{Spec}
use Rattle.rw_world.specs.declared.opening.Spec.TheVariants.{Broadcast, Watch}
use Rattle.rw_world.proofs.Modifying.{get-modified, get-modified_other, length-modified}
use Rattle.rw_navigator.specs.Places.{last_place, shown_at}
use Rattle.rw_findings.specs.Values.{AreValuesTo, GoesAt, IsValue, NotedState, come, count_at, count_in, gone}
use Rattle.rw_findings.specs.Values.{has_had, oldest_at, oldest_in, value_at, value_in, with_gone}
use Rattle.rw_findings.specs.declared.values.value.ChannelValue.{ChannelValue}
use Rattle.rw_findings.proofs.FollowedPlaces.{allowed_is, channel_here, channel_there}

-- ---- lists

element : {X : Type 0} (xs : List X) (i : ℕ) → i < length xs → (x : X) × (x ≡ get_or xs i x)
element [] i within = absurd (omega arith)
element (x ∷ xs) zero within = (x, refl)
element (x ∷ xs) (suc i) within = element xs i (omega arith)

not_none : {X : Type 0} (xs : List X) (i : ℕ) → i < length xs → slice_get xs i ≡ None → ⊥
not_none [] i within none = omega arith
not_none (x ∷ xs) zero within none = cc
not_none (x ∷ xs) (suc i) within none = not_none xs i (omega arith) none

before_push : {X : Type 0} (xs : List X) (i : ℕ) (x : X) → i < length xs → slice_get (xs ++ x ∷ []) i ≡ slice_get xs i
before_push [] i x below = absurd (omega arith)
before_push (z ∷ xs) zero x below = refl
before_push (z ∷ xs) (suc i) x below = before_push xs i x (omega arith)

at_push : {X : Type 0} (xs : List X) (x : X) → slice_get (xs ++ x ∷ []) (length xs) ≡ Some x
at_push [] x = refl
at_push (z ∷ xs) x = at_push xs x

same_element : {X : Type 0} {a b : X} → Some a ≡ Some b → a ≡ b
same_element same = cc

module _ {V : Type 0} where
  -- ---- a channel

  had_is : (x : ChanShown V) (n : ℕ) → has_had x n ≡ true → n < count_in x
  had_is (broadcast_shown x) n had = grind (arith, nat_tests)
  had_is (watch_shown y) n had = grind (arith, nat_tests)

  not_had_is : (x : ChanShown V) (n : ℕ) → has_had x n ≡ false → count_in x ≤ n
  not_had_is (broadcast_shown x) n had = grind (arith, nat_tests)
  not_had_is (watch_shown y) n had = grind (arith, nat_tests)

  -- the newest value is there
  newest_there : (x : ChanShown V) (n : ℕ) → (of_chan {V = V}).allowed x → count_in x ≡ n + 1 → value_in x n ≡ None → ⊥
  newest_there (broadcast_shown x) n ok many none = not_none x.window (n - (x.sent - x.capacity)) (omega (arith, ok.some_capacity, ok.retained, many)) none
  newest_there (watch_shown y) n ok many none =
      let same : n ≡ y.version = omega (arith, many) in
      let here : nat_eq n y.version ≡ true = grind (arith, nat_tests) in
      let is : Some y.value ≡ None = sym (ap (λ k. cond k (Some y.value) None) here) ∙ none in
      cc

  -- from x to y: no value came, or one did
  pub record Arrived (x y : ChanShown V) : Type 0 where
    pub count : count_in y ≡ count_in x + 1
    pub oldest : oldest_in x ≡ oldest_in y - 1
    pub behind : oldest_in y ≤ count_in x

  abbrev pub Comes : (x y : ChanShown V) → Type 0
  Comes x y = ((count_in y ≡ count_in x) × (oldest_in y ≡ oldest_in x)) ⊎ Arrived x y

  comes_broadcast : (x : bs.Shown V) (e : b.Change V) → bs.IsAllowed x → Comes (broadcast_shown x) (broadcast_shown (bs.with_change x e))
  comes_broadcast x b.Keep ok = inl (refl, refl)
  comes_broadcast x (b.Append v) ok = inr (record { count = refl; oldest = omega arith; behind = omega (arith, ok.some_capacity) })
  comes_broadcast x (b.Make kind p) ok = inl (refl, refl)
  comes_broadcast x (b.Move h from to) ok = inl (refl, refl)
  comes_broadcast x (b.Leave h kind p) ok = inl (refl, refl)

  comes_watch : (y : ws.Shown V) (e : w.Change V) → Comes (watch_shown y) (watch_shown (ws.with_change y e))
  comes_watch y w.Keep = inl (refl, refl)
  comes_watch y (w.Write v true) = inr (record { count = refl; oldest = omega arith; behind = omega arith })
  comes_watch y (w.Write v false) = inl (refl, refl)
  comes_watch y (w.Make kind mark) = inl (refl, refl)
  comes_watch y (w.Mark h from to) = inl (refl, refl)
  comes_watch y (w.Leave h kind mark) = inl (refl, refl)

  pub comes : (x : ChanShown V) (call : ChanCall V) → (of_chan {V = V}).allowed x → Comes x ((of_chan {V = V}).next x call)
  comes (broadcast_shown x) (call_of.B call) ok = comes_broadcast x (b.effect (bs.channel_of x) call).0 ok
  comes (broadcast_shown x) (call_of.W call) ok = inl (refl, refl)
  comes (watch_shown y) (call_of.B call) ok = inl (refl, refl)
  comes (watch_shown y) (call_of.W call) ok = comes_watch y (w.effect y call).0

  module _ (shows : ShowsAtPlaces V) (run : Run V) (c : ℕ) where
    pub count_is : (p : ℕ) (x : ChanShown V) → slice_get (shown_at run p) c ≡ Some x → count_at run c p ≡ count_in x
    count_is p x here = ap (λ o. option_map_or count_in o 0) here

    pub oldest_is : (p : ℕ) (x : ChanShown V) → slice_get (shown_at run p) c ≡ Some x → oldest_at run c p ≡ oldest_in x
    oldest_is p x here = ap (λ o. option_map_or oldest_in o 0) here

    value_is : (p n : ℕ) (x : ChanShown V) → slice_get (shown_at run p) c ≡ Some x → value_at run c n p ≡ value_in x n
    value_is p n x here = ap (λ o. option_and_then (λ y. value_in y n) o) here

    -- the entry after a place, on this channel or another
    passed : (p : ℕ) (x y : ChanShown V) → p < length run.entries → slice_get (shown_at run p) c ≡ Some x → slice_get (shown_at run (p + 1)) c ≡ Some y
        → Comes x y
    passed p x y within here there =
        let one = element run.entries p within in
        let e = one.0 in
        elim (cases_eq e.call.channel c) [
          | inl on ↦
              let is : (of_chan {V = V}).next x e.call.call ≡ y = same_element (sym (channel_here shows run c p e within one.1 x here on) ∙ there) in
              subst (λ z. Comes x z) is (comes x e.call.call (allowed_is shows run c p x here))
          | inr apart ↦
              let is : x ≡ y = same_element (sym (channel_there shows run c p e within one.1 apart ∙ here) ∙ there) in
              subst (λ z. Comes x z) is (inl (refl, refl))
        ]

    -- ---- values

    -- a value is there on, where the oldest isn't past it
    value_on : (n p : ℕ) (value : ChannelValue V) → IsValue run c n p value → (oldest_at run c p ≤ n → oldest_at run c (p + 1) ≤ n)
        → IsValue run c n (p + 1) value
    value_on n p value is on = record {
      inside = omega (arith, is.inside);
      came = is.came;
      fresh = is.fresh;
      is = is.is;
      goes = goes value.overwritten is.goes;
    } where
      goes : (o : Option ℕ) → GoesAt run c n p o → GoesAt run c n (p + 1) o
      goes None old = on old
      goes (Some place) old = (old.0, omega (arith, old.1), old.2, old.3)

    -- a value is overwritten
    value_gone : (n p : ℕ) (value : ChannelValue V) → IsValue run c n p value → oldest_at run c p ≤ n → n < oldest_at run c (p + 1)
        → IsValue run c n (p + 1) (gone (p + 1) value)
    value_gone n p value is before after =
        let back : p + 1 - 1 ≡ p = omega arith in
        record {
          inside = omega (arith, is.inside);
          came = is.came;
          fresh = is.fresh;
          is = is.is;
          goes = (omega arith, omega arith, subst (λ q. oldest_at run c q ≤ n) (sym back) before, after);
        }

    -- what is found of one number, where one of them may have been overwritten
    found_gone : (values : List (ChannelValue V)) (oldest place n : ℕ) (value : ChannelValue V) → slice_get (with_gone values oldest place) n ≡ Some value
        → n < length values
        → (was : ChannelValue V) × (slice_get values n ≡ Some was) × (((n + 1 ≡ oldest) × (value ≡ gone place was)) ⊎ ((n + 1 ≢ oldest) × (value ≡ was)))
    found_gone values oldest place n value found within =
        let one = element values n within in
        let was : slice_get values n ≡ Some one.0 = read values n one.0 within one.1 in
        elim (cases_lt 0 oldest) [
          | inl some ↦
              let test : nat_lt 0 oldest ≡ true = grind (arith, nat_tests) in
              let got : slice_get (map_at (gone place) values (oldest - 1)) n ≡ Some value =
              ap (λ k. slice_get (cond k (map_at (gone place) values (oldest - 1)) values) n) (sym test) ∙ found in
              elim (cases_eq (n + 1) oldest) [
                | inl same ↦
                    let at : oldest - 1 ≡ n = omega (arith, same) in
                    let is : slice_get (map_at (gone place) values n) n ≡ Some value = ap (λ k. slice_get (map_at (gone place) values k) n) (sym at) ∙ got in
                    (one.0, was, inl (same, same_element (sym is ∙ get-modified (gone place) values n one.0 was)))
                | inr apart ↦
                    let other : oldest - 1 ≢ n = λ same. apart (omega (arith, same, some)) in
                    (one.0, was, inr (apart, same_element (sym got ∙ get-modified_other (gone place) values (oldest - 1) n other ∙ was)))
              ]
          | inr none ↦
              let test : nat_lt 0 oldest ≡ false = grind (arith, nat_tests) in
              let got : slice_get values n ≡ Some value = ap (λ k. slice_get (cond k (map_at (gone place) values (oldest - 1)) values) n) (sym test) ∙ found in
              (one.0, was, inr ((λ same. omega (arith, same, none)), same_element (sym got ∙ was)))
        ] where
          read : (xs : List (ChannelValue V)) (i : ℕ) (x : ChannelValue V) → i < length xs → x ≡ get_or xs i x → slice_get xs i ≡ Some x
          read [] i x inside is = absurd (omega arith)
          read (z ∷ xs) zero x inside is = ap Some (sym is)
          read (z ∷ xs) (suc i) x inside is = read xs i x (omega arith) is

    length_gone : (values : List (ChannelValue V)) (oldest place : ℕ) → length (with_gone values oldest place) ≡ length values
    length_gone values oldest place =
        cond_both (nat_lt 0 oldest) (map_at (gone place) values (oldest - 1)) values (λ (l : List (ChannelValue V)). length l ≡ length values)
        (λ _. length-modified (gone place) values (oldest - 1)) (λ _. refl)

    module _ (p : ℕ) (x y : ChanShown V) (old new : List (ChannelValue V)) (within : p < length run.entries)
        (here : slice_get (shown_at run p) c ≡ Some x) (there : slice_get (shown_at run (p + 1)) c ≡ Some y) (are : AreValuesTo run c p old) where
      long : length old ≡ count_in x
      long = are.many ∙ count_is p x here

      -- none came
      rest : count_in y ≡ count_in x → oldest_in y ≡ oldest_in x → new ≡ old → AreValuesTo run c (p + 1) new
      rest count oldest is = record {
        many = ap length is ∙ long ∙ sym count ∙ sym (count_is (p + 1) y there);
        each = λ n value found.
            value_on n p value (are.each n value (ap (λ vs. slice_get vs n) (sym is) ∙ found))
            (λ before. omega (arith, before, oldest, oldest_is p x here, oldest_is (p + 1) y there));
      }

      -- one came
      more : Arrived x y → (v : V) → value_in y (length old) ≡ Some v → new ≡ with_gone (old ++ come v (p + 1) ∷ []) (oldest_in y) (p + 1)
          → AreValuesTo run c (p + 1) new
      more came v value_here is = record { many = many; each = each } where
        pushed : List (ChannelValue V)
        pushed = old ++ come v (p + 1) ∷ []

        pushed_long : length pushed ≡ length old + 1
        pushed_long = length_push old (come v (p + 1))

        new_long : length new ≡ length old + 1
        new_long = ap length is ∙ length_gone pushed (oldest_in y) (p + 1) ∙ pushed_long

        many : length new ≡ count_at run c (p + 1)
        many = omega (arith, new_long, long, came.count, count_is (p + 1) y there)

        fresh_value : IsValue run c (length old) (p + 1) (come v (p + 1))
        fresh_value =
            let back : p + 1 - 1 ≡ p = omega arith in
            record {
              inside = omega arith;
              came = omega (arith, long, came.count, count_is (p + 1) y there);
              fresh = inr (subst (λ q. count_at run c q ≤ length old) (sym back) (omega (arith, are.many)));
              is = value_is (p + 1) (length old) y there ∙ value_here;
              goes = omega (arith, oldest_is (p + 1) y there, came.behind, long);
            }

        each : (n : ℕ) (value : ChannelValue V) → slice_get new n ≡ Some value → IsValue run c n (p + 1) value
        each n value found =
            let inside : n < length new = slice_get_within new n value found in
            let one = found_gone pushed (oldest_in y) (p + 1) n value (ap (λ vs. slice_get vs n) (sym is) ∙ found)
            (omega (arith, inside, new_long, pushed_long)) in
            elim (cases_lt n (length old)) [
              | inl below ↦
                  let was : IsValue run c n p one.0 = are.each n one.0 (sym (before_push old n (come v (p + 1)) below) ∙ one.1) in
                  elim one.2 [
                    | inl last ↦
                        subst (IsValue run c n (p + 1)) (sym last.1)
                        (value_gone n p one.0 was (omega (arith, last.0, came.oldest, oldest_is p x here)) (omega (arith, last.0, oldest_is (p + 1) y there)))
                    | inr other ↦
                        subst (IsValue run c n (p + 1)) (sym other.1)
                        (value_on n p one.0 was (λ before. past other.0 (omega (arith, before, oldest_is p x here, came.oldest))))
                  ]
              | inr above ↦
                  let last : n ≡ length old = omega (arith, above, inside, new_long) in
                  let is_fresh : one.0 ≡ come v (p + 1) = same_element (sym one.1 ∙ ap (slice_get pushed) last ∙ at_push old (come v (p + 1))) in
                  elim one.2 [
                    | inl gone_now ↦ absurd (omega (arith, gone_now.0, last, came.behind, long))
                    | inr other ↦ subst (λ k. IsValue run c k (p + 1) value) (sym last)
                        (subst (IsValue run c (length old) (p + 1)) (sym (other.1 ∙ is_fresh)) fresh_value)
                  ]
            ] where
              past : n + 1 ≢ oldest_in y → oldest_in y - 1 ≤ n → oldest_at run c (p + 1) ≤ n
              past apart before =
                  elim (cases_lt n (oldest_in y)) [
                    | inl under ↦ absurd (apart (omega (arith, under, before)))
                    | inr over ↦ omega (arith, over, oldest_is (p + 1) y there)
                  ]

      pub values_on : NotedState old new y (p + 1) → AreValuesTo run c (p + 1) new
      values_on took = by_step (passed p x y within here there) took where
        by_step : Comes x y → NotedState old new y (p + 1) → AreValuesTo run c (p + 1) new
        by_step (inl still) (inl none) = rest still.0 still.1 none.0
        by_step (inl still) (inr one) = absurd (omega (arith, had_is y (length old) one.1, long, still.0))
        by_step (inr came) (inl none) =
            elim none.1 [
              | inl not_had ↦ absurd (omega (arith, not_had_is y (length old) not_had, long, came.count))
              | inr nothing ↦ absurd (newest_there y (length old) (allowed_is shows run c (p + 1) y there) (omega (arith, came.count, long)) nothing)
            ]
        by_step (inr came) (inr one) = more came one.0 one.2 one.3

    -- what a call on another channel leaves
    pub values_there : (p : ℕ) (e : WorldEntry V) (x : ChanShown V) (values : List (ChannelValue V)) → p < length run.entries
        → e ≡ get_or run.entries p e → slice_get (shown_at run p) c ≡ Some x → e.call.channel ≢ c → AreValuesTo run c p values
        → AreValuesTo run c (p + 1) values
    values_there p e x values within read here apart are =
        rest p x x values values within here (channel_there shows run c p e within read apart ∙ here) are refl refl refl

    -- ---- at the opening

    opens : (spec : Spec V) → (count_in (opened_channel spec) ≤ 1) × (oldest_in (opened_channel spec) ≡ 0)
    opens (Broadcast capacity) = (omega arith, omega arith)
    opens (Watch init) = (omega arith, refl)

    pub opened_is : (x : ChanShown V) → slice_get (shown_at run 0) c ≡ Some x → (count_in x ≤ 1) × (oldest_in x ≡ 0)
    opened_is x here = by_spec (slice_get run.specs c) refl where
      at_first : slice_get (shown_at run 0) c ≡ option_map opened_channel (slice_get run.specs c)
      at_first = ap (λ xs. slice_get xs c) (sym (shows run.specs run.entries 0)) ∙ slice_get-map opened_channel run.specs c

      by_spec : (o : Option (Spec V)) → slice_get run.specs c ≡ o → (count_in x ≤ 1) × (oldest_in x ≡ 0)
      by_spec None none = let e : ◌≡◌ {A = Option (ChanShown V)} None (Some x) = sym (at_first ∙ ap (option_map opened_channel) none) ∙ here in absurd cc
      by_spec (Some spec) found =
          let is : opened_channel spec ≡ x = same_element (sym (at_first ∙ ap (option_map opened_channel) found) ∙ here) in
          subst (λ z. (count_in z ≤ 1) × (oldest_in z ≡ 0)) is (opens spec)

    pub values_first : (x : ChanShown V) (new : List (ChannelValue V)) → slice_get (shown_at run 0) c ≡ Some x → NotedState [] new x 0 → AreValuesTo run c 0 new
    values_first x new here (inl none) = record {
      many = ap length none.0 ∙ sym (count_is 0 x here ∙ no_value);
      each = λ n value found. let e : ◌≡◌ {A = Option (ChannelValue V)} None (Some value) = ap (λ vs. slice_get vs n) (sym none.0) ∙ found in absurd cc;
    } where
      no_value : count_in x ≡ 0
      no_value =
          elim none.1 [
            | inl not_had ↦ omega (arith, not_had_is x 0 not_had)
            | inr nothing ↦
                elim (cases_lt 0 (count_in x)) [
                  | inl some ↦ absurd (newest_there x 0 (allowed_is shows run c 0 x here) (omega (arith, some, (opened_is x here).0)) nothing)
                  | inr zero_is ↦ omega (arith, zero_is)
                ]
          ]
    values_first x new here (inr one) = record {
      many = ap length is ∙ omega (arith, count_is 0 x here, had_is x 0 one.1, (opened_is x here).0);
      each = each;
    } where
      is : new ≡ come one.0 0 ∷ []
      is =
          let none : nat_lt 0 (oldest_in x) ≡ false = ap (nat_lt 0) (opened_is x here).1 in
          one.3 ∙ ap (λ k. cond k (map_at (gone 0) (come one.0 0 ∷ []) (oldest_in x - 1)) (come one.0 0 ∷ [])) none

      first : IsValue run c 0 0 (come one.0 0)
      first = record {
        inside = omega arith;
        came = omega (arith, had_is x 0 one.1, count_is 0 x here);
        fresh = inl refl;
        is = value_is 0 0 x here ∙ one.2;
        goes = omega (arith, oldest_is 0 x here, (opened_is x here).1);
      }

      each : (n : ℕ) (value : ChannelValue V) → slice_get new n ≡ Some value → IsValue run c n 0 value
      each n value found = by_number n (ap (λ vs. slice_get vs n) (sym is) ∙ found) where
        by_number : (n : ℕ) → slice_get (come one.0 0 ∷ []) n ≡ Some value → IsValue run c n 0 value
        by_number zero at = subst (IsValue run c 0 0) (same_element at) first
        by_number (suc n) at = absurd cc

    -- a channel that isn't there has no values
    pub no_values : slice_get (shown_at run (last_place run)) c ≡ None → AreValuesTo run c (last_place run) []
    no_values none = record {
      many = sym (ap (λ o. option_map_or count_in o 0) none);
      each = λ n value found. absurd cc;
    }
