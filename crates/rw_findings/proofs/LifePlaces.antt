-- The lives of a channel's handles, from place to place.
use Rattle.std.proofs.Common.{◌≡◌, ◌≢◌, ℕ, zero, suc, ◌+◌, ◌-◌, ◌<◌, ◌≤◌, ◌⊎◌, Bool, true, false, cond, List, [], ◌∷◌}
use Rattle.std.proofs.Common.{◌++◌, length, get_or, add-one, inl, inr, refl, ap, sym, ◌∙◌, subst, arith}
use Rattle.std.specs.Prelude.{IsSome, Option, Some, None, ◌&&◌, nat_eq, nat_lt, option_and_then, option_map, slice_get, slice_index_or}
use Rattle.std.specs.List.{count_by, range_with_len}
use Rattle.std.specs.Option.{option_map_or}
use Rattle.std.proofs.lemmas.Bool.{cases_eq, cases_lt}
use Rattle.std.proofs.lemmas.Bool.Decides.{nat_tests}
use Rattle.std.proofs.lemmas.List.{length_push}
use Rattle.std.proofs.lemmas.List.Sums.{count_by-le-length, sum_by_push}
use Rattle.std.proofs.lemmas.List.FromFn.{length-range_with_len}
use Rattle.std.proofs.lemmas.Option.{slice_get_within, slice_get-get_or, slice_get-map}
use Rattle.rw_handles.specs.declared.kinds.Kind.{Kind}
use Rattle.rw_handles.specs.declared.kinds.Kind.TheVariants.{Sender, Receiver}
use Rattle.rw_journal.specs.Run.{Run}
use Rattle.rw_world.specs.Machines.{ChanShown, of_chan}
use Rattle.rw_world.specs.Openings.{opened_channel}
use Rattle.rw_world.specs.Records.{ShowsAtPlaces}
use Rattle.rw_world.specs.Specified.{WorldEntry}
use Rattle.rw_world.specs.declared.opening.Spec.{Spec}
use Rattle.rw_world.specs.declared.opening.Spec.TheVariants.{Broadcast, Watch}
use Rattle.rw_findings.specs.Lives.{AreLivesTo, Counted, EndsAt, IsLife, Life, CountedCall, AddedMade, born, calls_after, calls_to}
use Rattle.rw_findings.specs.Lives.{dropped_by, is_call_with, kind_in, kind_then, made_at, made_in, with_kind}
use Rattle.rw_navigator.specs.Places.{last_place, shown_at}
use Rattle.rw_world.specs.Channel.{handle_of}
use Rattle.rw_findings.proofs.FollowedPlaces.{channel_here, channel_there}
use Rattle.rw_findings.proofs.LifeSteps.{Steps, steps}

-- an element of a list
element : {X : Type 0} (xs : List X) (i : ℕ) → i < length xs → (x : X) × (x ≡ get_or xs i x)
element [] i within = absurd (omega arith)
element (x ∷ xs) zero within = (x, refl)
element (x ∷ xs) (suc i) within = element xs i (omega arith)

range_more : (a n : ℕ) → range_with_len a (suc n) ≡ range_with_len a n ++ (a + n) ∷ []
range_more a zero = let e : a ≡ a + 0 = omega arith in ap (λ (x : ℕ). x ∷ []) e
range_more a (suc n) =
    let e : a + 1 + n ≡ a + suc n = omega arith in
    ap (λ (xs : List ℕ). a ∷ xs) (range_more (a + 1) n ∙ ap (λ (x : ℕ). range_with_len (a + 1) n ++ x ∷ []) e)

-- how many of the first numbers pass a test, with one more
count_more : (test : ℕ → Bool) (n : ℕ) → count_by test (range_with_len 0 (n + 1)) ≡ count_by test (range_with_len 0 n) + cond (test n) 1 0
count_more test n =
    let e : 0 + n ≡ n = omega arith in
    ap (λ k. count_by test (range_with_len 0 k)) (add-one n)
    ∙ ap (count_by test) (range_more 0 n ∙ ap (λ (x : ℕ). range_with_len 0 n ++ x ∷ []) e)
    ∙ sum_by_push (λ x. cond (test x) 1 0) (range_with_len 0 n) n

pub same_element : {X : Type 0} {a b : X} → Some a ≡ Some b → a ≡ b
same_element same = cc

module _ {V : Type 0} (run : Run V) (c : ℕ) where
  pub made_is : (p : ℕ) (x : ChanShown V) → slice_get (shown_at run p) c ≡ Some x → made_at run c p ≡ made_in x
  made_is p x here = ap (λ o. option_map_or made_in o 0) here

  pub kind_is : (p : ℕ) (x : ChanShown V) (h : ℕ) → slice_get (shown_at run p) c ≡ Some x → kind_then run c h p ≡ kind_in x h
  kind_is p x h here = ap (λ o. option_and_then (λ y. kind_in y h) o) here

  -- one call more, or none
  call_more : (h actor p : ℕ) → calls_after run c h actor p ≡ true → calls_to run c h actor (p + 1) ≡ calls_to run c h actor p + 1
  call_more h actor p is = count_more (calls_after run c h actor) p ∙ ap (λ k. calls_to run c h actor p + cond k 1 0) is

  no_call : (h actor p : ℕ) → calls_after run c h actor p ≡ false → calls_to run c h actor (p + 1) ≡ calls_to run c h actor p
  no_call h actor p none = count_more (calls_after run c h actor) p ∙ ap (λ k. calls_to run c h actor p + cond k 1 0) none ∙ omega arith

  -- there are no more calls than places
  pub few_calls : (h actor p : ℕ) → calls_to run c h actor p ≤ p
  few_calls h actor p = omega (arith, count_by-le-length (calls_after run c h actor) (range_with_len 0 p), length-range_with_len 0 p)

  module _ (shows : ShowsAtPlaces V) where
    module _ (p : ℕ) (e : WorldEntry V) (within : p < length run.entries) (read : e ≡ get_or run.entries p e) where
      entry_is : slice_get run.entries p ≡ Some e
      entry_is = slice_get-get_or run.entries p e within ∙ ap Some (sym read)

      tested : (h actor : ℕ) → calls_after run c h actor p ≡ (nat_lt h (made_at run c p) && is_call_with c h actor e)
      tested h actor = ap (λ o. nat_lt h (made_at run c p) && option_map_or (is_call_with c h actor) o false) entry_is

      -- the tests of a call, one by one
      and_false : (a b : Bool) → b ≡ false → (a && b) ≡ false
      and_false true b none = none
      and_false false b none = refl

      other_channel : (h actor : ℕ) → e.call.channel ≢ c → calls_after run c h actor p ≡ false
      other_channel h actor apart =
          let not_here : nat_eq e.call.channel c ≡ false = grind (arith, nat_tests) in
          tested h actor ∙ and_false (nat_lt h (made_at run c p)) (is_call_with c h actor e)
          (ap (λ k. k && nat_eq (handle_of e.call.call) h && nat_eq e.actor actor) not_here)

      other_handle : (h actor : ℕ) → h ≢ handle_of e.call.call → calls_after run c h actor p ≡ false
      other_handle h actor apart =
          let not_it : nat_eq (handle_of e.call.call) h ≡ false = grind (arith, nat_tests) in
          tested h actor ∙ and_false (nat_lt h (made_at run c p)) (is_call_with c h actor e)
          (by_test (nat_eq e.call.channel c) (nat_eq (handle_of e.call.call) h) (nat_eq e.actor actor) not_it) where
            by_test : (a b d : Bool) → b ≡ false → (a && b && d) ≡ false
            by_test true b d none = ap (λ k. k && d) none
            by_test false b d none = refl

      other_actor : (h actor : ℕ) → e.actor ≢ actor → calls_after run c h actor p ≡ false
      other_actor h actor apart =
          let not_by : nat_eq e.actor actor ≡ false = grind (arith, nat_tests) in
          tested h actor ∙ and_false (nat_lt h (made_at run c p)) (is_call_with c h actor e)
          (and_false (nat_eq e.call.channel c && nat_eq (handle_of e.call.call) h) (nat_eq e.actor actor) not_by)

      unmade : (h actor : ℕ) → made_at run c p ≤ h → calls_after run c h actor p ≡ false
      unmade h actor past =
          let not_yet : nat_lt h (made_at run c p) ≡ false = grind (arith, nat_tests) in
          tested h actor ∙ ap (λ k. k && is_call_with c h actor e) not_yet

      the_call : e.call.channel ≡ c → handle_of e.call.call < made_at run c p → calls_after run c (handle_of e.call.call) e.actor p ≡ true
      the_call here there =
          let one : nat_lt (handle_of e.call.call) (made_at run c p) ≡ true = grind (arith, nat_tests) in
          let two : nat_eq e.call.channel c ≡ true = grind (arith, nat_tests) in
          let three : nat_eq (handle_of e.call.call) (handle_of e.call.call) ≡ true = grind (arith, nat_tests) in
          let four : nat_eq e.actor e.actor ≡ true = grind (arith, nat_tests) in
          tested (handle_of e.call.call) e.actor
          ∙ ap (λ k. k && is_call_with c (handle_of e.call.call) e.actor e) one
          ∙ ap (λ k. k && nat_eq (handle_of e.call.call) (handle_of e.call.call) && nat_eq e.actor e.actor) two
          ∙ ap (λ k. k && nat_eq e.actor e.actor) three
          ∙ four

      -- a life goes on, where its handle keeps its kind and nobody calls with it
      life_on : (h : ℕ) (life : Life) → IsLife run c h p life → kind_then run c h (p + 1) ≡ kind_then run c h p
          → ((actor : ℕ) → calls_after run c h actor p ≡ false) → IsLife run c h (p + 1) life
      life_on h life is same none = record {
        made = is.made;
        fresh = is.fresh;
        inside = omega (arith, is.inside);
        kind = is.kind;
        maker = is.maker;
        end = ends life.dropped is.end;
        calls = λ actor. is.calls actor ∙ sym (no_call h actor p (none actor));
      } where
        ends : (dropped : Option ℕ) → EndsAt run c h p dropped → EndsAt run c h (p + 1) dropped
        ends None end = subst (λ o. IsSome o) (sym same) end
        ends (Some place) end = (end.0, omega (arith, end.1), end.2, end.3)

      -- the life of the handle that is called with
      life_called : (life mid : Life) → IsLife run c (handle_of e.call.call) p life → e.call.channel ≡ c → handle_of e.call.call < made_at run c p
          → Counted life mid e.actor
          → IsLife run c (handle_of e.call.call) (p + 1) (with_kind mid (kind_then run c (handle_of e.call.call) (p + 1)) (p + 1))
      life_called life mid is here there counted = record {
        made = subst (λ m. handle_of e.call.call < made_at run c m) (sym counted.made) is.made;
        fresh = subst (λ m. (m ≡ 0) ⊎ (made_at run c (m - 1) ≤ handle_of e.call.call)) (sym counted.made) is.fresh;
        inside = omega (arith, is.inside, counted.made);
        kind = ap (λ m. kind_then run c (handle_of e.call.call) m) counted.made ∙ is.kind ∙ ap Some (sym counted.kind);
        maker = counted.maker ∙ is.maker ∙ ap (λ m. option_map (λ f. f.actor) (entry_to_place m)) (sym counted.made);
        end = ends mid.dropped (kind_then run c (handle_of e.call.call) (p + 1)) refl
            (subst (EndsAt run c (handle_of e.call.call) p) (sym counted.dropped) is.end);
        calls = λ actor. counted.calls actor ∙ by_actor actor;
      } where
        entry_to_place : ℕ → Option (WorldEntry V)
        entry_to_place m = cond (nat_lt 0 m) (slice_get run.entries (m - 1)) None

        ends : (dropped : Option ℕ) (kind : Option Kind) → kind_then run c (handle_of e.call.call) (p + 1) ≡ kind
            → EndsAt run c (handle_of e.call.call) p dropped
            → EndsAt run c (handle_of e.call.call) (p + 1) (dropped_by dropped kind (p + 1))
        ends None None none end = (
          omega arith,
          omega arith,
          let back : p + 1 - 1 ≡ p =
              omega arith in subst (λ q. IsSome (kind_then run c (handle_of e.call.call) q)) (sym back) end,
          none,
        )
        ends None (Some kind) is_kind end = subst (λ o. IsSome o) (sym is_kind) refl
        ends (Some place) kind is_kind end = (end.0, omega (arith, end.1), end.2, end.3)

        by_actor : (actor : ℕ) → slice_index_or life.calls actor 0 + cond (nat_eq actor e.actor) 1 0 ≡ calls_to run c (handle_of e.call.call) actor (p + 1)
        by_actor actor =
            elim (cases_eq actor e.actor) [
              | inl same ↦ let yes : nat_eq actor e.actor ≡ true = grind (arith, nat_tests) in
                  let called : calls_after run c (handle_of e.call.call) actor p ≡ true =
                  ap (λ a. calls_after run c (handle_of e.call.call) a p) same ∙ the_call here there in
                  ap (λ k. slice_index_or life.calls actor 0 + cond k 1 0) yes ∙ ap (λ n. n + 1) (is.calls actor)
                  ∙ sym (call_more (handle_of e.call.call) actor p called)
              | inr apart ↦ let no : nat_eq actor e.actor ≡ false = grind (arith, nat_tests) in
                  let not_called : calls_after run c (handle_of e.call.call) actor p ≡ false =
                  other_actor (handle_of e.call.call) actor (λ same. apart (sym same)) in
                  ap (λ k. slice_index_or life.calls actor 0 + cond k 1 0) no
                  ∙ omega (arith, is.calls actor, no_call (handle_of e.call.call) actor p not_called)
            ]

      -- what a call on another channel leaves
      pub lives_there : (lives : List Life) → AreLivesTo run c p lives → e.call.channel ≢ c → AreLivesTo run c (p + 1) lives
      lives_there lives are apart =
          let same = channel_there shows run c p e within read apart in
          record {
            many = are.many ∙ sym (ap (λ o. option_map_or made_in o 0) same);
            each = λ h life here. life_on h life (are.each h life here) (ap (λ o. option_and_then (λ y. kind_in y h) o) same)
                (λ actor. other_channel h actor apart);
          }

    -- the lives of the handles that a channel opens with
    first_life : (x : ChanShown V) (h : ℕ) (kind : Kind) → slice_get (shown_at run 0) c ≡ Some x → kind_in x h ≡ Some kind → h < made_in x
        → IsLife run c h 0 (born kind 0 None)
    first_life x h kind here is made = record {
      made = omega (arith, made, made_is 0 x here);
      fresh = inl refl;
      inside = omega arith;
      kind = kind_is 0 x h here ∙ is;
      maker = refl;
      end = subst (λ o. IsSome o) (sym (kind_is 0 x h here ∙ is)) refl;
      calls = λ actor. refl;
    }

    abbrev first_lives : List Life
    first_lives = born Sender 0 None ∷ born Receiver 0 None ∷ []

    pub lives_first : (x : ChanShown V) → slice_get (shown_at run 0) c ≡ Some x → AreLivesTo run c 0 first_lives
    lives_first x here = by_spec (slice_get run.specs c) refl where
      by_spec : (o : Option (Spec V)) → slice_get run.specs c ≡ o → AreLivesTo run c 0 first_lives
      by_spec None none =
          let e : ◌≡◌ {A = Option (ChanShown V)} None (Some x) =
          ap (option_map opened_channel) (sym none) ∙ sym (slice_get-map opened_channel run.specs c) ∙ ap (λ xs. slice_get xs c) (shows run.specs run.entries 0)
          ∙ here in
          absurd cc
      by_spec (Some spec) found =
          opened_lives spec
          (ap (λ xs. slice_get xs c) (sym (shows run.specs run.entries 0)) ∙ slice_get-map opened_channel run.specs c
          ∙ ap (option_map opened_channel) found) where
            opened_lives : (s : Spec V) → slice_get (shown_at run 0) c ≡ Some (opened_channel s) → AreLivesTo run c 0 first_lives
            opened_lives (Broadcast capacity) there = record { many = sym (made_is 0 (opened_channel (Broadcast capacity)) there); each = each } where
              each : (h : ℕ) (life : Life) → slice_get first_lives h ≡ Some life → IsLife run c h 0 life
              each zero life is = let same : born Sender 0 None ≡ life = cc in
                  subst (IsLife run c 0 0) same (first_life (opened_channel (Broadcast capacity)) 0 Sender there refl (omega arith))
              each (suc zero) life is = let same : born Receiver 0 None ≡ life = cc in
                  subst (IsLife run c 1 0) same (first_life (opened_channel (Broadcast capacity)) 1 Receiver there refl (omega arith))
              each (suc (suc h)) life is = absurd cc
            opened_lives (Watch init) there = record { many = sym (made_is 0 (opened_channel (Watch init)) there); each = each } where
              each : (h : ℕ) (life : Life) → slice_get first_lives h ≡ Some life → IsLife run c h 0 life
              each zero life is = let same : born Sender 0 None ≡ life = cc in
                  subst (IsLife run c 0 0) same (first_life (opened_channel (Watch init)) 0 Sender there refl (omega arith))
              each (suc zero) life is = let same : born Receiver 0 None ≡ life = cc in
                  subst (IsLife run c 1 0) same (first_life (opened_channel (Watch init)) 1 Receiver there refl (omega arith))
              each (suc (suc h)) life is = absurd cc

    -- a channel that isn't there has no handles
    pub no_lives : slice_get (shown_at run (last_place run)) c ≡ None → AreLivesTo run c (last_place run) []
    no_lives none = record { many = sym (ap (λ o. option_map_or made_in o 0) none); each = λ h life is. absurd cc }

    -- handles are only made
    made_rises : (p : ℕ) → p < length run.entries → made_at run c p ≤ made_at run c (p + 1)
    made_rises p within = by_channel (slice_get (shown_at run p) c) refl where
      here_or_there : (x : ChanShown V) → slice_get (shown_at run p) c ≡ Some x → (e : WorldEntry V) → e ≡ get_or run.entries p e
          → made_at run c p ≤ made_at run c (p + 1)
      here_or_there x here e read =
          elim (cases_eq e.call.channel c) [
            | inl on ↦ let then = channel_here shows run c p e within read x here on in
                let before = made_is p x here in
                let after = made_is (p + 1) ((of_chan {V = V}).next x e.call.call) then in
                elim (steps x e.call.call).made [
                  | inl same ↦ omega (arith, before, after, same)
                  | inr more ↦ omega (arith, before, after, more.0)
                ]
            | inr apart ↦ let same : made_at run c (p + 1) ≡ made_at run c p =
                ap (λ o. option_map_or made_in o 0) (channel_there shows run c p e within read apart) in omega (arith, same)
          ]

      by_channel : (o : Option (ChanShown V)) → slice_get (shown_at run p) c ≡ o → made_at run c p ≤ made_at run c (p + 1)
      by_channel None none = let zero_is : made_at run c p ≡ 0 = ap (λ o. option_map_or made_in o 0) none in omega (arith, zero_is)
      by_channel (Some x) here = let one = element run.entries p within in here_or_there x here one.0 one.1

    -- nobody has called with a handle that wasn't made yet
    no_calls_yet : (h actor p : ℕ) → p ≤ length run.entries → made_at run c p ≤ h → calls_to run c h actor p ≡ 0
    no_calls_yet h actor zero inside past = refl
    no_calls_yet h actor (suc p) inside past =
        let within : p < length run.entries = omega arith in
        let next : suc p ≡ p + 1 = omega arith in
        let past_then : made_at run c (p + 1) ≤ h = subst (λ q. made_at run c q ≤ h) next past in
        let past_before : made_at run c p ≤ h = omega (arith, made_rises p within, past_then) in
        let one = element run.entries p within in
        ap (calls_to run c h actor) next ∙ no_call h actor p (unmade p one.0 within one.1 h actor past_before)
        ∙ no_calls_yet h actor p (omega arith) past_before

    module _ (p : ℕ) (e : WorldEntry V) (within : p < length run.entries) (read : e ≡ get_or run.entries p e) where
      -- the life of a handle that the call makes
      life_born : (h : ℕ) (kind : Kind) → made_at run c p ≡ h → h < made_at run c (p + 1) → kind_then run c h (p + 1) ≡ Some kind
          → IsLife run c h (p + 1) (born kind (p + 1) (Some e.actor))
      life_born h kind before after is =
          let back : p + 1 - 1 ≡ p = omega arith in
          record {
            made = after;
            fresh = inr (subst (λ q. made_at run c q ≤ h) (sym back) (omega (arith, before)));
            inside = omega arith;
            kind = is;
            maker =
                let above : nat_lt 0 (p + 1) ≡ true = grind (arith, nat_tests) in
                sym (ap (λ k. option_map (λ (f : WorldEntry V). f.actor) (cond k (slice_get run.entries (p + 1 - 1)) None)) above
                ∙ ap (λ q. option_map (λ (f : WorldEntry V). f.actor) (slice_get run.entries q)) back
                ∙ ap (λ o. option_map (λ (f : WorldEntry V). f.actor) o) (entry_is p e within read));
            end = subst (λ o. IsSome o) (sym is) refl;
            calls = λ actor. sym (no_call h actor p (unmade p e within read h actor (omega (arith, before)))
                ∙ no_calls_yet h actor p (omega (arith, within)) (omega (arith, before)));
          }

      -- what a call on the channel leaves
      pub lives_here : (x : ChanShown V) (lives mid new : List Life) → slice_get (shown_at run p) c ≡ Some x → e.call.channel ≡ c → AreLivesTo run c p lives
          → CountedCall lives mid (handle_of e.call.call) e.actor (kind_in ((of_chan {V = V}).next x e.call.call) (handle_of e.call.call)) (p + 1)
          → AddedMade mid new ((of_chan {V = V}).next x e.call.call) (p + 1) e.actor → AreLivesTo run c (p + 1) new
      lives_here x lives mid new here on are call made = by_made made where
        h : ℕ
        h = handle_of e.call.call

        y : ChanShown V
        y = (of_chan {V = V}).next x e.call.call

        there : slice_get (shown_at run (p + 1)) c ≡ Some y
        there = channel_here shows run c p e within read x here on

        before : made_at run c p ≡ made_in x
        before = made_is p x here

        after : made_at run c (p + 1) ≡ made_in y
        after = made_is (p + 1) y there

        step : Steps x y h
        step = steps x e.call.call

        -- a handle that was there
        old_life : (g : ℕ) (life : Life) → slice_get mid g ≡ Some life → IsLife run c g (p + 1) life
        old_life g life found =
            let inside : g < length lives = omega (arith, slice_get_within mid g life found, call.many) in
            let made_before : g < made_in x = omega (arith, inside, are.many, before) in
            elim (cases_eq g h) [
              | inl same ↦
                  let is_there : slice_get mid h ≡ Some life = ap (slice_get mid) (sym same) ∙ found in
                  let one = element lives h (omega (arith, inside, same)) in
                  let was : slice_get lives h ≡ Some one.0 = slice_get-get_or lives h one.0 (omega (arith, inside, same)) ∙ ap Some (sym one.1) in
                  let took = call.own one.0 life was is_there in
                  let kind_is_then : kind_then run c h (p + 1) ≡ kind_in y h = kind_is (p + 1) y h there in
                  let lived = life_called p e within read one.0 took.0 (are.each h one.0 was) on (omega (arith, made_before, before, same)) took.1 in
                  let life_is : with_kind took.0 (kind_then run c h (p + 1)) (p + 1) ≡ life = ap (λ k. with_kind took.0 k (p + 1)) kind_is_then ∙ sym took.2 in
                  subst (λ k. IsLife run c k (p + 1) life) (sym same) (subst (IsLife run c h (p + 1)) life_is lived)
              | inr apart ↦
                  let was : slice_get lives g ≡ Some life = sym (call.others g apart) ∙ found in
                  let same_kind : kind_then run c g (p + 1) ≡ kind_then run c g p =
                  kind_is (p + 1) y g there ∙ step.others g apart made_before ∙ sym (kind_is p x g here) in
                  life_on p e within read g life (are.each g life was) same_kind (λ actor. other_handle p e within read g actor apart)
            ]

        by_made : AddedMade mid new y (p + 1) e.actor → AreLivesTo run c (p + 1) new
        by_made (inl same) = record {
          many = ap length same.0 ∙ call.many ∙ are.many ∙ before ∙ none_made ∙ sym after;
          each = λ g life found. old_life g life (ap (λ ls. slice_get ls g) (sym same.0) ∙ found);
        } where
          none_made : made_in x ≡ made_in y
          none_made =
              elim step.made [
                | inl as_many ↦ sym as_many
                | inr more ↦
                    let long : length mid ≡ made_in x = call.many ∙ are.many ∙ before in
                    let none : kind_in y (length mid) ≡ None = same.1 (omega (arith, long, more.0)) in
                    let some : IsSome (kind_in y (length mid)) = subst (λ n. IsSome (kind_in y n)) (sym long) more.1 in
                    absurd (not_some (kind_in y (length mid)) none some)
              ] where
                not_some : (o : Option Kind) → o ≡ None → IsSome o → ⊥
                not_some None none some = absurd cc
                not_some (Some kind) none some = absurd cc
        by_made (inr one) =
            let long : length mid ≡ made_in x = call.many ∙ are.many ∙ before in
            let longer : made_in y ≡ made_in x + 1 = elim step.made [ inl as_many ↦ absurd (omega (arith, as_many, long, one.1)) | inr more ↦ more.0 ] in
            record {
              many = ap length one.3 ∙ length_push mid (born one.0 (p + 1) (Some e.actor)) ∙ omega (arith, long, longer, after);
              each = λ g life found.
                  elim (cases_lt g (length mid)) [
                    | inl below ↦ old_life g life (sym (before_push mid g (born one.0 (p + 1) (Some e.actor)) below) ∙ ap (λ ls. slice_get ls g) (sym one.3)
                        ∙ found)
                    | inr above ↦
                        let within_new : g < length new = slice_get_within new g life found in
                        let last : g ≡ length mid = omega (arith, above, within_new, ap length one.3, length_push mid (born one.0 (p + 1) (Some e.actor))) in
                        let at_last : slice_get new g ≡ Some (born one.0 (p + 1) (Some e.actor)) =
                        ap (slice_get new) last ∙ ap (λ ls. slice_get ls (length mid)) one.3 ∙ at_push mid (born one.0 (p + 1) (Some e.actor)) in
                        let life_is : born one.0 (p + 1) (Some e.actor) ≡ life = same_element (sym at_last ∙ found) in
                        let made_now : length mid < made_at run c (p + 1) = omega (arith, one.1, after) in
                        let lived = life_born (length mid) one.0 (before ∙ sym long) made_now (kind_is (p + 1) y (length mid) there ∙ one.2) in
                        subst (λ k. IsLife run c k (p + 1) life) (sym last) (subst (IsLife run c (length mid) (p + 1)) life_is lived)
                  ];
            } where
              before_push : {X : Type 0} (xs : List X) (i : ℕ) (x : X) → i < length xs → slice_get (xs ++ x ∷ []) i ≡ slice_get xs i
              before_push [] i x below = absurd (omega arith)
              before_push (z ∷ xs) zero x below = refl
              before_push (z ∷ xs) (suc i) x below = before_push xs i x (omega arith)

              at_push : {X : Type 0} (xs : List X) (x : X) → slice_get (xs ++ x ∷ []) (length xs) ≡ Some x
              at_push [] x = refl
              at_push (z ∷ xs) x = at_push xs x
