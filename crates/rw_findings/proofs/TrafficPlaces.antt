-- What came on the channels of a run, from place to place.
use Rattle.std.proofs.Common.{◌≡◌, ℕ, zero, suc, ◌+◌, ◌<◌, ◌^◌, Bool, true, false, List, [], ◌∷◌, ◌++◌, length, get_or, inl, inr}
use Rattle.std.proofs.Common.{◌≤◌, length-set, refl, ap, sym, ◌∙◌, subst, arith}
use Rattle.std.specs.Prelude.{Option, Some, None, is_some, slice_get, slice_set}
use Rattle.std.proofs.lemmas.Bool.{cases_eq, cases_lt}
use Rattle.std.proofs.lemmas.List.{get_or_past, get_or-set_other, get_or-set_same, length_push}
use Rattle.rw_journal.specs.Run.{Run}
use Rattle.rw_world.specs.Machines.{ChanShown, of_chan}
use Rattle.rw_world.specs.Records.{ShowsAtPlaces}
use Rattle.rw_world.specs.Specified.{WorldEntry}
use Rattle.rw_navigator.specs.Places.{shown_at}
use Rattle.rw_findings.specs.Lives.{AreLivesTo}
use Rattle.rw_findings.specs.Traffic.{AreFollowed, AreOpened, AreTrafficTo, ChannelTraffic, HaveRoom, IsFollowedOn, IsOpened, IsTrafficTo}
use Rattle.rw_findings.proofs.FollowedPlaces.{channel_here}
use Rattle.rw_findings.proofs.LifePlaces.{few_calls, lives_first, lives_here, lives_there, same_element}
use Rattle.rw_findings.proofs.LossRuns.{length_at}
use Rattle.rw_findings.proofs.ValuePlaces.{values_first, values_on, values_there}

-- ---- lists

element : {X : Type 0} (xs : List X) (i : ℕ) → i < length xs → (x : X) × (slice_get xs i ≡ Some x)
element [] i within = absurd (omega arith)
element (x ∷ xs) zero within = (x, refl)
element (x ∷ xs) (suc i) within = element xs i (omega arith)

-- what is read is there
read_within : {X : Type 0} (os : List (Option X)) (i : ℕ) (x : X) → get_or os i None ≡ Some x → i < length os
read_within os i x found =
    elim (cases_lt i (length os)) [
      | inl within ↦ within
      | inr past ↦ let e : ◌≡◌ {A = Option _} None (Some x) = sym (get_or_past os i None (omega (arith, past))) ∙ found in absurd cc
    ]

read_before : {X : Type 0} (xs : List X) (i : ℕ) (x d : X) → i < length xs → get_or (xs ++ x ∷ []) i d ≡ get_or xs i d
read_before [] i x d below = absurd (omega arith)
read_before (z ∷ xs) zero x d below = refl
read_before (z ∷ xs) (suc i) x d below = read_before xs i x d (omega arith)

read_pushed : {X : Type 0} (xs : List X) (x d : X) → get_or (xs ++ x ∷ []) (length xs) d ≡ x
read_pushed [] x d = refl
read_pushed (z ∷ xs) x d = read_pushed xs x d

was_some : {X : Type 0} (old new : Option X) (x : X) → is_some new ≡ is_some old → new ≡ Some x → (y : X) × (old ≡ Some y)
was_some None new x same found = let e : true ≡ false = ap is_some (sym found) ∙ same in absurd cc
was_some (Some y) new x same found = (y, refl)

module _ {V : Type 0} where
  -- ---- at the opening

  pub opened_none : (xs : List (ChanShown V)) (channels : List Bool) → AreOpened xs channels 0 []
  opened_none xs channels = record { many = refl; each = λ c x below here. absurd (omega (arith, below)) }

  pub opened_more : (xs : List (ChanShown V)) (channels : List Bool) (n : ℕ) (found : List (Option (ChannelTraffic V))) (o : Option (ChannelTraffic V))
      → AreOpened xs channels n found
      → ((x : ChanShown V) → slice_get xs n ≡ Some x → IsOpened (get_or channels n false) x o) → AreOpened xs channels (n + 1) (found ++ o ∷ [])
  opened_more xs channels n found o are is = record {
    many = length_push found o ∙ ap (λ k. k + 1) are.many;
    each = λ c x below here.
        elim (cases_lt c n) [
          | inl before ↦
              subst (IsOpened (get_or channels c false) x) (sym (read_before found c o None (omega (arith, before, are.many)))) (are.each c x before here)
          | inr not_before ↦
              let last : c ≡ n = omega (arith, below, not_before) in
              let read : get_or (found ++ o ∷ []) c None ≡ o =
              ap (λ k. get_or (found ++ o ∷ []) k None) (last ∙ sym are.many) ∙ read_pushed found o None in
              subst (IsOpened (get_or channels c false) x) (sym read)
              (subst (λ k. IsOpened (get_or channels k false) x o) (sym last) (is x (ap (slice_get xs) (sym last) ∙ here)))
        ];
  }

  -- ---- an entry

  pub followed_none : (old : List (Option (ChannelTraffic V))) (e : WorldEntry V) (xs : List (ChanShown V)) (place : ℕ)
      → length old ≤ e.call.channel → AreFollowed old old e xs place
  followed_none old e xs place past = record {
    many = refl;
    others = λ c apart. refl;
    own = λ x here. record {
      same = refl;
      own = λ before after was is. absurd (omega (arith, past, read_within old e.call.channel before was));
    };
  }

  pub followed_missing : (old : List (Option (ChannelTraffic V))) (e : WorldEntry V) (xs : List (ChanShown V)) (place : ℕ)
      → slice_get xs e.call.channel ≡ None → AreFollowed old old e xs place
  followed_missing old e xs place missing = record {
    many = refl;
    others = λ c apart. refl;
    own = λ x here. let same : ◌≡◌ {A = Option (ChanShown V)} None (Some x) = sym missing ∙ here in absurd cc;
  }

  pub followed_on : (old : List (Option (ChannelTraffic V))) (o : Option (ChannelTraffic V)) (e : WorldEntry V) (xs : List (ChanShown V)) (y : ChanShown V)
      (place : ℕ) → e.call.channel < length old → slice_get xs e.call.channel ≡ Some y → IsFollowedOn (get_or old e.call.channel None) o e y place
      → AreFollowed old (slice_set old e.call.channel o) e xs place
  followed_on old o e xs y place within shown followed = record {
    many = length-set old e.call.channel o;
    others = λ c apart. get_or-set_other old e.call.channel c o None apart;
    own = λ x here.
        let same : y ≡ x = same_element (sym shown ∙ here) in
        subst (λ n. IsFollowedOn (get_or old e.call.channel None) n e x place) (sym (get_or-set_same old e.call.channel o None within))
        (subst (λ z. IsFollowedOn (get_or old e.call.channel None) o e z place) same followed);
  }

  module _ (shows : ShowsAtPlaces V) (run : Run V) (channels : List Bool) where
    long_at : (p : ℕ) → length (shown_at run p) ≡ length run.specs
    long_at p = ap length (sym (shows run.specs run.entries p)) ∙ length_at run p

    -- each channel of the run is shown at each place
    there_at : (p c : ℕ) → c < length run.specs → (x : ChanShown V) × (slice_get (shown_at run p) c ≡ Some x)
    there_at p c within = element (shown_at run p) c (omega (arith, within, long_at p))

    pub traffic_first : (xs : List (ChanShown V)) (found : List (Option (ChannelTraffic V))) → xs ≡ shown_at run 0 → AreOpened xs channels (length xs) found
        → AreTrafficTo run channels 0 found
    traffic_first xs found shown opened_xs = record { many = many; asked = asked; each = each } where
      opened : AreOpened (shown_at run 0) channels (length (shown_at run 0)) found
      opened = subst (λ ys. AreOpened ys channels (length ys) found) shown opened_xs

      many : length found ≡ length run.specs
      many = opened.many ∙ long_at 0

      asked : (c : ℕ) → c < length run.specs → is_some (get_or found c None) ≡ get_or channels c false
      asked c within = let one = there_at 0 c within in (opened.each c one.0 (omega (arith, within, long_at 0)) one.1).asked

      each : (c : ℕ) (t : ChannelTraffic V) → get_or found c None ≡ Some t → IsTrafficTo run c 0 t
      each c t is =
          let within : c < length run.specs = omega (arith, read_within found c t is, many) in
          let one = there_at 0 c within in
          let at = opened.each c one.0 (omega (arith, within, long_at 0)) one.1 in
          record {
            values = values_first shows run c one.0 t.values one.1 (at.values t is);
            lives = subst (AreLivesTo run c 0) (sym (at.lives t is)) (lives_first run c shows one.0 one.1);
          }

    -- ---- from place to place

    module _ (p : ℕ) (e : WorldEntry V) (within : p < length run.entries) (read : e ≡ get_or run.entries p e) where
      pub traffic_next : (xs : List (ChanShown V)) (old new : List (Option (ChannelTraffic V))) → xs ≡ shown_at run (p + 1) → AreTrafficTo run channels p old
          → AreFollowed old new e xs (p + 1) → AreTrafficTo run channels (p + 1) new
      traffic_next xs old new shown are followed = record { many = followed.many ∙ are.many; asked = asked; each = each } where
        -- what is shown where the entry led to
        there : (c : ℕ) (x : ChanShown V) → slice_get (shown_at run p) c ≡ Some x → e.call.channel ≡ c
            → slice_get xs e.call.channel ≡ Some ((of_chan {V = V}).next x e.call.call)
        there c x here own =
            ap (λ ys. slice_get ys e.call.channel) shown ∙ ap (slice_get (shown_at run (p + 1))) own ∙ channel_here shows run c p e within read x here own

        asked : (c : ℕ) → c < length run.specs → is_some (get_or new c None) ≡ get_or channels c false
        asked c inside =
            elim (cases_eq c e.call.channel) [
              | inl own ↦
                  let one = there_at p c inside in
                  let on = followed.own _ (there c one.0 one.1 (sym own)) in
                  subst (λ k. is_some (get_or new k None) ≡ is_some (get_or old k None)) (sym own) on.same ∙ are.asked c inside
              | inr apart ↦ ap is_some (followed.others c apart) ∙ are.asked c inside
            ]

        on_channel : (c : ℕ) (t : ChannelTraffic V) (x : ChanShown V) → slice_get (shown_at run p) c ≡ Some x → e.call.channel ≡ c
            → get_or new c None ≡ Some t → IsTrafficTo run c (p + 1) t
        on_channel c t x here own is =
            let y = (of_chan {V = V}).next x e.call.call in
            let on = followed.own y (there c x here own) in
            let is_own : get_or new e.call.channel None ≡ Some t = ap (λ k. get_or new k None) own ∙ is in
            let was = was_some (get_or old e.call.channel None) (get_or new e.call.channel None) t on.same is_own in
            let before = was.0 in
            let took = on.own before t was.1 is_own in
            let past = are.each c before (ap (λ k. get_or old k None) (sym own) ∙ was.1) in
            record {
              values = values_on shows run c p x y before.values t.values within here (channel_here shows run c p e within read x here own) past.values
                  took.values;
              lives = lives_here run c shows p e within read x before.lives took.mid t.lives here own past.lives took.call took.made;
            }

        each : (c : ℕ) (t : ChannelTraffic V) → get_or new c None ≡ Some t → IsTrafficTo run c (p + 1) t
        each c t is =
            let one = there_at p c (omega (arith, read_within new c t is, followed.many, are.many)) in
            elim (cases_eq e.call.channel c) [
              | inl own ↦ on_channel c t one.0 one.1 own is
              | inr apart ↦
                  let past = are.each c t (sym (followed.others c (λ same. apart (sym same))) ∙ is) in
                  record {
                    values = values_there shows run c p e one.0 t.values within read one.1 apart past.values;
                    lives = lives_there run c shows p e within read t.lives past.lives apart;
                  }
            ]

    -- the counts of calls can grow by one
    pub have_room : (p : ℕ) (found : List (Option (ChannelTraffic V))) → p < 2 ^ 63 → AreTrafficTo run channels p found → HaveRoom found
    have_room p found few are c t is h actor life here =
        omega (arith, ((are.each c t is).lives.each h life here).calls actor, few_calls run c h actor p, few)
