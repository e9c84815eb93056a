-- The lives of a channel's handles are its only ones, and so are its values.
use Rattle.std.proofs.Common.{◌≡◌, ℕ, zero, suc, ◌+◌, ◌-◌, ◌<◌, ◌≤◌, ◌⊎◌, List, [], ◌∷◌, length, get_or, inl, inr, refl, ap, sym, ◌∙◌, subst, arith}
use Rattle.std.specs.Prelude.{Option, Some, None, IsSome, slice_get, option_and_then, option_map}
use Rattle.std.specs.Option.{option_map_or}
use Rattle.std.proofs.lemmas.Bool.{cases_eq, cases_order}
use Rattle.rw_handles.specs.declared.kinds.Slot.{Slot}
use Rattle.rw_handles.specs.declared.kinds.Slot.TheVariants.{Live, Spent}
use Rattle.rw_handles.specs.Slots.{kind_at, lookup_at}
use Rattle.rw_broadcast.specs.declared.calls.BReply.TheVariants as breply
use Rattle.rw_broadcast.specs.Channel as b
use Rattle.rw_broadcast.specs.Shown as bs
use Rattle.rw_watch.specs.declared.calls.WReply.TheVariants as wreply
use Rattle.rw_watch.specs.Channel as w
use Rattle.rw_watch.specs.Shown as ws
use Rattle.rw_journal.specs.Run.{Run}
use Rattle.rw_world.specs.Channel.{handle_of}
use Rattle.rw_world.specs.Kinds.{broadcast_shown, watch_shown}
use Rattle.rw_world.specs.Machines.{ChanShown, of_chan}
use Rattle.rw_world.specs.Records.{ShowsAtPlaces}
use Rattle.rw_world.specs.Specified.{WorldEntry}
use Rattle.rw_world.specs.declared.channels.ChanCall.{ChanCall}
use Rattle.rw_world.specs.declared.channels.ChanCall.TheVariants as call_of
use Rattle.rw_world.proofs.Places.{shows_at_places}
use Rattle.rw_navigator.specs.Places.{entry_to, last_place, shown_at}
use Rattle.rw_findings.specs.Laws.{IsSameLife, LivesAreUnique, ValuesAreUnique}
use Rattle.rw_findings.specs.Lives.{EndsAt, IsLife, Life, kind_in, kind_then, made_at, made_in}
use Rattle.rw_findings.specs.Values.{GoesAt, IsValue, count_at, count_in, oldest_at, oldest_in, value_at}
use Rattle.rw_findings.specs.declared.values.value.ChannelValue.{ChannelValue}
use Rattle.rw_findings.proofs.FollowedPlaces.{allowed_is, channel_here, channel_there}
use Rattle.rw_findings.proofs.LifePlaces.{kind_is, made_is, same_element}
use Rattle.rw_findings.proofs.LifeSteps.{steps}
use Rattle.rw_findings.proofs.ValuePlaces.{Comes, comes, count_is, oldest_is}

element : {X : Type 0} (xs : List X) (i : ℕ) → i < length xs → (x : X) × (x ≡ get_or xs i x)
element [] i within = absurd (omega arith)
element (x ∷ xs) zero within = (x, refl)
element (x ∷ xs) (suc i) within = element xs i (omega arith)

-- lists that are as long and have the same elements
same_list : {X : Type 0} (xs ys : List X) → length xs ≡ length ys
    → ((i : ℕ) (x y : X) → slice_get xs i ≡ Some x → slice_get ys i ≡ Some y → x ≡ y) → xs ≡ ys
same_list [] [] long same = refl
same_list [] (y ∷ ys) long same = absurd (omega (arith, long))
same_list (x ∷ xs) [] long same = absurd (omega (arith, long))
same_list (x ∷ xs) (y ∷ ys) long same =
    ap (λ z. z ∷ xs) (same 0 x y refl refl) ∙ ap (λ zs. y ∷ zs) (same_list xs ys (omega (arith, long)) (λ i. same (suc i)))

-- ---- a number that doesn't fall from place to place

module _ (at : ℕ → ℕ) (last : ℕ) (rises : (p : ℕ) → p < last → at p ≤ at (p + 1)) where
  rises_by : (p n : ℕ) → p + n ≤ last → at p ≤ at (p + n)
  rises_by p zero within = let e : p ≡ p + 0 = omega arith in subst (λ q. at p ≤ at q) e (omega arith)
  rises_by p (suc n) within =
      let before : at p ≤ at (p + n) = rises_by p n (omega (arith, within)) in
      let next : at (p + n) ≤ at (p + n + 1) = rises (p + n) (omega (arith, within)) in
      let e : p + n + 1 ≡ p + suc n = omega arith in
      subst (λ q. at p ≤ at q) e (omega (arith, before, next))

  pub rises_to : (p q : ℕ) → p ≤ q → q ≤ last → at p ≤ at q
  rises_to p q below within = let e : p + (q - p) ≡ q = omega (arith, below) in subst (λ r. at p ≤ at r) e (rises_by p (q - p) (omega (arith, below, within)))

  -- the first place at which it is above a number
  abbrev IsFirstAbove : (number place : ℕ) → Type 0
  IsFirstAbove number place = (place ≤ last) × (number < at place) × ((place ≡ 0) ⊎ (at (place - 1) ≤ number))

  not_later : (number a b : ℕ) → IsFirstAbove number a → IsFirstAbove number b → a < b → ⊥
  not_later number a b first second below =
      elim second.2 [
        | inl zero_is ↦ omega (arith, zero_is, below)
        | inr before ↦ omega (arith, before, first.1, rises_to a (b - 1) (omega (arith, below)) (omega (arith, second.0, below)))
      ]

  one_first : (number a b : ℕ) → IsFirstAbove number a → IsFirstAbove number b → a ≡ b
  one_first number a b first second =
      elim (cases_order a b) [
        | inl same ↦ same
        | inr (inl below) ↦ absurd (not_later number a b first second below)
        | inr (inr above) ↦ absurd (not_later number b a second first above)
      ]

-- ---- handles

spent_there : {X : Type 0} (slots : List (Slot X)) (h : ℕ) → h < length slots → kind_at (slice_get slots h) ≡ None → slice_get slots h ≡ Some Spent
spent_there [] h within none = absurd (omega (arith, within))
spent_there (Spent ∷ slots) zero within none = refl
spent_there (Live kind x ∷ slots) zero within none = absurd cc
spent_there (slot ∷ slots) (suc h) within none = spent_there slots h (omega (arith, within)) none

kind_within : {X : Type 0} (slots : List (Slot X)) (h : ℕ) → IsSome (kind_at (slice_get slots h)) → h < length slots
kind_within [] h some = absurd cc
kind_within (slot ∷ slots) zero some = omega arith
kind_within (slot ∷ slots) (suc h) some = let rest : h < length slots = kind_within slots h some in omega (arith, rest)

not_some : {X : Type 0} (o : Option X) → o ≡ None → IsSome o → ⊥
not_some None none some = absurd cc
not_some (Some x) none some = absurd cc

module _ {V : Type 0} where
  -- a call with a dropped handle is refused
  own_gone : (x : ChanShown V) (call : ChanCall V) → handle_of call < made_in x → kind_in x (handle_of call) ≡ None
      → kind_in ((of_chan {V = V}).next x call) (handle_of call) ≡ None
  own_gone (broadcast_shown x) (call_of.B call) made gone =
      let spent : slice_get x.slots (b.handle_of call) ≡ Some Spent = spent_there x.slots (b.handle_of call) made gone in
      let idle : b.effect (bs.channel_of x) call ≡ (b.Keep, breply.Gone) =
      ap (λ o. b.effect_found (bs.channel_of x) call (lookup_at (b.wanted_kind call) o)) spent in
      ap (λ (e : b.Change V × _). kind_at (slice_get (bs.with_change x e.0).slots (b.handle_of call))) idle ∙ gone
  own_gone (broadcast_shown x) (call_of.W call) made gone = gone
  own_gone (watch_shown y) (call_of.B call) made gone = gone
  own_gone (watch_shown y) (call_of.W call) made gone =
      let spent : slice_get y.slots (w.handle_of call) ≡ Some Spent = spent_there y.slots (w.handle_of call) made gone in
      let idle : w.effect y call ≡ (w.Keep, wreply.Gone) = ap (λ o. w.effect_found y call (lookup_at (w.wanted_kind call) o)) spent in
      ap (λ (e : w.Change V × _). kind_at (slice_get (ws.with_change y e.0).slots (w.handle_of call))) idle ∙ gone

  -- a dropped handle stays so
  gone_on : (x : ChanShown V) (call : ChanCall V) (h : ℕ) → h < made_in x → kind_in x h ≡ None → kind_in ((of_chan {V = V}).next x call) h ≡ None
  gone_on x call h made gone =
      elim (cases_eq h (handle_of call)) [
        | inl same ↦ subst (λ k. kind_in ((of_chan {V = V}).next x call) k ≡ None) (sym same)
            (own_gone x call (subst (λ k. k < made_in x) same made) (subst (λ k. kind_in x k ≡ None) same gone))
        | inr apart ↦ (steps x call).others h apart made ∙ gone
      ]

  kind_made : (x : ChanShown V) (h : ℕ) → IsSome (kind_in x h) → h < made_in x
  kind_made (broadcast_shown x) h some = kind_within x.slots h some
  kind_made (watch_shown y) h some = kind_within y.slots h some

  module _ (shows : ShowsAtPlaces V) (run : Run V) (c : ℕ) where
    -- what a channel shows one place on
    next_there : (p : ℕ) (x : ChanShown V) → p < length run.entries → slice_get (shown_at run p) c ≡ Some x
        → (slice_get (shown_at run (p + 1)) c ≡ Some x) ⊎ ((call : ChanCall V) × (slice_get (shown_at run (p + 1)) c ≡ Some ((of_chan {V = V}).next x call)))
    next_there p x within here =
        let one = element run.entries p within in
        let e = one.0 in
        elim (cases_eq e.call.channel c) [
          | inl on ↦ inr (e.call.call, channel_here shows run c p e within one.1 x here on)
          | inr apart ↦ inl (channel_there shows run c p e within one.1 apart ∙ here)
        ]

    -- ---- lives

    made_rises : (p : ℕ) → p < last_place run → made_at run c p ≤ made_at run c (p + 1)
    made_rises p within = by_channel (slice_get (shown_at run p) c) refl where
      by_channel : (o : Option (ChanShown V)) → slice_get (shown_at run p) c ≡ o → made_at run c p ≤ made_at run c (p + 1)
      by_channel None here = let none : made_at run c p ≡ 0 = ap (λ o. option_map_or made_in o 0) here in omega (arith, none)
      by_channel (Some x) here =
          elim (next_there p x within here) [
            | inl same ↦ omega (arith, made_is run c p x here, made_is run c (p + 1) x same)
            | inr call ↦ elim (steps x call.0).made [
              | inl as_many ↦ omega (arith, made_is run c p x here, made_is run c (p + 1) ((of_chan {V = V}).next x call.0) call.1, as_many)
              | inr more ↦ omega (arith, made_is run c p x here, made_is run c (p + 1) ((of_chan {V = V}).next x call.0) call.1, more.0)
            ]
          ]

    made_by : (h p : ℕ) → IsSome (kind_then run c h p) → h < made_at run c p
    made_by h p some = by_channel (slice_get (shown_at run p) c) refl where
      by_channel : (o : Option (ChanShown V)) → slice_get (shown_at run p) c ≡ o → h < made_at run c p
      by_channel None here = absurd (not_some (kind_then run c h p) (ap (λ o. option_and_then (λ x. kind_in x h) o) here) some)
      by_channel (Some x) here =
          let kind : IsSome (kind_in x h) = subst (λ o. IsSome o) (kind_is run c p x h here) some in
          omega (arith, made_is run c p x here, kind_made x h kind)

    still_gone : (h p : ℕ) → p < last_place run → h < made_at run c p → kind_then run c h p ≡ None → kind_then run c h (p + 1) ≡ None
    still_gone h p within made gone = by_channel (slice_get (shown_at run p) c) refl where
      by_channel : (o : Option (ChanShown V)) → slice_get (shown_at run p) c ≡ o → kind_then run c h (p + 1) ≡ None
      by_channel None here = let none : made_at run c p ≡ 0 = ap (λ o. option_map_or made_in o 0) here in absurd (omega (arith, none, made))
      by_channel (Some x) here =
          let gone_here : kind_in x h ≡ None = sym (kind_is run c p x h here) ∙ gone in
          elim (next_there p x within here) [
            | inl same ↦ kind_is run c (p + 1) x h same ∙ gone_here
            | inr call ↦
                let made_here : h < made_in x = omega (arith, made, made_is run c p x here) in
                kind_is run c (p + 1) ((of_chan {V = V}).next x call.0) h call.1 ∙ gone_on x call.0 h made_here gone_here
          ]

    gone_by : (h p n : ℕ) → p + n ≤ last_place run → h < made_at run c p → kind_then run c h p ≡ None → kind_then run c h (p + n) ≡ None
    gone_by h p zero within made gone = let e : p ≡ p + 0 = omega arith in subst (λ q. kind_then run c h q ≡ None) e gone
    gone_by h p (suc n) within made gone =
        let before = gone_by h p n (omega (arith, within)) made gone in
        let rise : made_at run c p ≤ made_at run c (p + n) = rises_by (made_at run c) (last_place run) made_rises p n (omega (arith, within)) in
        let e : p + n + 1 ≡ p + suc n = omega arith in
        subst (λ q. kind_then run c h q ≡ None) e (still_gone h (p + n) (omega (arith, within)) (omega (arith, made, rise)) before)

    -- from the place where a handle was dropped it isn't there
    gone_since : (h p q : ℕ) → EndsAt run c h (last_place run) (Some p) → p ≤ q → q ≤ last_place run → kind_then run c h q ≡ None
    gone_since h p q end below within =
        let rise = made_rises (p - 1) (omega (arith, end.0, end.1)) in
        let back : p - 1 + 1 ≡ p = omega (arith, end.0) in
        let made : h < made_at run c p =
        subst (λ r. h < made_at run c r) back (omega (arith, made_by h (p - 1) end.2, rise)) in
        let e : p + (q - p) ≡ q = omega (arith, below) in
        subst (λ r. kind_then run c h r ≡ None) e (gone_by h p (q - p) (omega (arith, below, within)) made end.3)

    one_end : (h : ℕ) (a b : Option ℕ) → EndsAt run c h (last_place run) a → EndsAt run c h (last_place run) b → a ≡ b
    one_end h None None first second = refl
    one_end h None (Some q) first second = absurd (not_some (kind_then run c h (last_place run))
        (gone_since h q (last_place run) second second.1 (omega arith)) first)
    one_end h (Some p) None first second = absurd (not_some (kind_then run c h (last_place run))
        (gone_since h p (last_place run) first first.1 (omega arith)) second)
    one_end h (Some p) (Some q) first second =
        elim (cases_order p q) [
          | inl same ↦ ap Some same
          | inr (inl below) ↦ absurd (not_some (kind_then run c h (q - 1))
              (gone_since h p (q - 1) first (omega (arith, below)) (omega (arith, second.1))) second.2)
          | inr (inr above) ↦ absurd (not_some (kind_then run c h (p - 1))
              (gone_since h q (p - 1) second (omega (arith, above)) (omega (arith, first.1))) first.2)
        ]

    one_life : (h : ℕ) (a b : Life) → IsLife run c h (last_place run) a → IsLife run c h (last_place run) b → IsSameLife a b
    one_life h a b first second =
        let made : a.made ≡ b.made = one_first (made_at run c) (last_place run) made_rises h a.made b.made (first.inside, first.made, first.fresh)
        (second.inside, second.made, second.fresh) in
        record {
          kind = same_element (sym first.kind ∙ ap (λ p. kind_then run c h p) made ∙ second.kind);
          made = made;
          maker = first.maker ∙ ap (λ p. option_map (λ (e : WorldEntry V). e.actor) (entry_to run p)) made ∙ sym second.maker;
          dropped = one_end h a.dropped b.dropped first.end second.end;
          calls = λ actor. first.calls actor ∙ sym (second.calls actor);
        }

    -- ---- values

    pub comes_there : (p : ℕ) → p < last_place run → (count_at run c p ≤ count_at run c (p + 1)) × (oldest_at run c p ≤ oldest_at run c (p + 1))
    comes_there p within = by_channel (slice_get (shown_at run p) c) refl where
      by_step : (x y : ChanShown V) → slice_get (shown_at run p) c ≡ Some x → slice_get (shown_at run (p + 1)) c ≡ Some y → Comes x y
          → (count_at run c p ≤ count_at run c (p + 1)) × (oldest_at run c p ≤ oldest_at run c (p + 1))
      by_step x y here there (inl none) = (
        omega (arith, count_is shows run c p x here, count_is shows run c (p + 1) y there, none.0),
        omega (arith, oldest_is shows run c p x here, oldest_is shows run c (p + 1) y there, none.1),
      )
      by_step x y here there (inr came) = (
        omega (arith, count_is shows run c p x here, count_is shows run c (p + 1) y there, came.count),
        omega (arith, oldest_is shows run c p x here, oldest_is shows run c (p + 1) y there, came.oldest),
      )

      by_channel : (o : Option (ChanShown V)) → slice_get (shown_at run p) c ≡ o
          → (count_at run c p ≤ count_at run c (p + 1)) × (oldest_at run c p ≤ oldest_at run c (p + 1))
      by_channel None here =
          let none : count_at run c p ≡ 0 = ap (λ o. option_map_or count_in o 0) here in
          let old : oldest_at run c p ≡ 0 = ap (λ o. option_map_or oldest_in o 0) here in
          (omega (arith, none), omega (arith, old))
      by_channel (Some x) here =
          elim (next_there p x within here) [
            | inl same ↦ by_step x x here same (inl (refl, refl))
            | inr call ↦ by_step x ((of_chan {V = V}).next x call.0) here call.1 (comes x call.0 (allowed_is shows run c p x here))
          ]

    one_going : (n : ℕ) (a b : Option ℕ) → GoesAt run c n (last_place run) a → GoesAt run c n (last_place run) b → a ≡ b
    one_going n None None first second = refl
    one_going n None (Some q) first second = absurd (omega (
      arith,
      first,
      second.3,
      rises_to (oldest_at run c) (last_place run) (λ p within. (comes_there p within).1) q (last_place run) second.1 (omega arith),
    ))
    one_going n (Some p) None first second = absurd (omega (
      arith,
      second,
      first.3,
      rises_to (oldest_at run c) (last_place run) (λ r within. (comes_there r within).1) p (last_place run) first.1 (omega arith),
    ))
    one_going n (Some p) (Some q) first second = ap Some (one_first (oldest_at run c) (last_place run) (λ r within. (comes_there r within).1) n p q
        (first.1, first.3, inr first.2) (second.1, second.3, inr second.2))

    one_value : (n : ℕ) (a b : ChannelValue V) → IsValue run c n (last_place run) a → IsValue run c n (last_place run) b → a ≡ b
    one_value n a b first second =
        let since : a.since ≡ b.since = one_first (count_at run c) (last_place run) (λ p within. (comes_there p within).0) n a.since b.since
        (first.inside, first.came, first.fresh) (second.inside, second.came, second.fresh) in
        let value : a.value ≡ b.value = same_element (sym first.is ∙ ap (λ p. value_at run c n p) since ∙ second.is) in
        let overwritten : a.overwritten ≡ b.overwritten = one_going n a.overwritten b.overwritten first.goes second.goes in
        ap (λ v. record a { value = v }) value ∙ ap (λ p. record a { value = b.value; since = p }) since
        ∙ ap (λ o. record b { overwritten = o }) overwritten

pub lives_are_unique : (V : Type 0) → LivesAreUnique V
lives_are_unique V run c these those is are = (
  is.many ∙ sym are.many,
  λ h a b first second. one_life (shows_at_places V) run c h a b (is.each h a first) (are.each h b second),
)

pub values_are_unique : (V : Type 0) → ValuesAreUnique V
values_are_unique V run c these those is are =
    same_list these those (is.many ∙ sym are.many) (λ n a b first second. one_value (shows_at_places V) run c n a b (is.each n a first) (are.each n b second))
