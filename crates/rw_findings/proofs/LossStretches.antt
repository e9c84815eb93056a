-- Stretches of places at which receivers lag, and lists of them.
use Rattle.std.proofs.Common.{◌≡◌, ◌≢◌, ℕ, ◌+◌, ◌-◌, ◌<◌, ◌≤◌, ◌⊎◌, List, [], ◌∷◌, ◌++◌, length, get_or, inl, inr, refl, ap, sym, ◌∙◌, subst, arith}
use Rattle.std.specs.Prelude.{Option, Some, None, unwrap_or}
use Rattle.std.specs.List.{All, Contains}
use Rattle.std.proofs.lemmas.Bool.{cases_lt}
use Rattle.std.proofs.lemmas.List.{length_push, get_or_append_left}
use Rattle.std.proofs.lemmas.List.Elements.{All-push, All-nil, All-weaker, All-get_or, Contains-push, Contains-append_left}
use Rattle.std.proofs.Math.Seq.{get_or-append_seam}
use Rattle.rw_findings.specs.declared.losses.loss.Loss.{Loss}
use Rattle.rw_findings.specs.declared.losses.loss.LossEnd.{LossEnd}
use Rattle.rw_findings.specs.declared.losses.loss.LossEnd.TheVariants.{Told, Dropped, Open}
use Rattle.rw_findings.specs.Losses.{stop_of, lag_of, EndsAs, IsStretch}

-- no element is there twice
abbrev pub IsDistinct : {X : Type 0} → List X → Type 0
IsDistinct {X} xs = (i j : ℕ) (d : X) → i < j → j < length xs → get_or xs i d ≢ get_or xs j d

distinct_push : {X : Type 0} (xs : List X) (x : X) → IsDistinct xs → ((i : ℕ) (d : X) → i < length xs → get_or xs i d ≢ x) → IsDistinct (xs ++ x ∷ [])
distinct_push xs x distinct fresh i j d below within same =
    let longer : length (xs ++ x ∷ []) ≡ length xs + 1 = length_push xs x in
    let first : get_or (xs ++ x ∷ []) i d ≡ get_or xs i d = get_or_append_left xs (x ∷ []) d i (omega (arith, longer)) in
    elim (cases_lt j (length xs)) [
      | inl inside ↦ distinct i j d below inside (sym first ∙ same ∙ get_or_append_left xs (x ∷ []) d j inside)
      | inr past ↦ let last : j ≡ length xs = omega (arith, longer) in
          fresh i d (omega (arith, longer)) (sym first ∙ same ∙ ap (λ k. get_or (xs ++ x ∷ []) k d) last ∙ get_or-append_seam xs x [] d)
    ]

module _ (lag : (channel receiver place : ℕ) → Option ℕ) where
  -- a stretch that began at this place and goes on at place n
  pub record IsOpenSince (channel receiver from n : ℕ) : Type 0 where
    pub within : from ≤ n
    pub before : lag_of lag channel receiver (from - 1) ≡ 0
    pub lags : (place : ℕ) → from ≤ place → place ≤ n → 0 < lag_of lag channel receiver place

  pub open_on : (channel receiver from n : ℕ) → IsOpenSince channel receiver from n → 0 < lag_of lag channel receiver (n + 1)
      → IsOpenSince channel receiver from (n + 1)
  open_on channel receiver from n is more = record {
    within = omega (arith, is.within);
    before = is.before;
    lags = λ place above below.
        elim (cases_lt place (n + 1)) [
          | inl inside ↦ is.lags place above (omega arith)
          | inr past ↦ let here : n + 1 ≡ place = omega arith in subst (λ p. 0 < lag_of lag channel receiver p) here more
        ];
  }

  pub opens_now : (channel receiver n : ℕ) → lag_of lag channel receiver n ≡ 0 → 0 < lag_of lag channel receiver (n + 1)
      → IsOpenSince channel receiver (n + 1) (n + 1)
  opens_now channel receiver n none more = record {
    within = omega arith;
    before = let back : n + 1 - 1 ≡ n = omega arith in ap (λ p. lag_of lag channel receiver p) back ∙ none;
    lags = λ place above below. let here : n + 1 ≡ place = omega arith in subst (λ p. 0 < lag_of lag channel receiver p) here more;
  }

  -- a stretch has one beginning
  not_later : (channel receiver a b n : ℕ) → IsOpenSince channel receiver a n → IsOpenSince channel receiver b n → b ≤ a
  not_later channel receiver a b n first second =
      elim (cases_lt a b) [
        | inl earlier ↦ absurd (omega (arith, first.lags (b - 1) (omega arith) (omega (arith, second.within)), second.before))
        | inr done ↦ done
      ]

  pub same_start : (channel receiver a b n : ℕ) → IsOpenSince channel receiver a n → IsOpenSince channel receiver b n → a ≡ b
  same_start channel receiver a b n first second =
      omega (arith, not_later channel receiver a b n first second, not_later channel receiver b a n second first)

  module _ (last : ℕ) where
    -- at its end the receiver doesn't lag
    pub rests : (channel receiver : ℕ) (end : LossEnd) → EndsAs lag last channel receiver end → stop_of last end ≤ last
        → lag_of lag channel receiver (stop_of last end) ≡ 0
    rests channel receiver (Told place) ends inside = ap (λ o. unwrap_or o 0) ends.1
    rests channel receiver (Dropped place) ends inside = ap (λ o. unwrap_or o 0) ends.1
    rests channel receiver Open ends inside = absurd (omega (arith, inside))

    pub stops : (channel receiver : ℕ) (end : LossEnd) → EndsAs lag last channel receiver end → stop_of last end ≤ last + 1
    stops channel receiver (Told place) ends = omega (arith, ends.0)
    stops channel receiver (Dropped place) ends = omega (arith, ends.0)
    stops channel receiver Open ends = omega arith

    same_end : (channel receiver : ℕ) (a b : LossEnd) → EndsAs lag last channel receiver a → EndsAs lag last channel receiver b
        → stop_of last a ≡ stop_of last b → a ≡ b
    same_end channel receiver (Told p) (Told q) ia ib same = ap Told same
    same_end channel receiver (Told p) (Dropped q) ia ib same =
        let e : ◌≡◌ {A = Option ℕ} (Some 0) None = sym ia.1 ∙ ap (λ k. lag channel receiver k) same ∙ ib.1 in absurd cc
    same_end channel receiver (Told p) Open ia ib same = absurd (omega (arith, ia.0, same))
    same_end channel receiver (Dropped p) (Told q) ia ib same =
        let e : ◌≡◌ {A = Option ℕ} None (Some 0) = sym ia.1 ∙ ap (λ k. lag channel receiver k) same ∙ ib.1 in absurd cc
    same_end channel receiver (Dropped p) (Dropped q) ia ib same = ap Dropped same
    same_end channel receiver (Dropped p) Open ia ib same = absurd (omega (arith, ia.0, same))
    same_end channel receiver Open (Told q) ia ib same = absurd (omega (arith, ib.0, same))
    same_end channel receiver Open (Dropped q) ia ib same = absurd (omega (arith, ib.0, same))
    same_end channel receiver Open Open ia ib same = refl

    -- a loss at a place of its stretch is open since its beginning
    pub open_at : (loss : Loss) (n : ℕ) → IsStretch lag last loss → loss.from ≤ n → n < stop_of last loss.end
        → IsOpenSince loss.channel loss.receiver loss.from n
    open_at loss n is above below = record { within = above; before = is.before; lags = λ place over under. is.lags place over (omega arith) }

    -- losses of a receiver with one beginning have one end
    no_sooner : (c h from : ℕ) (a b : LossEnd) → EndsAs lag last c h a → EndsAs lag last c h b → from < stop_of last a
        → ((place : ℕ) → from ≤ place → place < stop_of last b → 0 < lag_of lag c h place) → stop_of last b ≤ stop_of last a
    no_sooner c h from a b ia ib some lags =
        elim (cases_lt (stop_of last a) (stop_of last b)) [
          | inl sooner ↦ absurd (omega (arith, lags (stop_of last a) (omega (arith, some)) sooner, rests c h a ia (omega (arith, sooner, stops c h b ib))))
          | inr done ↦ done
        ]

    pub same_stretch : (a b : Loss) → IsStretch lag last a → IsStretch lag last b → a.channel ≡ b.channel → a.receiver ≡ b.receiver → a.from ≡ b.from → a ≡ b
    same_stretch a b ia ib channel receiver from =
        let other : Loss = record { channel = a.channel; receiver = a.receiver; from = a.from; lost = b.lost; end = b.end } in
        let other_is : b ≡ other =
        ap (λ c. record b { channel = c }) (sym channel) ∙ ap (λ h. record b { channel = a.channel; receiver = h }) (sym receiver)
        ∙ ap (λ f. record b { channel = a.channel; receiver = a.receiver; from = f }) (sym from) in
        let io : IsStretch lag last other = subst (λ l. IsStretch lag last l) other_is ib in
        let one : stop_of last b.end ≤ stop_of last a.end = no_sooner a.channel a.receiver a.from a.end b.end ia.ends io.ends ia.some io.lags in
        let two : stop_of last a.end ≤ stop_of last b.end = no_sooner a.channel a.receiver a.from b.end a.end io.ends ia.ends io.some ia.lags in
        let stop : stop_of last a.end ≡ stop_of last b.end = omega (arith, one, two) in
        let end : a.end ≡ b.end = same_end a.channel a.receiver a.end b.end ia.ends io.ends stop in
        let lost : a.lost ≡ b.lost = sym ia.lost ∙ ap (λ e. lag_of lag a.channel a.receiver (stop_of last e - 1)) end ∙ io.lost in
        ap (λ n. record a { lost = n }) lost ∙ ap (λ e. record a { lost = b.lost; end = e }) end ∙ sym other_is

    -- ---- lists of losses

    -- the list has exactly the losses that pass the test
    pub record AreThose (passes : Loss → Type 0) (losses : List Loss) : Type 0 where
      pub each : All (λ loss. IsStretch lag last loss) losses
      pub inside : All passes losses
      pub all : (loss : Loss) → IsStretch lag last loss → passes loss → Contains losses loss
      pub distinct : IsDistinct losses

    pub none_of : (passes : Loss → Type 0) → ((loss : Loss) → IsStretch lag last loss → passes loss → ⊥) → AreThose passes []
    none_of passes nothing = record {
      each = All-nil (λ loss. IsStretch lag last loss);
      inside = All-nil passes;
      all = λ loss is passed. absurd (nothing loss is passed);
      distinct = λ i j d below within same. omega (arith, within);
    }

    -- where the test comes to mean the same of losses
    pub those_again : (p q : Loss → Type 0) (losses : List Loss) → ((loss : Loss) → p loss → q loss)
        → ((loss : Loss) → IsStretch lag last loss → q loss → p loss) → AreThose p losses → AreThose q losses
    those_again p q losses on back are = record {
      each = are.each;
      inside = All-weaker p q on losses are.inside;
      all = λ loss is passed. are.all loss is (back loss is passed);
      distinct = are.distinct;
    }

    -- where it comes to mean one loss more
    pub one_more : (p q : Loss → Type 0) (losses : List Loss) (more : Loss) → IsStretch lag last more → (p more → ⊥) → q more
        → ((loss : Loss) → p loss → q loss)
        → ((loss : Loss) → IsStretch lag last loss → q loss → p loss ⊎ (more ≡ loss)) → AreThose p losses → AreThose q (losses ++ more ∷ [])
    one_more p q losses more is new now on back are = record {
      each = All-push (λ loss. IsStretch lag last loss) losses more are.each is;
      inside = All-push q losses more (All-weaker p q on losses are.inside) now;
      all = λ loss is_one passed.
          elim (back loss is_one passed) [
            | inl old ↦ Contains-append_left losses (more ∷ []) loss (are.all loss is_one old)
            | inr same ↦ subst (λ l. Contains (losses ++ more ∷ []) l) same (Contains-push losses more)
          ];
      distinct = distinct_push losses more are.distinct (λ i d within same. new (subst p same (All-get_or p losses i d within are.inside)));
    }
