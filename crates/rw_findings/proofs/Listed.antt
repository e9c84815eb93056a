-- Lists that are made channel by channel, and receiver by receiver.
use Rattle.std.proofs.Common.{◌≡◌, ℕ, suc, ◌+◌, ◌<◌, ◌≤◌, ◌⊎◌, List, [], ◌∷◌, ◌++◌, length, get_or, inl, inr, ap, sym, ◌∙◌, subst, arith}
use Rattle.std.specs.List.{All, Contains}
use Rattle.std.proofs.lemmas.Bool.{cases_lt}
use Rattle.std.proofs.lemmas.List.{length_push, get_or_append_left}
use Rattle.std.proofs.lemmas.List.Elements.{All-push, All-nil, All-weaker, All-get_or, Contains-push, Contains-append_left}
use Rattle.std.proofs.Math.Seq.{get_or-append_seam}

-- before receiver h of channel c
abbrev pub IsBefore : (c h channel receiver : ℕ) → Type 0
IsBefore c h channel receiver = (channel < c) ⊎ ((channel ≡ c) × (receiver < h))

more_receivers : (c h channel receiver : ℕ) → IsBefore c (suc h) channel receiver → IsBefore c h channel receiver ⊎ ((channel ≡ c) × (receiver ≡ h))
more_receivers c h channel receiver (inl below) = inl (inl below)
more_receivers c h channel receiver (inr this) =
    elim (cases_lt receiver h) [
      | inl below ↦ inl (inr (this.0, below))
      | inr past ↦ inr (this.0, omega (arith, this.1, past))
    ]

up_to : (c h channel receiver : ℕ) → IsBefore c h channel receiver → IsBefore c (suc h) channel receiver
up_to c h channel receiver (inl below) = inl below
up_to c h channel receiver (inr this) = inr (this.0, omega (arith, this.1))

-- elements with a channel and a receiver, of which each fits, and there is one for each of those that are wanted
module _ {T : Type 0} (channel receiver : T → ℕ) (Fits : T → Type 0) (Wanted : (channel receiver : ℕ) → Type 0) where
  abbrev pub Precedes : T → T → Type 0
  Precedes a b = (channel a < channel b) ⊎ ((channel a ≡ channel b) × (receiver a < receiver b))

  -- the list has an element for each that is wanted before receiver h of channel c, in order
  pub record IsListed (c h : ℕ) (xs : List T) : Type 0 where
    pub each : All Fits xs
    pub before : All (λ t. IsBefore c h (channel t) (receiver t)) xs
    pub all : (d g : ℕ) → IsBefore c h d g → Wanted d g → (t : T) × Contains xs t × (channel t ≡ d) × (receiver t ≡ g)
    pub ordered : (i j : ℕ) (d : T) → i < j → j < length xs → Precedes (get_or xs i d) (get_or xs j d)

  pub none_listed : IsListed 0 0 []
  none_listed = record {
    each = All-nil Fits;
    before = All-nil (λ t. IsBefore 0 0 (channel t) (receiver t));
    all = λ d g before wanted. elim before [ inl below ↦ absurd (omega (arith, below)) | inr this ↦ absurd (omega (arith, this.1)) ];
    ordered = λ i j d below within. absurd (omega (arith, within));
  }

  -- receiver h isn't wanted
  pub skipped : (c h : ℕ) (xs : List T) → (Wanted c h → ⊥) → IsListed c h xs → IsListed c (suc h) xs
  skipped c h xs nobody is = record {
    each = is.each;
    before = All-weaker (λ t. IsBefore c h (channel t) (receiver t)) (λ t. IsBefore c (suc h) (channel t) (receiver t))
        (λ t before. up_to c h (channel t) (receiver t) before) xs is.before;
    all = λ d g before wanted.
        elim (more_receivers c h d g before) [
          | inl old ↦ is.all d g old wanted
          | inr this ↦ absurd (nobody (subst (λ k. Wanted k h) this.0 (subst (λ k. Wanted d k) this.1 wanted)))
        ];
    ordered = is.ordered;
  }

  ordered_push : (c h : ℕ) (xs : List T) (new : T) → channel new ≡ c → receiver new ≡ h → IsListed c h xs → (i j : ℕ) (d : T) → i < j
      → j < length (xs ++ new ∷ []) → Precedes (get_or (xs ++ new ∷ []) i d) (get_or (xs ++ new ∷ []) j d)
  ordered_push c h xs new channel_is receiver_is is i j d below within =
      let longer : length (xs ++ new ∷ []) ≡ length xs + 1 = length_push xs new in
      let first : get_or (xs ++ new ∷ []) i d ≡ get_or xs i d = get_or_append_left xs (new ∷ []) d i (omega (arith, longer, below, within)) in
      subst (λ a. Precedes a (get_or (xs ++ new ∷ []) j d)) (sym first)
      (elim (cases_lt j (length xs)) [
        | inl inside ↦ subst (λ b. Precedes (get_or xs i d) b) (sym (get_or_append_left xs (new ∷ []) d j inside)) (is.ordered i j d below inside)
        | inr past ↦ let end : j ≡ length xs = omega (arith, longer, past, within) in
            let second : get_or (xs ++ new ∷ []) j d ≡ new = ap (λ k. get_or (xs ++ new ∷ []) k d) end ∙ get_or-append_seam xs new [] d in
            let was : IsBefore c h (channel (get_or xs i d)) (receiver (get_or xs i d)) =
            All-get_or (λ t. IsBefore c h (channel t) (receiver t)) xs i d (omega (arith, below, end)) is.before in
            let precedes : Precedes (get_or xs i d) new = elim was [
              | inl smaller ↦ inl (omega (arith, smaller, channel_is))
              | inr this ↦ inr (omega (arith, this.0, channel_is), omega (arith, this.1, receiver_is))
            ] in
            subst (λ b. Precedes (get_or xs i d) b) (sym second) precedes
      ])

  -- the element of receiver h
  pub pushed : (c h : ℕ) (xs : List T) (new : T) → channel new ≡ c → receiver new ≡ h → Fits new → IsListed c h xs → IsListed c (suc h) (xs ++ new ∷ [])
  pushed c h xs new channel_is receiver_is fits is = record {
    each = All-push Fits xs new is.each fits;
    before = All-push (λ t. IsBefore c (suc h) (channel t) (receiver t)) xs new
        (All-weaker (λ t. IsBefore c h (channel t) (receiver t)) (λ t. IsBefore c (suc h) (channel t) (receiver t))
        (λ t before. up_to c h (channel t) (receiver t) before) xs is.before)
        (inr (channel_is, omega (arith, receiver_is)));
    all = λ d g before wanted.
        elim (more_receivers c h d g before) [
          | inl old ↦ let was = is.all d g old wanted in (was.0, Contains-append_left xs (new ∷ []) was.0 was.1, was.2, was.3)
          | inr this ↦ (new, Contains-push xs new, channel_is ∙ sym this.0, receiver_is ∙ sym this.1)
        ];
    ordered = ordered_push c h xs new channel_is receiver_is is;
  }

  -- no more receivers of this channel are wanted
  pub next_channel : (c h : ℕ) (xs : List T) → ((g : ℕ) → h ≤ g → Wanted c g → ⊥) → IsListed c h xs → IsListed (suc c) 0 xs
  next_channel c h xs nobody is = record {
    each = is.each;
    before = All-weaker (λ t. IsBefore c h (channel t) (receiver t)) (λ t. IsBefore (suc c) 0 (channel t) (receiver t))
        (λ t before. elim before [ inl below ↦ inl (omega (arith, below)) | inr this ↦ inl (omega (arith, this.0)) ]) xs is.before;
    all = λ d g before wanted.
        elim before [
          | inl below ↦ elim (cases_lt d c) [
            | inl old ↦ is.all d g (inl old) wanted
            | inr past ↦ let same : d ≡ c = omega (arith, below, past) in
                elim (cases_lt g h) [
                  | inl made ↦ is.all d g (inr (same, made)) wanted
                  | inr over ↦ absurd (nobody g over (subst (λ k. Wanted k g) same wanted))
                ]
          ]
          | inr this ↦ absurd (omega (arith, this.1))
        ];
    ordered = is.ordered;
  }
