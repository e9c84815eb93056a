-- The text of peaks, written piece by piece.
use Rattle.std.proofs.Common.{◌≡◌, ◌<◌, ◌+◌, ℕ, zero, suc, List, [], ◌∷◌, ◌++◌, length, get_or, take, refl, sym, ap, ◌∙◌, subst, add-one, append_assoc, arith}
use Rattle.std.specs.List.{flat_map, range_with_len}
use Rattle.std.proofs.lemmas.List.{append-nil, flat_map_more, take_more}
use Rattle.rw_journal.specs.Run.{Run}
use Rattle.rw_findings.specs.declared.peaks.measure.Measure.TheVariants.{Lag, Unread, Unseen}
use Rattle.rw_findings.specs.declared.peaks.measure.Stretches.{Stretches}
use Rattle.rw_answers.specs.ClosingLines.{IsClosingText}
use Rattle.rw_answers.specs.FoundLines.{IsFoundText}
use Rattle.rw_answers.specs.LifeLines.{IsLifeText}
use Rattle.rw_answers.specs.PeakLines.{AreChannelTexts, IsChannelText, IsMeasureText}
use Rattle.rw_answers.specs.Texts.{Appended, AreTexts}
use Rattle.rw_answers.specs.TotalLines.{IsTotalText}
use Rattle.rw_answers.specs.ValueLines.{IsValueText}

-- what is written for each of the first numbers, with one more
range_more : (a n : ℕ) → range_with_len a (suc n) ≡ range_with_len a n ++ (a + n) ∷ []
range_more a zero = let e : a ≡ a + 0 = omega arith in ap (λ (x : ℕ). x ∷ []) e
range_more a (suc n) =
    let e : a + 1 + n ≡ a + suc n = omega arith in
    ap (λ (xs : List ℕ). a ∷ xs) (range_more (a + 1) n ∙ ap (λ (x : ℕ). range_with_len (a + 1) n ++ x ∷ []) e)

numbers_more : (f : ℕ → List ℕ) (n : ℕ) → flat_map f (range_with_len 0 (n + 1)) ≡ flat_map f (range_with_len 0 n) ++ f n
numbers_more f n =
    let e : 0 + n ≡ n = omega arith in
    ap (λ k. flat_map f (range_with_len 0 k)) (add-one n)
    ∙ ap (flat_map f) (range_more 0 n ∙ ap (λ (x : ℕ). range_with_len 0 n ++ x ∷ []) e)
    ∙ sym (flat_map_more f [] (range_with_len 0 n) n)

pub written_more : (f : ℕ → List ℕ) (start out more : List ℕ) (n : ℕ) → out ≡ start ++ flat_map f (range_with_len 0 n) → more ≡ out ++ f n
    → more ≡ start ++ flat_map f (range_with_len 0 (n + 1))
written_more f start out more n so is =
    is ∙ ap (λ (o : List ℕ). o ++ f n) so ∙ append_assoc start (flat_map f (range_with_len 0 n)) (f n)
    ∙ ap (λ (t : List ℕ). start ++ t) (sym (numbers_more f n))

-- four texts after another
four_joined : (old a b c d : List ℕ) → old ++ a ++ b ++ c ++ d ≡ old ++ (a ++ b ++ c ++ d)
four_joined old a b c d =
    ap (λ (t : List ℕ). t ++ c ++ d) (append_assoc old a b) ∙ ap (λ (t : List ℕ). t ++ d) (append_assoc old (a ++ b) c) ∙ append_assoc old (a ++ b ++ c) d

-- ---- texts that were appended

pub appended_none : (old : List ℕ) (Is : List ℕ → Type 0) → Is [] → Appended old old Is
appended_none old Is is = ([], sym (append-nil old), is)

pub appended_on : (old mid new : List ℕ) (Is Also Both : List ℕ → Type 0) → ((a b : List ℕ) → Is a → Also b → Both (a ++ b)) → Appended old mid Is
    → Appended mid new Also → Appended old new Both
appended_on old mid new Is Also Both both first second =
    (first.0 ++ second.0, second.1 ∙ ap (λ (t : List ℕ). t ++ second.0) first.1 ∙ append_assoc old first.0 second.0, both first.0 second.0 first.2 second.2)

module _ (run : Run ℕ) (stretches : Stretches) where
  -- one channel more
  channels_more : (channels : List ℕ) (channel : ℕ) (text last : List ℕ) → AreChannelTexts run stretches channels text
      → IsChannelText run stretches channel last → AreChannelTexts run stretches (channels ++ channel ∷ []) (text ++ last)
  channels_more [] channel text last are is = (last, [], is, refl, ap (λ (t : List ℕ). t ++ last) are ∙ sym (append-nil last))
  channels_more (c ∷ channels) channel text last are is =
      (are.0, are.1 ++ last, are.2, channels_more channels channel are.1 last are.3 is, ap (λ (t : List ℕ). t ++ last) are.4 ∙ append_assoc are.0 are.1 last)

  pub channel_more : (channels : List ℕ) (i : ℕ) (old mid new : List ℕ) → i < length channels
      → Appended old mid (AreChannelTexts run stretches (take i channels))
      → Appended mid new (IsChannelText run stretches (get_or channels i 0)) → Appended old new (AreChannelTexts run stretches (take (i + 1) channels))
  channel_more channels i old mid new within first second =
      subst (λ cs. Appended old new (AreChannelTexts run stretches cs)) (sym (take_more channels i 0 within))
      (appended_on old mid new (AreChannelTexts run stretches (take i channels)) (IsChannelText run stretches (get_or channels i 0))
      (AreChannelTexts run stretches (take i channels ++ get_or channels i 0 ∷ []))
      (λ a b are is. channels_more (take i channels) (get_or channels i 0) a b are is) first second)

  -- the three measures of a channel
  pub three_measures : (channel : ℕ) (old one two new : List ℕ) → Appended old one (IsMeasureText run stretches channel Lag)
      → Appended one two (IsMeasureText run stretches channel Unread)
      → Appended two new (IsMeasureText run stretches channel Unseen) → Appended old new (IsChannelText run stretches channel)
  three_measures channel old one two new lag unread unseen = (
    lag.0 ++ unread.0 ++ unseen.0,
    unseen.1 ∙ ap (λ (t : List ℕ). t ++ unseen.0) (unread.1 ∙ ap (λ (t : List ℕ). t ++ unread.0) lag.1 ∙ append_assoc old lag.0 unread.0)
        ∙ append_assoc old (lag.0 ++ unread.0) unseen.0,
    record { lag = lag.0; unread = unread.0; unseen = unseen.0; lag_is = lag.2; unread_is = unread.2; unseen_is = unseen.2; text_is = refl },
  )

-- ---- texts of all channels

-- one channel more
pub texts_more : (Is : ℕ → List ℕ → Type 0) (n : ℕ) (old mid new : List ℕ) → Appended old mid (AreTexts Is n) → Appended mid new (Is n)
    → Appended old new (AreTexts Is (n + 1))
texts_more Is n old mid new first second =
    subst (λ k. Appended old new (AreTexts Is k)) (sym (add-one n))
    (appended_on old mid new (AreTexts Is n) (Is n) (AreTexts Is (suc n)) (λ a b are is. (a, b, are, is, refl)) first second)

-- the four parts of what is found in a run
pub four_parts : (run : Run ℕ) (old one two three new : List ℕ) → Appended old one (IsClosingText run) → Appended one two (IsTotalText run)
    → Appended two three (AreTexts (IsLifeText run) (length run.specs)) → Appended three new (AreTexts (IsValueText run) (length run.specs))
    → Appended old new (IsFoundText run)
four_parts run old one two three new closings totals lives values = (
  closings.0 ++ totals.0 ++ lives.0 ++ values.0,
  values.1 ∙ ap (λ (t : List ℕ). t ++ values.0) (lives.1 ∙ ap (λ (t : List ℕ). t ++ lives.0) (totals.1 ∙ ap (λ (t : List ℕ). t ++ totals.0) closings.1))
      ∙ four_joined old closings.0 totals.0 lives.0 values.0,
  record {
    closings = closings.0;
    totals = totals.0;
    lives = lives.0;
    values = values.0;
    closings_are = closings.2;
    totals_are = totals.2;
    lives_are = lives.2;
    values_are = values.2;
    text_is = refl;
  },
)
