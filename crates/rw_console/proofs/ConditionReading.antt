-- A condition is read exactly from its text.
use Rattle.std.proofs.Common.{◌≡◌, ℕ, ◌^◌, ◌<◌, Bool, true, false, cond, List, [], ◌∷◌, ◌++◌, Option, Some, None, refl, sym, ap, ◌∙◌, inl, inr, ◌⊎◌, arith}
use Rattle.std.specs.Prelude.{IfSome, IsSome, codes, decimal, find, option_map}
use Rattle.std.specs.Str.{bytes_eq}
use Rattle.std.proofs.lemmas.Grind.{common_steps}
use Rattle.std.proofs.lemmas.Slice.Eq.{bytes_eq-Decides}
use Rattle.rw_lines.specs.Cut.{cut}
use Rattle.rw_lines.specs.Numerals.{numeral_in}
use Rattle.rw_lines.proofs.CutLaws.{cut_joined, cut_parts}
use Rattle.rw_lines.proofs.NumeralLaws.{lacks-decimal, named, only}
use Rattle.rw_words.specs.declared.reply_word.ReplyWord.{ReplyWord}
use Rattle.rw_words.specs.ReplyWords.{reply_word_in, reply_word_text}
use Rattle.rw_words.proofs.ReplyWordLaws.{found as reply_word_found}
use Rattle.rw_navigator.specs.declared.worlds.condition.Cond.{Cond}
use Rattle.rw_navigator.specs.declared.worlds.condition.Cond.TheVariants.{Actor, Channel, ReplyKind, UnreadAtLeast, Lagging, Unseen}
use Rattle.rw_navigator.specs.declared.worlds.condition.Cond.TheVariants.{VersionAtLeast, Closed, QueueAtLeast}
use Rattle.rw_console.specs.declared.condition_words.ConditionWord.{ConditionWord}
use Rattle.rw_console.specs.declared.condition_words.ConditionWord.TheVariants as word
use Rattle.rw_console.specs.ConditionWords.{◌>>=◌, condition_in, condition_of_word, condition_text, condition_word_text}
use Rattle.rw_console.specs.ConditionWords.{condition_words, two_numbers_in, three_numbers_in, HasNumerals}

-- ---- steps that returned a value

bind_some : {A B : Type 0} (o : Option A) (f : A → Option B) (y : B) → (o >>= f) ≡ Some y → (x : A) × (o ≡ Some x) × (f x ≡ Some y)
bind_some None f y e = absurd cc
bind_some (Some x) f y e = (x, refl, e)

map_some : {A B : Type 0} (f : A → B) (o : Option A) (y : B) → option_map f o ≡ Some y → (x : A) × (o ≡ Some x) × (f x ≡ y)
map_some f None y e = absurd cc
map_some f (Some x) y e = (x, refl, cc)

first_or : {A : Type 0} (p : A → Bool) (y x : A) (o : Option A) (b : Bool) → p y ≡ b → cond b (Some y) o ≡ Some x → (p x ≡ true) ⊎ (o ≡ Some x)
first_or p y x o true t e = let same : y ≡ x = cc in inl (rw (← same) t)
first_or p y x o false t e = inr e

find_some : {A : Type 0} (p : A → Bool) (xs : List A) (x : A) → find p xs ≡ Some x → p x ≡ true
find_some p [] x e = absurd cc
find_some p (y ∷ xs) x e =
    elim (first_or p y x (find p xs) (p y) refl e) [
      | inl h ↦ h
      | inr h ↦ find_some p xs x h
    ]

-- ---- numbers, one space between them

two_found : (text : List ℕ) (p : ℕ × ℕ) → two_numbers_in text ≡ Some p → (text ≡ decimal p.0 ++ 32 ∷ decimal p.1) × (p.0 < 2 ^ 64) × (p.1 < 2 ^ 64)
two_found text p e =
    let a = bind_some (cut 32 text) (λ q. numeral_in q.0 >>= λ x. numeral_in q.1 >>= λ y. Some (x, y)) p e in
    let b = bind_some (numeral_in a.0.0) (λ x. numeral_in a.0.1 >>= λ y. Some (x, y)) p a.2 in
    let c = bind_some (numeral_in a.0.1) (λ y. Some (b.0, y)) p b.2 in
    let same : (b.0, c.0) ≡ p = cc in
    let first = named a.0.0 b.0 b.1 in
    let second = named a.0.1 c.0 c.1 in
    rw (← same) (rw (← first.0, ← second.0) (cut_parts 32 text a.0 a.1).1, first.1, second.1)

two_again : (a b : ℕ) → a < 2 ^ 64 → b < 2 ^ 64 → two_numbers_in (decimal a ++ 32 ∷ decimal b) ≡ Some (a, b)
two_again a b small_a small_b = rw (
  cut_joined 32 (decimal a) (decimal b) (lacks-decimal 32 a refl small_a),
  only (decimal a) a small_a refl,
  only (decimal b) b small_b refl,
) refl

three_found : (text : List ℕ) (p : ℕ × ℕ × ℕ) → three_numbers_in text ≡ Some p
    → (text ≡ decimal p.0 ++ 32 ∷ (decimal p.1 ++ 32 ∷ decimal p.2)) × (p.0 < 2 ^ 64) × (p.1 < 2 ^ 64) × (p.2 < 2 ^ 64)
three_found text p e =
    let a = bind_some (cut 32 text) (λ q. numeral_in q.0 >>= λ x. two_numbers_in q.1 >>= λ r. Some (x, r.0, r.1)) p e in
    let b = bind_some (numeral_in a.0.0) (λ x. two_numbers_in a.0.1 >>= λ r. Some (x, r.0, r.1)) p a.2 in
    let c = bind_some (two_numbers_in a.0.1) (λ r. Some (b.0, r.0, r.1)) p b.2 in
    let same : (b.0, c.0.0, c.0.1) ≡ p = cc in
    let first = named a.0.0 b.0 b.1 in
    let others = two_found a.0.1 c.0 c.1 in
    rw (← same) (rw (← first.0, ← others.0) (cut_parts 32 text a.0 a.1).1, first.1, others.1, others.2)

three_again : (a b c : ℕ) → a < 2 ^ 64 → b < 2 ^ 64 → c < 2 ^ 64 → three_numbers_in (decimal a ++ 32 ∷ (decimal b ++ 32 ∷ decimal c)) ≡ Some (a, b, c)
three_again a b c small_a small_b small_c =
    rw (
      cut_joined 32 (decimal a) (decimal b ++ 32 ∷ decimal c) (lacks-decimal 32 a refl small_a),
      only (decimal a) a small_a refl,
      two_again b c small_b small_c,
    ) refl

-- ---- the condition of a word and of what follows it

-- the condition's text is the word and what follows it
abbrev IsMade : ConditionWord → List ℕ → Cond → Type 0
IsMade w rest c = (condition_text c ≡ condition_word_text w ++ 32 ∷ rest) × HasNumerals c

behind : (word rest text : List ℕ) → rest ≡ text → word ++ 32 ∷ text ≡ word ++ 32 ∷ rest
behind word rest text e = ap (λ (t : List ℕ). word ++ 32 ∷ t) (sym e)

of_some : {A : Type 0} (o : Option A) (x : A) → o ≡ Some x → (P : A → Type 0) → IfSome o P → P x
of_some o x e P h = rw e at h

reply_found : (rest : List ℕ) (w : ReplyWord) → reply_word_in rest ≡ Some w → rest ≡ reply_word_text w
reply_found rest w e = sym (of_some (reply_word_in rest) w e (λ v. reply_word_text v ≡ rest) (reply_word_found rest))

made_found : (w : ConditionWord) (rest : List ℕ) (c : Cond) → condition_of_word w rest ≡ Some c → IsMade w rest c
made_found word.Actor rest c e =
    let m = map_some Actor (numeral_in rest) c e in
    let n = named rest m.0 m.1 in
    rw (← m.2) (behind (codes "actor") rest (decimal m.0) n.0, n.1)
made_found word.Channel rest c e =
    let m = map_some Channel (numeral_in rest) c e in
    let n = named rest m.0 m.1 in
    rw (← m.2) (behind (codes "channel") rest (decimal m.0) n.0, n.1)
made_found word.Reply rest c e =
    let m = map_some ReplyKind (reply_word_in rest) c e in
    rw (← m.2) (behind (codes "reply") rest (reply_word_text m.0) (reply_found rest m.0 m.1), tt)
made_found word.Unread rest c e =
    let m = map_some (λ p. UnreadAtLeast p.0 p.1 p.2) (three_numbers_in rest) c e in
    let n = three_found rest m.0 m.1 in
    rw (← m.2) (behind (codes "unread") rest _ n.0, (n.1, n.2, n.3))
made_found word.Lagging rest c e =
    let m = map_some (λ p. Lagging p.0 p.1) (two_numbers_in rest) c e in
    let n = two_found rest m.0 m.1 in
    rw (← m.2) (behind (codes "lagging") rest _ n.0, (n.1, n.2))
made_found word.Unseen rest c e =
    let m = map_some (λ p. Unseen p.0 p.1) (two_numbers_in rest) c e in
    let n = two_found rest m.0 m.1 in
    rw (← m.2) (behind (codes "unseen") rest _ n.0, (n.1, n.2))
made_found word.Version rest c e =
    let m = map_some (λ p. VersionAtLeast p.0 p.1) (two_numbers_in rest) c e in
    let n = two_found rest m.0 m.1 in
    rw (← m.2) (behind (codes "version") rest _ n.0, (n.1, n.2))
made_found word.Closed rest c e =
    let m = map_some Closed (numeral_in rest) c e in
    let n = named rest m.0 m.1 in
    rw (← m.2) (behind (codes "closed") rest (decimal m.0) n.0, n.1)
made_found word.Queue rest c e =
    let m = map_some (λ p. QueueAtLeast p.0 p.1) (two_numbers_in rest) c e in
    let n = two_found rest m.0 m.1 in
    rw (← m.2) (behind (codes "queue") rest _ n.0, (n.1, n.2))

-- ---- conditions

pub found : (text : List ℕ) (c : Cond) → condition_in text ≡ Some c → (text ≡ condition_text c) × HasNumerals c
unfolding condition_in
found text c e =
    let a = bind_some (cut 32 text) (λ p. find (λ w. bytes_eq (condition_word_text w) p.0) condition_words >>= λ w. condition_of_word w p.1) c e in
    let b = bind_some (find (λ w. bytes_eq (condition_word_text w) a.0.0) condition_words) (λ w. condition_of_word w a.0.1) c a.2 in
    let m = made_found b.0 a.0.1 c b.2 in
    let word_is : condition_word_text b.0 ≡ a.0.0 =
    (bytes_eq-Decides _ _).0 (find_some (λ w. bytes_eq (condition_word_text w) a.0.0) condition_words b.0 b.1) in
    ((cut_parts 32 text a.0 a.1).1 ∙ ap (λ (t : List ℕ). t ++ 32 ∷ a.0.1) (sym word_is) ∙ sym m.0, m.1)

pub found_if : (text : List ℕ) (o : Option Cond) → o ≡ condition_in text → IfSome o (λ c. (text ≡ condition_text c) × HasNumerals c)
found_if text None e = tt
found_if text (Some c) e = found text c (sym e)

reply_again : (w : ReplyWord) → IsSome (option_map ReplyKind (reply_word_in (reply_word_text w)))
reply_again w = grind (arith, common_steps)

pub again : (c : Cond) → HasNumerals c → IsSome (condition_in (condition_text c))
unfolding condition_in
again (Actor a) h = rw (only (decimal a) a h refl) refl
again (Channel c) h = rw (only (decimal c) c h refl) refl
again (ReplyKind w) h = reply_again w
again (UnreadAtLeast c u n) h = rw (three_again c u n h.0 h.1 h.2) refl
again (Lagging c u) h = rw (two_again c u h.0 h.1) refl
again (Unseen c u) h = rw (two_again c u h.0 h.1) refl
again (VersionAtLeast c n) h = rw (two_again c n h.0 h.1) refl
again (Closed c) h = rw (only (decimal c) c h refl) refl
again (QueueAtLeast c n) h = rw (two_again c n h.0 h.1) refl
