-- Conditions as text.
use Rattle.std.specs.Prelude.{ℕ, ◌^◌, ◌<◌, List, [], ◌∷◌, ◌++◌, Option, None, Some, option_map, find, codes, decimal}
use Rattle.std.specs.Str.{bytes_eq}
use Rattle.rw_lines.specs.Cut.{cut}
use Rattle.rw_lines.specs.Numerals.{numeral_in}
use Rattle.rw_words.specs.ReplyWords.{reply_word_in, reply_word_text}
use Rattle.rw_navigator.specs.declared.worlds.condition.Cond.{Cond}
use Rattle.rw_navigator.specs.declared.worlds.condition.Cond.TheVariants.{Actor, Channel, ReplyKind, UnreadAtLeast, Lagging}
use Rattle.rw_navigator.specs.declared.worlds.condition.Cond.TheVariants.{Unseen, VersionAtLeast, Closed, QueueAtLeast}
use Rattle.rw_console.specs.declared.condition_words.ConditionWord.{ConditionWord}
use Rattle.rw_console.specs.declared.condition_words.ConditionWord.TheVariants as word

-- ---- spelling

-- the text of a condition: its word and its arguments, one space, 32, between them
abbrev pub condition_text : Cond → List ℕ
condition_text (Actor a) = codes "actor " ++ decimal a
condition_text (Channel c) = codes "channel " ++ decimal c
condition_text (ReplyKind w) = codes "reply " ++ reply_word_text w
condition_text (UnreadAtLeast c h n) = codes "unread " ++ (decimal c ++ 32 ∷ (decimal h ++ 32 ∷ decimal n))
condition_text (Lagging c h) = codes "lagging " ++ (decimal c ++ 32 ∷ decimal h)
condition_text (Unseen c h) = codes "unseen " ++ (decimal c ++ 32 ∷ decimal h)
condition_text (VersionAtLeast c n) = codes "version " ++ (decimal c ++ 32 ∷ decimal n)
condition_text (Closed c) = codes "closed " ++ decimal c
condition_text (QueueAtLeast c n) = codes "queue " ++ (decimal c ++ 32 ∷ decimal n)

-- its numbers are those that a numeral can have
abbrev pub HasNumerals : Cond → Type 0
HasNumerals (Actor a) = a < 2 ^ 64
HasNumerals (Channel c) = c < 2 ^ 64
HasNumerals (ReplyKind w) = Unit {0}
HasNumerals (UnreadAtLeast c h n) = (c < 2 ^ 64) × (h < 2 ^ 64) × (n < 2 ^ 64)
HasNumerals (Lagging c h) = (c < 2 ^ 64) × (h < 2 ^ 64)
HasNumerals (Unseen c h) = (c < 2 ^ 64) × (h < 2 ^ 64)
HasNumerals (VersionAtLeast c n) = (c < 2 ^ 64) × (n < 2 ^ 64)
HasNumerals (Closed c) = c < 2 ^ 64
HasNumerals (QueueAtLeast c n) = (c < 2 ^ 64) × (n < 2 ^ 64)

-- ---- reading

infixl 10 ◌>>=◌
abbrev pub ◌>>=◌ : {A B : Type 0} → Option A → (A → Option B) → Option B
None >>= f = None
(Some x) >>= f = f x

abbrev pub condition_word_text : ConditionWord → List ℕ
condition_word_text word.Actor = codes "actor"
condition_word_text word.Channel = codes "channel"
condition_word_text word.Reply = codes "reply"
condition_word_text word.Unread = codes "unread"
condition_word_text word.Lagging = codes "lagging"
condition_word_text word.Unseen = codes "unseen"
condition_word_text word.Version = codes "version"
condition_word_text word.Closed = codes "closed"
condition_word_text word.Queue = codes "queue"

abbrev pub condition_words : List ConditionWord
condition_words = word.Actor ∷ word.Channel ∷ word.Reply ∷ word.Unread ∷ word.Lagging ∷ word.Unseen ∷ word.Version ∷ word.Closed ∷ word.Queue ∷ []

abbrev pub two_numbers_in : List ℕ → Option (ℕ × ℕ)
two_numbers_in text = do
  p ← cut 32 text
  a ← numeral_in p.0
  b ← numeral_in p.1
  Some (a, b)

abbrev pub three_numbers_in : List ℕ → Option (ℕ × ℕ × ℕ)
three_numbers_in text = do
  p ← cut 32 text
  a ← numeral_in p.0
  q ← two_numbers_in p.1
  Some (a, q.0, q.1)

-- the condition of a word and of what follows it
abbrev pub condition_of_word : ConditionWord → List ℕ → Option Cond
condition_of_word word.Actor rest = option_map Actor (numeral_in rest)
condition_of_word word.Channel rest = option_map Channel (numeral_in rest)
condition_of_word word.Reply rest = option_map ReplyKind (reply_word_in rest)
condition_of_word word.Unread rest = option_map (λ p. UnreadAtLeast p.0 p.1 p.2) (three_numbers_in rest)
condition_of_word word.Lagging rest = option_map (λ p. Lagging p.0 p.1) (two_numbers_in rest)
condition_of_word word.Unseen rest = option_map (λ p. Unseen p.0 p.1) (two_numbers_in rest)
condition_of_word word.Version rest = option_map (λ p. VersionAtLeast p.0 p.1) (two_numbers_in rest)
condition_of_word word.Closed rest = option_map Closed (numeral_in rest)
condition_of_word word.Queue rest = option_map (λ p. QueueAtLeast p.0 p.1) (two_numbers_in rest)

-- the condition that has this text, if there is one
unfoldable pub condition_in : List ℕ → Option Cond
condition_in text = do
  p ← cut 32 text
  w ← find (λ w. bytes_eq (condition_word_text w) p.0) condition_words
  condition_of_word w p.1
