-- Reply words are found by their texts, and come first in the texts of replies.
use Rattle.std.proofs.Common.{◌≡◌, ℕ, Bool, true, false, cond, List, [], ◌∷◌, ◌++◌, Option, Some, None, refl}
use Rattle.std.specs.Prelude.{IfSome, find, option_map}
use Rattle.std.specs.Option.{option_or}
use Rattle.std.specs.Str.{bytes_eq}
use Rattle.std.proofs.lemmas.Slice.Eq.{bytes_eq-Decides}
use Rattle.std.proofs.lemmas.List.{append-nil}
use Rattle.rw_law.specs.declared.value.Payload.{Ghosts}
use Rattle.rw_world.specs.declared.channels.ChanReply.TheVariants as reply
use Rattle.rw_lines.specs.Cut.{lacks}
use Rattle.rw_lines.proofs.CutLaws.{cut_joined, cut_lacks}
use Rattle.rw_words.specs.declared.arguments.Args.{Args}
use Rattle.rw_words.specs.declared.broadcast.BroadcastReplyWord.{BroadcastReplyWord}
use Rattle.rw_words.specs.declared.broadcast.BroadcastReplyWord.TheVariants as broadcast_word
use Rattle.rw_words.specs.declared.watch.WatchReplyWord.{WatchReplyWord}
use Rattle.rw_words.specs.declared.watch.WatchReplyWord.TheVariants as watch_word
use Rattle.rw_words.specs.declared.reply_word.ReplyWord.TheVariants.{Broadcast, Watch}
use Rattle.rw_words.specs.Arguments.{args_text, rest_text}
use Rattle.rw_words.specs.Words.{text_of_parts}
use Rattle.rw_words.specs.Texts.{ReplyOf, reply_text}
use Rattle.rw_words.specs.BroadcastWords as broadcast
use Rattle.rw_words.specs.WatchWords as watch
use Rattle.rw_words.specs.ReplyWords.{first_word, reply_word_in, reply_word_of, reply_word_text}

first_or : {A : Type 0} (P : A → Type 0) (b : Bool) (x : A) (o : Option A) → (b ≡ true → P x) → IfSome o P → IfSome (cond b (Some x) o) P
first_or P true x o here there = here refl
first_or P false x o here there = there

-- what is found in a table has the text that was sought
found_in : {W : Type 0} (text : W → List ℕ) (token : List ℕ) (words : List W) → IfSome (find (λ w. bytes_eq (text w) token) words) (λ w. text w ≡ token)
found_in text token [] = tt
found_in text token (w ∷ words) = first_or (λ v. text v ≡ token) (bytes_eq (text w) token) w _ (bytes_eq-Decides (text w) token).0 (found_in text token words)

either_table : (token : List ℕ) (b : Option _) (w : Option _) → IfSome b (λ word. broadcast.reply_word_text word ≡ token)
    → IfSome w (λ word. watch.reply_word_text word ≡ token)
    → IfSome (option_or (option_map Broadcast b) (option_map Watch w)) (λ word. reply_word_text word ≡ token)
either_table token None None in_first in_second = tt
either_table token None (Some w) in_first in_second = in_second
either_table token (Some b) w in_first in_second = in_first

pub found : (token : List ℕ) → IfSome (reply_word_in token) (λ word. reply_word_text word ≡ token)
found token = either_table token _ _ (found_in broadcast.reply_word_text token broadcast.reply_words) (found_in watch.reply_word_text token watch.reply_words)

-- ---- the word of a reply comes first in its text

broadcast_plain : (w : BroadcastReplyWord) → lacks 32 (broadcast.reply_word_text w) ≡ true
broadcast_plain = elim [ broadcast_word.Sent ↦ refl | _ ↦ refl ]

watch_plain : (w : WatchReplyWord) → lacks 32 (watch.reply_word_text w) ≡ true
watch_plain = elim [ watch_word.Stored ↦ refl | _ ↦ refl ]

first_word_is : (word : List ℕ) (o : Option (List ℕ)) → lacks 32 word ≡ true → first_word (word ++ rest_text o) ≡ word
first_word_is word None plain = rw (append-nil word, cut_lacks 32 word plain) refl
first_word_is word (Some rest) plain = rw (cut_joined 32 word rest plain) refl

broadcast_first : {V : Type 0} (k : Ghosts V) (o : Option (BroadcastReplyWord × Args V))
    → IfSome (option_map (λ p. Broadcast p.0) o) (λ w. first_word (text_of_parts k (broadcast.replies_table k) o) ≡ reply_word_text w)
broadcast_first k None = tt
broadcast_first k (Some p) = first_word_is (broadcast.reply_word_text p.0) (args_text k p.1) (broadcast_plain p.0)

watch_first : {V : Type 0} (k : Ghosts V) (o : Option (WatchReplyWord × Args V))
    → IfSome (option_map (λ p. Watch p.0) o) (λ w. first_word (text_of_parts k (watch.replies_table k) o) ≡ reply_word_text w)
watch_first k None = tt
watch_first k (Some p) = first_word_is (watch.reply_word_text p.0) (args_text k p.1) (watch_plain p.0)

pub first : {V : Type 0} (k : Ghosts V) (r : ReplyOf V) → IfSome (reply_word_of r) (λ w. first_word (reply_text k r) ≡ reply_word_text w)
first k (reply.B r) = broadcast_first k (broadcast.reply_parts r)
first k (reply.W r) = watch_first k (watch.reply_parts r)
first k reply.NoChannel = tt
