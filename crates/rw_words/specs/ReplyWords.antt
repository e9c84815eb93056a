-- The first words of replies, of either kind of channel.
use Rattle.std.specs.Prelude.{ℕ, List, Option, None, find, option_map}
use Rattle.std.specs.Option.{option_or}
use Rattle.std.specs.Str.{bytes_eq}
use Rattle.rw_lines.specs.Cut.{cut}
use Rattle.rw_world.specs.declared.channels.ChanReply.TheVariants as reply
use Rattle.rw_words.specs.declared.reply_word.ReplyWord.{ReplyWord}
use Rattle.rw_words.specs.declared.reply_word.ReplyWord.TheVariants.{Broadcast, Watch}
use Rattle.rw_words.specs.BroadcastWords as broadcast
use Rattle.rw_words.specs.WatchWords as watch
use Rattle.rw_words.specs.Words.{first_part}
use Rattle.rw_words.specs.Texts.{ReplyOf}

-- what is before the first space of a text
abbrev pub first_word : List ℕ → List ℕ
first_word text = first_part text (cut 32 text)

abbrev pub reply_word_text : ReplyWord → List ℕ
reply_word_text (Broadcast w) = broadcast.reply_word_text w
reply_word_text (Watch w) = watch.reply_word_text w

-- the word that has this text, of a broadcast's replies or else of a watch's
abbrev pub reply_word_in : List ℕ → Option ReplyWord
reply_word_in token = option_or
    (option_map Broadcast (find (λ w. bytes_eq (broadcast.reply_word_text w) token) broadcast.reply_words))
    (option_map Watch (find (λ w. bytes_eq (watch.reply_word_text w) token) watch.reply_words))

-- the word of a reply; a reply that waits or strays has none
abbrev pub reply_word_of : {V : Type 0} → ReplyOf V → Option ReplyWord
reply_word_of (reply.B r) = option_map (λ p. Broadcast p.0) (broadcast.reply_parts r)
reply_word_of (reply.W r) = option_map (λ p. Watch p.0) (watch.reply_parts r)
reply_word_of reply.NoChannel = None
