use Rattle.rw_words.proofs.ReplyWordLaws.{first}
use Rattle.rw_words.proofs.reply_word.ReplyWord.of_reply.Goals as goal

pub returns-clause-first : goal.returns-clause-first
returns-clause-first g c = rw c.reply_word_of.ensures (first g.V.Payload c.args.reply.now)
