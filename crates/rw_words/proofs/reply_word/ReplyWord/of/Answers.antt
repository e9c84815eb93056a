use Rattle.rw_words.proofs.ReplyWordLaws.{found}
use Rattle.rw_words.proofs.reply_word.ReplyWord.of.Goals as goal

pub returns-clause-found : goal.returns-clause-found
returns-clause-found c = rw c.word_in.ensures (found c.args.token.now)
