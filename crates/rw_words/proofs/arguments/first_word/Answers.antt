use Rattle.std.proofs.Common.{sym}
use Rattle.rw_lines.proofs.CutLaws.{cut_parts, lacks_uncut}
use Rattle.rw_words.proofs.arguments.first_word.Goals as goal

pub returns-in-None-clause-apart : goal.returns-in-None-clause-apart
returns-in-None-clause-apart c = lacks_uncut 32 c.args.text.now (sym c.in-None.ensures)

pub returns-in-Some-clause-apart : goal.returns-in-Some-clause-apart
returns-in-Some-clause-apart c = (cut_parts 32 c.args.text.now (c.in-Some.word.now, c.in-Some.rest.now) (sym c.in-Some.ensures)).0

pub returns-in-Some-clause-whole : goal.returns-in-Some-clause-whole
returns-in-Some-clause-whole c = (cut_parts 32 c.args.text.now (c.in-Some.word.now, c.in-Some.rest.now) (sym c.in-Some.ensures)).1
