use Rattle.std.proofs.Common.{drop}
use Rattle.std.proofs.lemmas.List.{take-append-drop}
use Rattle.rw_law.specs.Numbers.{numbers}
use Rattle.rw_text.specs.Texts.{text}
use Rattle.rw_program.proofs.files.write_journal.Goals as goal

pub returns-in-Err-clause-prefix : goal.returns-in-Err-clause-prefix
returns-in-Err-clause-prefix g c =
    let prefix = c.in-Err.ensures.err in
    record {
      text = _;
      rest = drop prefix.n (text numbers c.args.run.now);
      written = prefix.written;
      prefix = take-append-drop prefix.n (text numbers c.args.run.now);
    }
