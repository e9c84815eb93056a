use Rattle.std.proofs.Common.{drop}
use Rattle.std.proofs.lemmas.List.{take-append-drop}
use Rattle.rw_lines.proofs.streams.put_out.Goals as goal

pub returns-in-Err-clause-err : goal.returns-in-Err-clause-err
returns-in-Err-clause-err g c = (
  tt,
  record {
    text = _;
    rest = drop c.in-Err.field-0.written c.args.bytes.now;
    written = c.in-Err.ensures.err;
    prefix = take-append-drop c.in-Err.field-0.written c.args.bytes.now;
  },
)
