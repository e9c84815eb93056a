use Rattle.std.proofs.Common.{arith}
use Rattle.rw_program.proofs.files.end_of_refused.Goals as goal

pub returns-in-Text : goal.returns-in-Text
returns-in-Text g c = rw c.in-Text.is (c.end_with.ensures _ (omega arith) c.line.ensures)
