use Rattle.std.proofs.lemmas.Result.{IfErr-weaker, IfOk-weaker}
use Rattle.rw_law.specs.Numbers.{numbers}
use Rattle.rw_text.specs.Reading.{reading_of}
use Rattle.rw_program.proofs.FileRuns.{no_text}
use Rattle.rw_program.proofs.reading.read_run.Goals as goal

pub returns-in-Ok-clause-run : goal.returns-in-Ok-clause-run
returns-in-Ok-clause-run g c =
    let whole = c.in-Ok.ensures in
    IfOk-weaker c.run_of.result _ _ (λ run said. (c.in-Ok.bytes.items, whole.read, whole.whole, whole.few, said))
    (rw c.deref.ensures.value at c.run_of.ensures.run)

pub returns-in-Ok-clause-refused : goal.returns-in-Ok-clause-refused
returns-in-Ok-clause-refused g c =
    let whole = c.in-Ok.ensures in
    IfErr-weaker c.run_of.result _ _ (λ why said.
    no_text (reading_of numbers) (g.F.Read.remaining c.args.file.now) (g.F.Read.remaining c.read_whole.new.reader) c.in-Ok.bytes.items whole.read whole.few
    why (λ Said here. (c.in-Ok.bytes.items, whole.read, whole.whole, whole.few, here)) said)
    (rw c.deref.ensures.value at c.run_of.ensures.refused)
