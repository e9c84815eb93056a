use Rattle.std.proofs.lemmas.Result.{IfErr-weaker, IfOk-weaker}
use Rattle.rw_program.proofs.FileRuns.{no_script}
use Rattle.rw_program.proofs.reading.read_script.Goals as goal

pub returns-in-Ok-clause-script : goal.returns-in-Ok-clause-script
returns-in-Ok-clause-script g c =
    let whole = c.in-Ok.ensures in
    IfOk-weaker c.script_of.result _ _ (λ script said. (c.in-Ok.bytes.items, whole.read, whole.whole, whole.few, said))
    (rw c.deref.ensures.value at c.script_of.ensures.script)

pub returns-in-Ok-clause-refused : goal.returns-in-Ok-clause-refused
returns-in-Ok-clause-refused g c =
    let whole = c.in-Ok.ensures in
    IfErr-weaker c.script_of.result _ _ (λ why said.
    no_script (g.F.Read.remaining c.args.file.now) (g.F.Read.remaining c.read_whole.new.reader) c.in-Ok.bytes.items whole.read whole.few why
    (λ Said here. (c.in-Ok.bytes.items, whole.read, whole.whole, whole.few, here)) said)
    (rw c.deref.ensures.value at c.script_of.ensures.refused)
