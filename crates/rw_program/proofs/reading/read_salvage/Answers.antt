use Rattle.std.proofs.lemmas.Result.{IfErr-weaker, IfOk-weaker}
use Rattle.rw_law.specs.Numbers.{numbers}
use Rattle.rw_text.specs.Salvaging.{salvage_of}
use Rattle.rw_program.proofs.FileRuns.{no_text}
use Rattle.rw_program.proofs.reading.read_salvage.Goals as goal

pub returns-in-Ok-clause-held : goal.returns-in-Ok-clause-held
returns-in-Ok-clause-held g c =
    let whole = c.in-Ok.ensures in
    IfOk-weaker c.salvage_of.result _ _ (λ p said. (c.in-Ok.bytes.items, whole.read, whole.whole, whole.few, said))
    (rw c.deref.ensures.value at c.salvage_of.ensures.held)

pub returns-in-Ok-clause-refused : goal.returns-in-Ok-clause-refused
returns-in-Ok-clause-refused g c =
    let whole = c.in-Ok.ensures in
    IfErr-weaker c.salvage_of.result _ _ (λ why said.
    no_text (salvage_of numbers) (g.F.Read.remaining c.args.file.now) (g.F.Read.remaining c.read_whole.new.reader) c.in-Ok.bytes.items whole.read whole.few
    why (λ Said here. (c.in-Ok.bytes.items, whole.read, whole.whole, whole.few, here)) said)
    (rw c.deref.ensures.value at c.salvage_of.ensures.refused)
