use Rattle.rw_findings.specs.Values.{gone}
use Rattle.rw_findings.proofs.LossCode.{set_at, past_at}
use Rattle.rw_findings.proofs.values.finding.overwrite.Goals as goal

pub returns-then-number-values : goal.returns-then-number-values
returns-then-number-values g c = set_at (gone c.args.place) c.args.values.now c.args.number c.index-values-number.result c.go.new.value c.if-number-values.true
    c.go.ensures

pub returns-else-number-values : goal.returns-else-number-values
returns-else-number-values g c = past_at (gone c.args.place) c.args.values.now c.args.number c.if-number-values.false
