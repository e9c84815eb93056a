use Rattle.rw_desk.specs.Desks.{refusal_to_open}
use Rattle.rw_desk.proofs.Opened.{where_none}
use Rattle.rw_desk.proofs.desk.Desk.open.Goals as goal

pub returns-in-Ok-clause-opened : goal.returns-in-Ok-clause-opened
returns-in-Ok-clause-opened g c = where_none (refusal_to_open c.args.specs.now c.args.actors) _ c.in-Ok.ensures
