use Rattle.std.proofs.Common.{rules}
use Rattle.rw_broadcast.proofs.Dozed.{dozes_already}
use Rattle.rw_broadcast.proofs.machine.Broadcast.doze.Goals as goal

pub returns-else-position-last-clause-shown : goal.returns-else-position-last-clause-shown
returns-else-position-last-clause-shown g c = dozes_already c.args.self.now.shown c.args.id c.in-Some.position (search rules) (search rules)
