use Rattle.std.proofs.Common.{rules, ◌≡◌, ◌<◌, ◌∙◌}
use Rattle.rw_broadcast.specs.Shown.{next, reply_of}
use Rattle.rw_broadcast.proofs.Showing.{documented}
use Rattle.rw_broadcast.proofs.machine.reversible.BroadcastReversible.apply.Goals as goal

pub returns-else-makes-clause-documented : goal.returns-else-makes-clause-documented
returns-else-makes-clause-documented g c r shows =
    let x = c.args.self.now.shown in
    let some : 0 < x.capacity = search rules in
    let reply : c.perform.result.0 ≡ reply_of x c.args.call.now = search rules in
    let view : c.perform.new.self.shown ≡ next x c.args.call.now = search rules in
    let as_documented = documented x c.args.call.now some r shows in
    (reply ∙ as_documented.0, view ∙ as_documented.1)
