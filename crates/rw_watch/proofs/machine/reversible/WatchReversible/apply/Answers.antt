use Rattle.std.proofs.Common.{rules, ◌≡◌}
use Rattle.rw_watch.specs.Shown.{next, reply_of}
use Rattle.rw_watch.proofs.Showing.{documented}
use Rattle.rw_watch.proofs.machine.reversible.WatchReversible.apply.Goals as goal

pub returns-else-makes-clause-documented : goal.returns-else-makes-clause-documented
returns-else-makes-clause-documented g c =
    let y = c.args.self.now.shown in
    let reply : c.perform.result.0 ≡ reply_of y c.args.call.now = search rules in
    let view : c.perform.new.self.shown ≡ next y c.args.call.now = search rules in
    documented y c.perform.new.self.shown c.args.call.now c.perform.result.0 reply view
