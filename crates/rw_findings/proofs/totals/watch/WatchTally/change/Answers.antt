use Rattle.std.proofs.Common.{sym}
use Rattle.rw_findings.proofs.totals.watch.WatchTally.change.Goals as goal

pub after_change-requires : goal.after_change-requires
after_change-requires c = c.requires.watchers c.args.handle c.in-Some.watcher (sym c.in-Some.ensures)
