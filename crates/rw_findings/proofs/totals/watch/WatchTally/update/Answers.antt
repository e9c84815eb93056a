use Rattle.std.proofs.Common.{sym}
use Rattle.rw_findings.proofs.totals.watch.WatchTally.update.Goals as goal

pub after_update-requires : goal.after_update-requires
after_update-requires c = c.requires.watchers c.args.handle c.in-Some.watcher (sym c.in-Some.ensures)
