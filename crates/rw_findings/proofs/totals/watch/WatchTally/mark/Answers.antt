use Rattle.std.proofs.Common.{sym}
use Rattle.rw_findings.proofs.totals.watch.WatchTally.mark.Goals as goal

pub after_mark-requires : goal.after_mark-requires
after_mark-requires c = c.requires.watchers c.args.handle c.in-Some.watcher (sym c.in-Some.ensures)
