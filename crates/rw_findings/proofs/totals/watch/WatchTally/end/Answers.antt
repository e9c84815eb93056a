use Rattle.std.proofs.Common.{sym}
use Rattle.rw_findings.proofs.totals.watch.WatchTally.end.Goals as goal

pub after_end-requires : goal.after_end-requires
after_end-requires c = c.requires.watchers c.args.handle c.in-Some.watcher (sym c.in-Some.ensures)
