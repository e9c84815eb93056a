use Rattle.std.proofs.Common.{sym}
use Rattle.rw_findings.proofs.totals.watch.WatchTally.look.Goals as goal

pub after_look-requires : goal.after_look-requires
after_look-requires c = c.requires.watchers c.args.handle c.in-Some.watcher (sym c.in-Some.ensures)
