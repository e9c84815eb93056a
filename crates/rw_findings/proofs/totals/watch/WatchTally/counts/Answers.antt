use Rattle.std.proofs.Common.{sym, ◌∙◌, subst}
use Rattle.rw_findings.specs.WatchTallies.{HasRoomUpTo, WatchTally}
use Rattle.rw_findings.proofs.totals.watch.WatchTally.counts.Goals as goal

pub unseen_at-requires : goal.unseen_at-requires
unseen_at-requires c =
    let room = c.requires.watchers c.args.handle c.in_ok-watcher.watcher (sym c.watcher.ensures ∙ c.in_ok-watcher.was) in
    subst (λ (t : WatchTally). HasRoomUpTo t.version c.in_ok-watcher.watcher.marks) (sym c.self.view_is) room.marks
