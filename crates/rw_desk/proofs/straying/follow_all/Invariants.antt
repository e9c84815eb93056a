use Rattle.std.proofs.Common.{◌≡◌, ◌≤◌, length, map, take}
use Rattle.rw_desk.specs.Straying.{AreAt, StraysAt}
use Rattle.rw_desk.proofs.straying.follow_all.Given as goal

abbrev pub invariant-loop-entry : goal.invariant-loop-entry
invariant-loop-entry g l =
    let ps = map g.P.HasPass.pass_of l.passes in
    (length l.numbers ≡ 64) × (l.nearest.actor ≤ 64) × AreAt ps (take l.entry-index l.entries) l.numbers l.nearest.actor × StraysAt ps l.entries l.nearest
