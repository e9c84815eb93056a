use Rattle.std.proofs.Common.{◌≡◌, map, drop}
use Rattle.rw_desk.specs.Closing.{receipts_of}
use Rattle.rw_desk.proofs.straying.receipts_of.Given as goal

abbrev pub invariant-loop-pass : goal.invariant-loop-pass
invariant-loop-pass g l =
    let ps = map g.P.HasPass.pass_of l.passes in
    receipts_of l.actor (drop l.pass-index ps) ≡ receipts_of l.actor ps
