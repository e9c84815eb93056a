use Rattle.std.proofs.Common.{◌≤◌, ◌<◌, ℕ, get_or, length, map}
use Rattle.rw_desk.specs.Closing.{receipts_of}
use Rattle.rw_desk.proofs.straying.first_left.Given as goal

abbrev pub invariant-loop-actor : goal.invariant-loop-actor
invariant-loop-actor g l = (a : ℕ) → a < l.actor → length (receipts_of a (map g.P.HasPass.pass_of l.passes)) ≤ get_or l.numbers a 0
