use Rattle.std.proofs.Common.{ℕ}
use Rattle.std.specs.Prelude.{slice_get}
use Rattle.std.specs.Fn.{FnReturnsAt}
use Rattle.rw_desk.specs.Waiting.{HasTriedTimes}
use Rattle.rw_desk.proofs.desk.Desk.w_wait_for.Given as goal

abbrev pub invariant-loop : goal.invariant-loop
invariant-loop g l =
    (goal.iterator-loop g).can_next l.iterator' × (goal.iterator-loop g).is_finite l.iterator'
    × ((n : ℕ) × HasTriedTimes (λ v told. FnReturnsAt g.F.Fn l.f v told) (slice_get l.self.specs l.receiver.channel) l.receiver.channel l.receiver.number n
    l.initial.pass l.pass)
