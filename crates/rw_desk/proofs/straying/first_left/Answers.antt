use Rattle.std.proofs.Common.{◌≡◌, ◌≤◌, ℕ, get_or, length, map, ap, inl, inr, subst, arith}
use Rattle.std.proofs.lemmas.Bool.{cases_lt}
use Rattle.rw_desk.specs.Closing.{receipts_of}
use Rattle.rw_desk.proofs.straying.first_left.Goals as goal

pub loop-actor-preserved : goal.loop-actor-preserved
loop-actor-preserved g c a below =
    let IsNone : ℕ → Type 0 = λ b. length (receipts_of b (map g.P.HasPass.pass_of c.args.passes.now)) ≤ get_or c.args.numbers.now b 0 in
    elim (cases_lt a c.loop-actor.actor) [
      | inl lt ↦ c.loop-actor.invariant a lt
      | inr le ↦ let last : c.loop-actor.actor ≡ a = omega arith in subst IsNone last (omega (arith, c.if-numbers-actor.false, ap length c.receipts_of.ensures))
    ]

pub returns-then-numbers-actor-clause-some : goal.returns-then-numbers-actor-clause-some
returns-then-numbers-actor-clause-some g c = (c.loop-actor-test.true, omega (arith, c.if-numbers-actor.true, ap length c.receipts_of.ensures))

pub returns-then-numbers-actor-clause-least : goal.returns-then-numbers-actor-clause-least
returns-then-numbers-actor-clause-least g c = c.loop-actor.invariant

pub returns-clause-none : goal.returns-clause-none
returns-clause-none g c = λ a below. c.loop-actor.invariant a (omega (arith, below))
