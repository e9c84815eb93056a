use Rattle.std.proofs.Common.{◌∙◌, ap, length, subst, arith}
use Rattle.std.proofs.lemmas.List.{take_all}
use Rattle.rw_navigator.specs.declared.moves.Move.TheVariants.{Back}
use Rattle.rw_navigator.specs.Moves.{answers_to, landing_all, distance_all}
use Rattle.rw_navigator.specs.Navigator.{MovedTo}
use Rattle.rw_navigator.proofs.MovesMade.{told_on, walked_on}
use Rattle.rw_navigator.proofs.Visits.{unmoved}
use Rattle.rw_navigator.proofs.places.Navigator.walk.Goals as goal

pub loop-to-init : goal.loop-to-init
loop-to-init g c = record {
  told = c.in_ok-answers.ensures.items;
  moved = unmoved g.R.Reversible c.args.self.now c.place-place.ensures.visit;
  count = c.in_ok-answers.ensures.len;
  room = c.in_ok-answers.ensures.capacity;
}

pub push_reserved-requires : goal.push_reserved-requires
push_reserved-requires g c = omega (arith, c.loop-to.invariant.count, c.loop-to.invariant.room)

pub loop-to-preserved : goal.loop-to-preserved
loop-to-preserved g c =
    let o = c.args.self.now in
    let v = c.loop-to.self in
    let kept = c.loop-to.invariant in
    record {
      told = told_on (length o.entries) o.place (length v.entries) v.place c.args.moves.now c.loop-to.to-index (Back 0)
          c.loop-to.answers.items c.push_reserved.new.self.items c.step-answer.result
          c.loop-to-test.true c.push_reserved.ensures.items c.step-answer.ensures.answer (ap length kept.moved.entries) kept.moved.place kept.told;
      moved = walked_on g.R.Reversible o v c.step-answer.new.self c.args.moves.now c.loop-to.to-index (Back 0)
          c.loop-to-test.true kept.moved c.step-answer.ensures.moved;
      count = omega (arith, c.push_reserved.ensures.len, kept.count);
      room = omega (arith, c.push_reserved.ensures.capacity, kept.room);
    }

pub returns-clause-answers : goal.returns-clause-answers
returns-clause-answers g c =
    let o = c.args.self.now in
    c.loop-to.invariant.told ∙ ap (answers_to (length o.entries) o.place) (take_all c.loop-to.to-index c.args.moves.now (omega arith))

pub returns-clause-moved : goal.returns-clause-moved
returns-clause-moved g c =
    let o = c.args.self.now in
    let len = length o.entries in
    subst (λ made. MovedTo g.R.Reversible o c.loop-to.self (landing_all len o.place made) (distance_all len o.place made))
    (take_all c.loop-to.to-index c.args.moves.now (omega arith)) c.loop-to.invariant.moved
