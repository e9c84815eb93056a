use Rattle.std.proofs.Common.{◌≡◌, ◌≤◌, length, take, vec_len, vec_capacity}
use Rattle.rw_navigator.specs.Navigator.{MovedTo}
use Rattle.rw_navigator.specs.Moves.{answers_to, landing_all, distance_all}
use Rattle.rw_navigator.proofs.places.Navigator.walk.Given as goal

-- the results, the place and the distance are those of the moves so far
abbrev pub invariant-loop-to : goal.invariant-loop-to
invariant-loop-to g l =
    let len = length l.fn.self.entries in
    let p = l.fn.self.place in
    let made = take l.to-index l.moves in
    record {
      told : l.answers.items ≡ answers_to len p made;
      moved : MovedTo g.R.Reversible l.fn.self l.self (landing_all len p made) (distance_all len p made);
      count : vec_len l.answers ≡ l.to-index;
      room : length l.moves ≤ vec_capacity l.answers;
    }
