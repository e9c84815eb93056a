use Rattle.std.proofs.Common.{◌<◌, map, arith}
use Rattle.rw_desk.proofs.Following.{left, whole}
use Rattle.rw_desk.proofs.straying.strayed.Goals as goal

pub returns-in-Some-clause-some : goal.returns-in-Some-clause-some
returns-in-Some-clause-some g c =
    let all = c.follow_all-nearest.ensures.at in
    let found = c.in-Some.ensures in
    left (map g.P.HasPass.pass_of c.args.passes.now) c.args.entries.now c.follow_all-nearest.new.numbers c.follow_all-nearest.result.actor all c.in-Some.actor
    found.some.0 found.some.1 found.least

pub returns-then-nearest-lt-MOST_ACTORS-clause-some : goal.returns-then-nearest-lt-MOST_ACTORS-clause-some
returns-then-nearest-lt-MOST_ACTORS-clause-some g c =
    let nearest = c.follow_all-nearest.result in
    record {
      least = λ b below. whole (map g.P.HasPass.pass_of c.args.passes.now) c.args.entries.now c.follow_all-nearest.new.numbers nearest.actor
          c.follow_all-nearest.ensures.at b below (c.in_default.ensures.none b below);
      differs = c.follow_all-nearest.ensures.strays c.if-nearest-lt-MOST_ACTORS.true;
    }

pub returns-clause-none : goal.returns-clause-none
returns-clause-none g c a known =
    let nearest = c.follow_all-nearest.result in
    let below : a < nearest.actor = omega (arith, known, c.if-nearest-lt-MOST_ACTORS.false) in
    whole (map g.P.HasPass.pass_of c.args.passes.now) c.args.entries.now c.follow_all-nearest.new.numbers nearest.actor c.follow_all-nearest.ensures.at a below
    (c.in_default.ensures.none a below)
