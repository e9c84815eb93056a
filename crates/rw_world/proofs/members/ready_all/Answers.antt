use Rattle.std.proofs.Common.{◌≡◌, ℕ, ◌+◌, ◌-◌, ◌<◌, ◌≤◌, length, map, get_or, drop, ◌∙◌, ap, arith}
use Rattle.rw_world.specs.Lists.{greatest, least}
use Rattle.rw_world.proofs.OneMember.{same_at, weigh_at, least_at, least_grows, least_from}
use Rattle.rw_world.proofs.members.ready_all.Goals as goal

pub ready_one-requires-clause-weight : goal.ready_one-requires-clause-weight
ready_one-requires-clause-weight g c =
    let m = g.M.Reversible in
    let i : ℕ = c.loop-i.i - 1 in
    let inside : i < length c.loop-i.members = omega arith in
    let same : greatest m.weigh (map m.shown c.loop-i.members) ≡ greatest m.weigh (map m.shown c.args.members.now) =
    ap (greatest m.weigh) c.loop-i.invariant.view in
    omega (arith, weigh_at m.shown m.weigh c.loop-i.members i c.index-members-i.result inside, c.requires.weight)

pub loop-i-preserved : goal.loop-i-preserved
loop-i-preserved g c =
    let m = g.M.Reversible in
    let i : ℕ = c.loop-i.i - 1 in
    let inside : i < length c.loop-i.members = omega arith in
    let next : i + 1 ≡ c.loop-i.i = omega arith in
    let rest : c.args.wanted ≤ least m.reserved (drop (i + 1) c.loop-i.members) = rw next c.loop-i.invariant.room in
    record {
      view = same_at m.shown c.loop-i.members i c.index-members-i.result c.ready_one.new.machine inside c.ready_one.ensures.view ∙ c.loop-i.invariant.view;
      room = least_from m.reserved c.loop-i.members i c.args.wanted c.ready_one.new.machine inside c.in_ok-ready_one.ensures.room rest;
      kept = omega (
        arith,
        c.loop-i.invariant.kept,
        least_grows m.reserved c.loop-i.members i c.index-members-i.result c.ready_one.new.machine inside c.ready_one.ensures.kept,
      );
    }

pub returns-in_err-ready_one-clause-view : goal.returns-in_err-ready_one-clause-view
returns-in_err-ready_one-clause-view g c =
    let m = g.M.Reversible in
    let i : ℕ = c.loop-i.i - 1 in
    let inside : i < length c.loop-i.members = omega arith in
    same_at m.shown c.loop-i.members i c.index-members-i.result c.ready_one.new.machine inside c.ready_one.ensures.view ∙ c.loop-i.invariant.view

pub returns-in_err-ready_one-clause-kept : goal.returns-in_err-ready_one-clause-kept
returns-in_err-ready_one-clause-kept g c =
    let m = g.M.Reversible in
    let i : ℕ = c.loop-i.i - 1 in
    let inside : i < length c.loop-i.members = omega arith in
    omega (
      arith,
      c.loop-i.invariant.kept,
      least_grows m.reserved c.loop-i.members i c.index-members-i.result c.ready_one.new.machine inside
          c.ready_one.ensures.kept,
    )

pub returns-in_err-ready_one-clause-ample : goal.returns-in_err-ready_one-clause-ample
returns-in_err-ready_one-clause-ample g c h =
    let m = g.M.Reversible in
    let i : ℕ = c.loop-i.i - 1 in
    let inside : i < length c.loop-i.members = omega arith in
    let enough : c.args.wanted ≤ m.reserved (get_or c.loop-i.members i c.index-members-i.result) =
    omega (arith, c.loop-i.invariant.kept, least_at m.reserved c.loop-i.members i c.index-members-i.result inside) in
    cc (c.in_err-ready_one.ensures.ample enough)
