use Rattle.std.proofs.Common.{Some, sym, ◌∙◌, ap, arith}
use Rattle.std.specs.Option.{option_map}
use Rattle.rw_world.proofs.OneMember.{view_at, slice_get_at, weigh_at, least_at, least_set}
use Rattle.rw_world.proofs.members.apply_at.Goals as goal

pub apply-requires : goal.apply-requires
apply-requires g c =
    let m = g.M.Reversible in
    omega (
      arith,
      weigh_at m.shown m.weigh c.args.members.now c.args.i c.index-members-i.result c.requires.within,
      least_at m.reserved c.args.members.now c.args.i c.index-members-i.result c.requires.within,
    )

pub returns-clause-view : goal.returns-clause-view
returns-clause-view g c =
    let m = g.M.Reversible in
    view_at m.shown (λ x. m.next x c.args.call.now) c.args.members.now c.args.i c.index-members-i.result c.apply.new.self c.requires.within c.apply.ensures.view

pub returns-clause-reply : goal.returns-clause-reply
returns-clause-reply g c =
    let m = g.M.Reversible in
    ap Some c.apply.ensures.reply ∙ sym (ap (option_map (λ x. m.reply_of x c.args.call.now))
    (slice_get_at m.shown c.args.members.now c.args.i c.index-members-i.result c.requires.within))

pub returns-clause-patch : goal.returns-clause-patch
returns-clause-patch g c =
    let m = g.M.Reversible in
    ap Some c.apply.ensures.patch ∙ sym (ap (option_map (λ x. m.patch_of x c.args.call.now))
    (slice_get_at m.shown c.args.members.now c.args.i c.index-members-i.result c.requires.within))

pub returns-clause-room : goal.returns-clause-room
returns-clause-room g c = least_set g.M.Reversible.reserved c.args.members.now c.args.i c.index-members-i.result c.apply.new.self c.requires.within
    c.apply.ensures.room
