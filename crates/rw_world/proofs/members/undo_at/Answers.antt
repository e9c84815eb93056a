use Rattle.rw_world.proofs.OneMember.{view_at, fits_at, least_set}
use Rattle.rw_world.proofs.members.undo_at.Goals as goal

pub undo-requires : goal.undo-requires
undo-requires g c =
    let m = g.M.Reversible in
    fits_at m.shown (λ x. m.fits x c.args.call.now c.args.patch.now) c.args.members.now c.args.i c.index-members-i.result c.requires.within c.requires.fits

pub returns-clause-view : goal.returns-clause-view
returns-clause-view g c =
    let m = g.M.Reversible in
    view_at m.shown (λ x. m.back x c.args.call.now c.args.patch.now) c.args.members.now c.args.i c.index-members-i.result c.undo.new.self c.requires.within
    c.undo.ensures.view

pub returns-clause-room : goal.returns-clause-room
returns-clause-room g c = least_set g.M.Reversible.reserved c.args.members.now c.args.i c.index-members-i.result c.undo.new.self c.requires.within
    c.undo.ensures.room
