use Rattle.rw_handles.proofs.Renaming.{left_or_same}
use Rattle.rw_broadcast.proofs.Renumbering.{has_room_after}
use Rattle.rw_broadcast.proofs.machine.Broadcast.renumber.Goals as goal

pub invariant_of-self : goal.invariant_of-self
invariant_of-self g c =
    let case = left_or_same c.renumber.result _ _ _ (λ before is. is.left) c.renumber.ensures.renumbered c.renumber.ensures.same in
    has_room_after c.self.inside c.renumber.new.self case c.renumber.ensures.room c.self.invariant
