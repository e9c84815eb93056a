use Rattle.rw_waiting.proofs.broadcasts.told_on_broadcast.Goals as goal

pub returns-in-Left : goal.returns-in-Left
returns-in-Left g c = rw c.in-Left.is (cc)
