use Rattle.rw_waiting.proofs.watches.told_on_watch.Goals as goal

pub returns-in-Left : goal.returns-in-Left
returns-in-Left g c = rw c.in-Left.is (cc)

pub returns-in-LeftUnmarked : goal.returns-in-LeftUnmarked
returns-in-LeftUnmarked g c = rw c.in-LeftUnmarked.is (cc)
