use Rattle.rw_script.proofs.FollowLaws.{Follows}
use Rattle.rw_script.proofs.following.follow.Given as goal

abbrev pub invariant-each_step : goal.invariant-each_step
invariant-each_step l = Follows l.fn.pass l.fn.steps l.step-index l.number l.made.items
