use Rattle.rw_desk.proofs.desk.Desk.w_closed.Goals as goal

-- it is what the call of the channel returns
pub returns-clause-answered : goal.returns-clause-answered
returns-clause-answered g c = c.w_wait.ensures.answered
