use Rattle.rw_desk.proofs.desk.Desk.b_receiver_count.Goals as goal

-- it is what the call of the channel returns
pub returns : goal.returns
returns g c = c.b_call.ensures
