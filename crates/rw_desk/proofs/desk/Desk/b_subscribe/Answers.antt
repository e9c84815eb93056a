use Rattle.rw_desk.proofs.desk.Desk.b_subscribe.Goals as goal

-- it is what the call that makes a receiver returns
pub returns : goal.returns
returns g c = c.b_new_receiver.ensures
