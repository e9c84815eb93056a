use Rattle.rw_desk.proofs.desk.Desk.w_clone_receiver.Goals as goal

-- it is what the call that makes a receiver returns
pub returns : goal.returns
returns g c = c.w_new_receiver.ensures
