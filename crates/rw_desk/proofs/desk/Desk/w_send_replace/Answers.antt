use Rattle.rw_desk.proofs.desk.Desk.w_send_replace.Goals as goal

-- it is what the call of the channel returns
pub returns : goal.returns
returns g c = c.w_call.ensures
