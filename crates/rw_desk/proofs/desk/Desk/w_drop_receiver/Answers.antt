use Rattle.std.proofs.Common.{refl}
use Rattle.rw_desk.proofs.desk.Desk.w_drop_receiver.Goals as goal

pub returns-in-Ok : goal.returns-in-Ok
returns-in-Ok g c = record { answered = c.in-Ok.ensures; back = tt }

pub returns-in-Err : goal.returns-in-Err
returns-in-Err g c = record { answered = c.in-Err.ensures; back = refl }
