use Rattle.std.proofs.Common.{refl}
use Rattle.rw_desk.specs.declared.faults.DeskFault.TheVariants.{NoChannel}
use Rattle.rw_desk.proofs.Errors.{no_error}
use Rattle.rw_desk.proofs.desk.Desk.b_clone_sender.Goals as goal

-- the handle has the number in the reply
pub returns-in-New : goal.returns-in-New
returns-in-New g c = record {
  answered = record {
    receipt = rw c.in-New.is at c.in_ok-reply.ensures.receipt;
    refused = tt;
    no_channel = no_error c.in_ok-reply.reply _ NoChannel _ c.in_ok-reply.ensures.no_channel;
  };
  made = refl;
}
