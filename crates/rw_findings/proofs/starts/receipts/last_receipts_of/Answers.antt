use Rattle.std.proofs.Common.{subst, sym}
use Rattle.rw_findings.specs.Receivers.{AreLastGiven}
use Rattle.rw_findings.proofs.ReceiptSteps.{receipts_first}
use Rattle.rw_findings.proofs.starts.receipts.last_receipts_of.Goals as goal

pub follow_to-requires-clause-here : goal.follow_to-requires-clause-here
follow_to-requires-clause-here g c = subst (AreLastGiven c.args.run.now 0) (sym c.new-given.ensures) (receipts_first c.args.run.now)
