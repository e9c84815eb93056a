use Rattle.std.proofs.Common.{◌≡◌, ℕ, ◌≤◌, length, vec_capacity}
use Rattle.std.specs.Prelude.{Some, slice_get}
use Rattle.rw_findings.specs.Receivers.{AreLastGiven, IsStart}
use Rattle.rw_findings.specs.declared.losses.loss.Loss.{Loss}
use Rattle.rw_findings.proofs.ReceiptSteps.{AreFound}
use Rattle.rw_findings.proofs.starts.finding.starts_of.Given as goal

abbrev pub invariant-loop-loss : goal.invariant-loop-loss
invariant-loop-loss g l = record {
  run : l.visitor.run ≡ l.run;
  here : l.visitor.place ≡ l.place;
  given : AreLastGiven l.run l.place l.given;
  later : (j : ℕ) (loss : Loss) → l.loss-index ≤ j → slice_get l.losses j ≡ Some loss → l.place ≤ loss.from;
  found : AreFound (IsStart l.run) l.losses l.loss-index l.starts.items;
  room : length l.losses ≤ vec_capacity l.starts;
}
