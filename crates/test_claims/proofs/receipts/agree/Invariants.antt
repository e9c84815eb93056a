use Rattle.std.proofs.Common.{◌≡◌, All, take}
use Rattle.rw_desk.specs.Settling.{projection}
use Rattle.test_claims.proofs.receipts.agree.Given as goal

abbrev pub invariant-loop-receipts : goal.invariant-loop-receipts
invariant-loop-receipts l = All (λ r. r.kept.items ≡ projection r.actor l.run.entries) (take l.receipts-index l.all)
