use Rattle.std.proofs.Common.{◌≡◌, All, arith, subst}
use Rattle.std.proofs.lemmas.List.{take_all}
use Rattle.std.proofs.lemmas.List.Elements.{All-more}
use Rattle.rw_desk.specs.Settling.{projection}
use Rattle.test_claims.specs.declared.receipts.Receipts.{Receipts}
use Rattle.test_claims.proofs.receipts.agree.Goals as goal

pub loop-receipts-preserved : goal.loop-receipts-preserved
loop-receipts-preserved c =
    let Same = λ (r : Receipts). r.kept.items ≡ projection r.actor c.args.run.now.entries in
    All-more Same c.args.all.now c.loop-receipts.receipts-index c.receipts-item.result c.loop-receipts-test.true c.loop-receipts.invariant
    (subst Same c.receipts-item.is (c.are_its_entries.ensures.0 c.if-not-are_its_entries.false))

pub returns : goal.returns
returns c many = subst (All (λ (r : Receipts). r.kept.items ≡ projection r.actor c.args.run.now.entries))
    (take_all c.loop-receipts.receipts-index c.args.all.now (omega arith)) c.loop-receipts.invariant
