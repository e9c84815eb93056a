use Rattle.std.proofs.Common.{IfOk, subst, sym}
use Rattle.std.proofs.lemmas.Bool.{true≢false}
use Rattle.rw_desk.specs.Passes.{HasReceipt}
use Rattle.rw_desk.proofs.desk.Desk.wait_call.Goals as goal

-- it is what the lock returns, and if there is a lock, the call doesn't stray
pub returns-in-Some-clause-answered : goal.returns-in-Some-clause-answered
returns-in-Some-clause-answered g c = record {
  receipt = subst (λ spec. IfOk c.wait_call.result (λ reply. HasReceipt spec c.args.pass.now c.wait_call.new.pass c.args.channel c.args.call reply))
      (sym c.in-Some.ensures.there) c.wait_call.ensures.receipt;
  refused = c.wait_call.ensures.refused;
  no_channel = (λ h. absurd (c.wait_call.ensures.no_stray h), λ none. absurd (true≢false (c.in-Some.ensures.none.1 none)));
}
