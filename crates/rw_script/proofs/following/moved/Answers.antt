use Rattle.std.proofs.Common.{◌≡◌, ◌+◌, ◌∙◌, Some, length, ap, refl, subst}
use Rattle.std.specs.Prelude.{slice_get}
use Rattle.std.proofs.lemmas.Option.{slice_get_read}
use Rattle.rw_script.proofs.following.moved.Goals as goal

pub returns-then-is_call : goal.returns-then-is_call
returns-then-is_call c =
    let found = c.in_ok-receipt.ensures.lookup in
    let k = c.in_ok-receipt.receipt.now in
    let ks = c.kept.result.now in
    let at : slice_get c.args.pass.now.kept c.args.number ≡ Some k =
    subst (λ xs. slice_get xs c.args.number ≡ Some k) c.kept.ensures.kept (slice_get_read ks (length ks) c.args.number k refl found.3.0 found.1) in
    record {
      own = λ same. record { receipt = k; at = at; call = c.is_call.ensures c.if-is_call.true; to_is = ap (λ h. (c.args.number + 1, h)) c.made_by.ensures };
      other = λ differs. absurd (differs (c.if-step-actor.false ∙ c.actor.ensures.actor));
    }
