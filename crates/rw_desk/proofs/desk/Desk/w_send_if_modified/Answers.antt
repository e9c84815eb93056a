use Rattle.std.proofs.Common.{subst, sym}
use Rattle.std.specs.Fn.{FnOnceReturnsAtMut}
use Rattle.std.proofs.lemmas.Result.{IfOk-weaker}
use Rattle.rw_desk.proofs.Modifications.{modified_as}
use Rattle.rw_desk.proofs.desk.Desk.w_send_if_modified.Goals as goal

pub returns-clause-modified : goal.returns-clause-modified
returns-clause-modified g c =
    IfOk-weaker c.w_modify.result _ _ (λ r modified.
    modified_as _ (λ v told w. FnOnceReturnsAtMut g.F.FnOnce c.args.f v told w) _ _ c.args.pass.now c.w_modify.new.pass c.args.sender.now.channel
    c.args.sender.now.number r (λ v told w made. subst (λ t. FnOnceReturnsAtMut g.F.FnOnce c.args.f v t w) (sym made.2) made.1) modified)
    c.w_modify.ensures.modified
