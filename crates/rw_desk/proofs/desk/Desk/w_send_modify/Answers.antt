use Rattle.std.proofs.Common.{◌≡◌, true}
use Rattle.std.specs.Fn.{FnOnceReturnsAtMut}
use Rattle.std.proofs.lemmas.Result.{IfOk-weaker}
use Rattle.rw_desk.proofs.Modifications.{modified_as}
use Rattle.rw_desk.proofs.desk.Desk.w_send_modify.Goals as goal

pub returns-clause-modified : goal.returns-clause-modified
returns-clause-modified g c =
    IfOk-weaker c.w_modify.result _ _ (λ r modified.
    modified_as _ (λ v told w. (told ≡ true) × FnOnceReturnsAtMut g.F.FnOnce c.args.f v tt w) _ _ c.args.pass.now c.w_modify.new.pass c.args.sender.now.channel
    c.args.sender.now.number r (λ v told w made. (made.2, made.1)) modified) c.w_modify.ensures.modified
