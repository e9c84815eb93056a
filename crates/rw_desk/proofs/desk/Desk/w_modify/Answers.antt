use Rattle.std.proofs.Common.{◌≡◌, Bool, IsTrue, Some, refl, subst, sym}
use Rattle.std.specs.Fn.{FnOnceReturnsAtMut}
use Rattle.rw_watch.specs.declared.calls.WCall.TheVariants.{Borrow}
use Rattle.rw_desk.specs.declared.faults.DeskFault.TheVariants.{NoChannel}
use Rattle.rw_desk.specs.Modifying.{HasModified, HasModifiedChannel}
use Rattle.rw_desk.proofs.Errors.{handed_on, other_error}
use Rattle.rw_desk.proofs.Modifications.{only_watches_modified}
use Rattle.rw_desk.proofs.WaitReplies.{no_fault, strays_alike, watch_found, watch_there}
use Rattle.rw_desk.proofs.desk.Desk.w_modify.Goals as goal

pub returns-in_default-clause-no_channel : goal.returns-in_default-clause-no_channel
returns-in_default-clause-no_channel g c = (
  λ _. subst IsTrue (strays_alike c.args.self.now.specs c.args.sender.now.channel (Borrow c.args.sender.now.number)) (c.in_default.ensures.none.0 refl),
  λ _. refl,
)

pub modify-requires-clause-watch : goal.modify-requires-clause-watch
modify-requires-clause-watch g c = watch_there c.in-Some.spec.now (Borrow c.args.sender.now.number) c.in-Some.ensures.some

pub returns-in_err-reply-clause-no_channel : goal.returns-in_err-reply-clause-no_channel
returns-in_err-reply-clause-no_channel g c =
    let fault = c.in_err-reply.field-0.0 in
    rw (handed_on c.from_residual.result fault c.from_residual.ensures.1) (
      λ h. absurd (other_error fault NoChannel c.in_err-reply.ensures.no_stray h),
      λ none. absurd (watch_found c.args.self.now.specs c.args.sender.now.channel (Borrow c.args.sender.now.number) c.in-Some.ensures.none.1 none),
    )

pub unreachable-requires : goal.unreachable-requires
unreachable-requires g c =
    let makes : g.row.V.Denot → Bool → g.row.V.Denot → Type 0 =
    λ v told w. (t : g.row.T.Denot) × FnOnceReturnsAtMut g.F.FnOnce c.args.f v t w × (told ≡ g.T.Told.tells t) in
    only_watches_modified makes (Some c.in-Some.spec.now) c.args.pass.now c.modify.new.pass c.args.sender.now.channel c.args.sender.now.number (λ v. Unit {0})
    c.in_ok-reply.field-0 c.in_ok-reply.ensures.modified c.in_default-2.not-W

pub returns-clause-modified : goal.returns-clause-modified
returns-clause-modified g c =
    let makes : g.row.V.Denot → Bool → g.row.V.Denot → Type 0 =
    λ v told w. (t : g.row.T.Denot) × FnOnceReturnsAtMut g.F.FnOnce c.args.f v t w × (told ≡ g.T.Told.tells t) in
    let channel = c.args.sender.now.channel in
    let number = c.args.sender.now.number in
    let modified = subst (HasModifiedChannel makes (λ v. Unit {0}) (Some c.in-Some.spec.now) c.args.pass.now c.modify.new.pass channel number) c.in-W.is
    c.in_ok-reply.ensures.modified in
    subst (λ spec. HasModified makes (λ v. Unit {0}) spec c.args.pass.now c.modify.new.pass channel number c.in-W.reply) (sym c.in-Some.ensures.there) modified

pub returns-clause-no_channel : goal.returns-clause-no_channel
returns-clause-no_channel g c = (
  λ h. absurd (no_fault c.in-W.reply NoChannel h),
  λ none. absurd (watch_found c.args.self.now.specs c.args.sender.now.channel (Borrow c.args.sender.now.number) c.in-Some.ensures.none.1 none),
)
