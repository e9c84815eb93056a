use Rattle.std.proofs.Common.{◌∙◌, Some, ap, refl, sym, inl}
use Rattle.std.specs.Fn.{FnOnceReturnsAtMut}
use Rattle.rw_desk.proofs.modification.modification.Goals as goal

pub returns-in-Some-Sender : goal.returns-in-Some-Sender
returns-in-Some-Sender g c =
    let made : FnOnceReturnsAtMut g.F.FnOnce c.args.f c.in-Watch.channel.shown.value c.f.result c.f.new.arg2 =
    record { shown = _; shows = c.value-value.ensures; left = _; met = c.f.ensures; leaves = refl } in
    rw c.in-Watch.is (inl (
      sym c.kind.ensures.kind ∙ (c.in-Some-Sender.is ∙ ap Some c.in-Some-Sender.field-0-is),
      c.is_told-told.result,
      c.f.new.arg2,
      (c.f.result, made, c.is_told-told.ensures),
      refl,
    ))
